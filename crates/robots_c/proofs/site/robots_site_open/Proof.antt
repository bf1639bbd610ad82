use Rattle.c_calls.proofs.Borrowing.{◌≡◌, [], ◌∷◌, refl, ‵, ◌⊛◌, ◌$◌, ◌∵◌, ! }
use Rattle.c_calls.proofs.Borrowing as m
use Rattle.c_calls.proofs.Keeping.{id⊢, ℤ, ◌≢◌}
use Rattle.c_calls.proofs.Keeping as d
use Rattle.c_calls.specs.{Kept.Sites, Status.HasError, Status.IsWhyNoSite}
use Rattle.c_calls.specs.contracts.site.opened as callee
use Rattle.c_calls.proofs.site.opened.Met.{met}
use Rattle.robots_c.proofs.site.robots_site_open.Statement.{statement}
use Rattle.robots_c.specs.contracts.site.robots_site_open as self
use Rattle.robots_c.proofs.site.robots_site_open.Code as code

pub robots_site_open_spec : {M : Type 1} → statement M
robots_site_open_spec 𝓤 𝓛 𝓜 𝓡 wired =
    let S = self.signature in let fn = code.function in
    m.meets 𝓛 𝓜 𝓡 S (self.spec 𝓛 𝓜.mem 𝓡.returns) self.Key.name fn (code.unfolded 𝓤 𝓛.H 𝓜 𝓡 wired) (λ z are.
    let a = z.0.3 in let vs = z.0.4 in let out = a.1.1.1.0 in
    let κs : m.Lfts 1 = (z.0.0.0, tt) in
    let given_at : m.Args callee.signature κs = (a.0, (a.1.0, (a.1.1.0, (out.now, tt)))) in
    let W : Type 0 = m.Lasts callee.ended κs given_at in let V : Type 0 = m.Lasts self.ended z.0.0 a in
    let made : W → m.Ptr → V = λ w p. (tt, (tt, (tt, (p, tt)))) in
    let rest : ℤ → m.Ptr → d.SProp 𝓤 = λ r p. d.sep 𝓤 (m.fact 𝓤 (r ≢ d.pos 0
    → p ≡ out.now)) (m.fact 𝓤 (HasError IsWhyNoSite r)) in
    let E : ℤ → V → d.SProp 𝓤 = m.ensured_by self.ended (self.clauses 𝓛 𝓜.mem 𝓡.returns) z.0.0 a z.1 in
    m.qed 𝓛 ((‵ (m.tokens 2 z.0.0 z.0.1) ⊛ ‵ (m.owns (m.types_at S.params z.0.0) a vs)) ∷ m.raw (d.emp 𝓤) ∷
    []) ∵
    let words_with : m.Word → m.List m.Word = λ w. m.heap 𝓛 a.0 vs.0 are.0 ∷ m.slice are.1.0.0
    ∷ m.flag are.1.1.0 ∷ w ∷ [] in
    let words = words_with (m.place are.1.1.1.0.0) in let given_words = words_with (m.pointer 𝓛 out.now) in
    d.opens_out 𝓛 𝓜 𝓡 Sites (d.named 1) z.0.0.1.0 z.0.1.1.0 out (m.flft z.0.0.0 z.0.1.0
    ∷ []) (m.tokens 0 z.0.0.1.1 z.0.1.1.1)
    (m.lasts self.ended z.0.0 a) E made (m.lasts callee.ended κs given_at)
    (m.ensured_by callee.ended (callee.clauses 𝓛 𝓜.mem 𝓡.returns) κs given_at tt) (d.ftrue ∷ d.ftrue ∷ d.ftrue
    ∷ []) (λ w. d.ftrue)
    (λ w. id⊢ 𝓤 _) (λ w p. id⊢ 𝓤 _)
    (λ r w. d.owned_now 𝓛 𝓜 𝓡 Sites _ _ (rest r.status r.at) r
    (λ is zero. (_, refl, is zero)))
    (_ ∷ _ ∷ _ ∷ []) _ _ _ _ fn given_words words
    (met 𝓤 𝓛 𝓜 𝓡 (code.calls-c_calls::site::opened 𝓡.env wired)
    ((κs, (z.0.1.0, tt), tt, given_at, (vs.0, (vs.1.0, (vs.1.1.0, (m.ptr_val out.now ∷ [], tt))))), tt))
    (λ X Q given. m.enter ! _ _ _ _ _ $ m.alloc_all ! (λ l. m.pass_all ! refl (m.goods words) $
    d.await ! tt $ d.split ! $
    m.sets ! (m.of_opd ! (m.load ! (m.through ! refl (m.stop !)) (m.look ! 0 refl))) refl (m.pointer_typed 𝓛
    out.now) $
    m.sets ! (m.local ! refl) refl (m.pointer_typed 𝓛 out.now) $
    d.move ! (1 ∷ []) $ m.hands_on 𝓛 𝓜 𝓡 ! given (m.arg ! refl (m.arg ! refl (m.arg ! refl (m.arg ! refl
    (m.no_more !)))))
    (λ u r is. let p = m.pointer_typed 𝓛 r.at in let n = d.status_typed r.status is.1 in
    m.lands_as ! is.0 refl (d.and_tt _ p.0, (n.1, (p.1, tt))) $
    m.sets ! (m.of_opd ! (m.get_in ! (m.fld ! refl (m.stop !)) (m.sub ! 0 refl (m.whole !)))) refl n $
    m.sets ! (m.of_opd ! (m.get_in ! (m.fld ! refl (m.stop !)) (m.sub ! 1 refl (m.whole !)))) refl p $
    m.sets ! (m.local ! refl) refl p $
    m.assigns ! (m.local ! refl) (m.through ! refl (m.stop !)) (m.store ! 1 refl p) $
    m.sets ! (m.local ! refl) refl n $
    m.returns ! (m.look_at ! 0 refl) $ m.free_all ! refl $ d.wrote 𝓛 𝓜 𝓡 Sites out Q r is.1))))
