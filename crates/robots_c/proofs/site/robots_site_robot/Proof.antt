use Rattle.c_calls.proofs.Borrowing.{◌≡◌, ℕ, [], ◌∷◌, refl, ◌$◌, ◌∵◌, ! }
use Rattle.c_calls.proofs.Borrowing as m
use Rattle.c_calls.proofs.Keeping.{id⊢, ℤ, ◌≢◌}
use Rattle.c_calls.proofs.Keeping as d
use Rattle.c_calls.specs.{File.IsRobotFor, File.read_text, Status.HasErrorAt, Status.IsWhyNoRobot}
use Rattle.c_calls.specs.Kept.{Robots, Sites, opens}
use Rattle.c_calls.specs.contracts.site.robot_opened as callee
use Rattle.c_calls.proofs.site.robot_opened.Met.{met}
use Rattle.robots_c.proofs.site.robots_site_robot.Statement.{statement}
use Rattle.robots_c.specs.contracts.site.robots_site_robot as self
use Rattle.robots_c.proofs.site.robots_site_robot.Code as code

pub robots_site_robot_spec : {M : Type 1} → statement M
robots_site_robot_spec 𝓤 𝓛 𝓜 𝓡 wired =
    let S = self.signature in let fn = code.function in
    m.meets 𝓛 𝓜 𝓡 S (self.spec 𝓛 𝓜.mem 𝓡.returns) self.Key.name fn (code.unfolded 𝓤 𝓛.H 𝓜 𝓡 wired) (λ z are.
    let a = z.0.3 in let vs = z.0.4 in let κ = z.1.0 in let q = z.1.1 in let x = z.1.2 in
    let out = a.1.1.1.0 in let line = a.1.1.1.1.0 in
    let κs : m.Lfts 3 = (κ, (z.0.0.0, (z.0.0.1.1.0, tt))) in
    let given_at : ℕ → ℕ → m.Args callee.signature κs = λ b o. (
      a.0,
      (
        m.reference x b o,
        (
          a.1.1.0,
          (
            out.now,
            (line, tt),
          ),
        ),
      ),
    ) in
    let W : Type 0 = m.Lasts callee.ended κs (given_at 0 0) in let V : Type 0 = m.Lasts self.ended z.0.0 a in
    let made : W → m.Ptr → V = λ w p. (tt, (tt, (tt, (p, (w.1.1.1.1.0, tt))))) in
    let rest : ℤ → m.Ptr → ℕ → d.SProp 𝓤 = λ r p n. d.sep 𝓤 (m.fact 𝓤 (r ≢ d.pos 0 → p ≡ out.now))
    (m.fact 𝓤 (HasErrorAt (IsWhyNoRobot a.1.1.0.now (read_text x)) r line.now n)) in
    let E : ℤ → V → d.SProp 𝓤 = λ r w. d.sep 𝓤 (d.sem 𝓛 (opens Robots (IsRobotFor a.1.1.0.now x) r w.1.1.1.0))
    (rest r w.1.1.1.0 w.1.1.1.1.0) in
    m.qed 𝓛 (m.context 𝓛 Sites a.1.0 x κ q S z.0 []) ∵
    m.and_nothing 𝓛 (m.lends 𝓛 𝓜 𝓡 Sites a.1.0 x κ q (_ ∷ []) _ _ fn _ (m.lasts self.ended z.0.0 a) E (λ b o
    e.
    let words_with : m.Word → m.List m.Word = λ w. m.heap 𝓛 a.0 vs.0 are.0 ∷ m.lent_place are.1.0 e
    ∷ m.slice are.1.1.0.0 ∷ w ∷ m.place are.1.1.1.1.0.0 ∷ [] in
    let words = words_with (m.place are.1.1.1.0.0) in let given_words = words_with (m.pointer 𝓛 out.now) in
    d.opens_out 𝓛 𝓜 𝓡 Robots (d.named 1) z.0.0.1.0 z.0.1.1.0 out (m.flft κ q ∷ m.flft z.0.0.0 z.0.1.0
    ∷ []) (m.tokens 1 z.0.0.1.1 z.0.1.1.1)
    (m.lasts self.ended z.0.0 a) E made (m.lasts callee.ended κs (given_at 0 0))
    (m.ensured_by callee.ended (callee.clauses 𝓛 𝓜.mem 𝓡.returns) κs (given_at 0 0) tt)
    (d.ftrue ∷ d.ftrue ∷ d.ftrue ∷ [])
    (λ w. d.fsep (d.last_value d.usize z.0.0.1.1.0 line w.1.1.1.1.0) d.ftrue)
    (λ w. id⊢ 𝓤 _) (λ w p. id⊢ 𝓤 _)
    (λ r w. d.owned_now 𝓛 𝓜 𝓡 Robots _ _ (rest r.status r.at w.1.1.1.1.0) r (λ is. is))
    (_ ∷ _ ∷ _ ∷ []) _ _ _ _ fn given_words words
    (met 𝓤 𝓛 𝓜 𝓡 (code.calls-c_calls::site::robot_opened 𝓡.env wired) (
      (
        κs,
        (q, (z.0.1.0, (z.0.1.1.1.0, tt))),
        tt,
        given_at b o,
        (vs.0, (vs.1.0, (vs.1.1.0, (m.ptr_val out.now ∷ [], (vs.1.1.1.1.0, tt))))),
      ),
      tt,
    ))
    (λ X Q given. m.enter ! _ _ _ _ _ $ m.alloc_all ! (λ l. m.pass_all ! refl (m.goods words) $
    d.await ! tt $ d.split ! $
    m.sets ! (m.local ! refl) refl (tt, tt) $
    m.sets ! (m.again ! refl) refl (tt, tt) $
    m.sets ! (m.of_opd ! (m.load ! (m.through ! refl (m.stop !)) (m.look ! 0 refl))) refl (m.pointer_typed 𝓛
    out.now) $
    m.sets ! (m.local ! refl) refl (m.pointer_typed 𝓛 out.now) $
    m.sets ! (m.again ! refl) refl (tt, tt) $
    d.move ! (1 ∷ []) $ m.hands_on 𝓛 𝓜 𝓡 ! given (m.arg ! refl (m.arg ! refl (m.arg ! refl (m.arg ! refl
    (m.arg ! refl (m.no_more !))))))
    (λ u r is. let p = m.pointer_typed 𝓛 r.at in let n = d.status_typed r.status is.1 in
    m.lands_as ! is.0 refl (d.and_tt _ p.0, (n.1, (p.1, tt))) $
    m.sets ! (m.of_opd ! (m.get_in ! (m.fld ! refl (m.stop !)) (m.sub ! 0 refl (m.whole !)))) refl n $
    m.sets ! (m.of_opd ! (m.get_in ! (m.fld ! refl (m.stop !)) (m.sub ! 1 refl (m.whole !)))) refl p $
    m.sets ! (m.local ! refl) refl p $
    m.assigns ! (m.local ! refl) (m.through ! refl (m.stop !)) (m.store ! 1 refl p) $
    m.sets ! (m.local ! refl) refl n $
    m.returns ! (m.look_at ! 0 refl) $ m.free_all ! refl $ d.wrote 𝓛 𝓜 𝓡 Robots out Q r is.1))))))
