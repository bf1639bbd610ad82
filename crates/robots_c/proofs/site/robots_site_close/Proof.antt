use Rattle.c_calls.proofs.Borrowing.{[], ◌∷◌, refl, ‵, ◌⊛◌, ◌$◌, ◌∵◌, ! }
use Rattle.c_calls.proofs.Borrowing as m
use Rattle.c_calls.proofs.Keeping.{lit<, id⊢}
use Rattle.c_calls.proofs.Keeping as d
use Rattle.c_calls.specs.Kept.{Sites, owned_or_null}
use Rattle.c_calls.specs.contracts.site.close as callee
use Rattle.c_calls.proofs.site.close.Met.{met}
use Rattle.robots_c.proofs.site.robots_site_close.Statement.{statement}
use Rattle.robots_c.specs.contracts.site.robots_site_close as self
use Rattle.robots_c.proofs.site.robots_site_close.Code as code
use denote.Triple.Spec.{triple_of}

pub robots_site_close_spec : {M : Type 1} → statement M
robots_site_close_spec 𝓤 𝓛 𝓜 𝓡 wired =
    let S = self.signature in let fn = code.function in let tables = m.𝓣 𝓛 𝓜 𝓡 in
    let t = triple_of 𝓛 S (self.spec 𝓛 𝓜.mem 𝓡.returns) in
    m.meets 𝓛 𝓜 𝓡 S (self.spec 𝓛 𝓜.mem 𝓡.returns) self.Key.name fn (code.unfolded 𝓤 𝓛.H 𝓜 𝓡 wired) (λ z are.
    let a = z.0.3 in let vs = z.0.4 in let at = a.1.0 in let h = m.heap 𝓛 a.0 vs.0 are.0 in let Q = t.post z
    in
    let done = d.returns_unit 𝓛 (m.lasts self.ended tt a) (tt, (tt, tt)) (id⊢ 𝓤 _) in
    m.qed 𝓛 ((‵ (m.tokens 0 tt tt) ⊛ ‵ (m.owns (m.types_at S.params tt) a vs)) ∷ ‵ (owned_or_null Sites at
    z.1)
    ∷ []) ∵
    d.closes_unless_null 𝓛 𝓜 𝓡 Sites at z.1 a.0 _ h fn _ Q (m.lasts callee.ended tt (
      record {
        at = at;
        alloc =
            a.0;
        value = z.1;
      },
      tt,
    ))
    (λ e. let ws = h ∷ d.null_place are.1.0 e ∷ [] in (
      ws,
      refl,
      m.enter ! _ _ _ _ _ $ m.alloc_all ! (λ l. m.pass_all ! refl (m.goods ws) $
          m.sets ! (d.bin ! (m.get ! refl) (d.lit ! tt) (d.tests_null d.null_ptr (d.lit< tt))) refl (tt, tt) $
          d.first ! $ d.branches ! (m.get ! refl) (λ _. m.sets ! (m.of_opd ! (d.unit_lit !)) refl (tt, tt) $
          d.returns_within ! Q refl (m.look_at ! 0 refl) $ m.free_all ! refl $
          d.by ! done) (λ wrong. absurd wrong)),
    ))
    (λ b o e may. let ws = h ∷ m.lent_place are.1.0 e ∷ [] in (
      ws,
      refl,
      λ X given. m.enter ! _ _ _ _ _ $ m.alloc_all ! (λ l. m.pass_all ! refl (m.goods ws) $
          let Ev = d.env fn.locals l in
          m.sets ! (d.bin ! (m.get ! refl) (d.lit ! tt) (d.tests_null (d.block_ptr b o) may)) refl (tt, tt) $
          d.first ! $ d.branches ! (m.get ! refl) (λ wrong. absurd wrong)
          (λ _. d.skips ! $ d.exec ! tables.C tables.Λ Ev (d.after 2 fn.body) (d.at_ret Ev Q) $
          m.sets ! (m.local ! refl) refl (tt, tt) $
          m.sets ! (m.agg ! (m.arg ! refl (m.arg ! refl (m.no_more !)))) refl
          (d.and_tt _ h.good.0, (tt, (h.good.1, tt))) $
          m.hands_on 𝓛 𝓜 𝓡 ! given (m.arg ! refl (m.no_more !)) (λ v r good.
          m.lands_as ! refl refl good $ m.sets ! (m.of_opd ! (d.unit_lit !)) refl (tt, tt) $
          m.returns ! (m.look_at ! 0 refl) $ m.free_all ! refl $ d.by ! done))),
    ))
    (λ b o. met 𝓤 𝓛 𝓜 𝓡 (code.calls-c_calls::site::close 𝓡.env wired) (
      (
        tt,
        tt,
        tt,
        (record { at = d.block_ptr b o; alloc = a.0; value = z.1 }, tt),
        (
          d.handle_word b o h.value
              ∷ [],
          tt,
        ),
      ),
      tt,
    )))
