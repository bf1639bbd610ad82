use Rattle.c_calls.proofs.Borrowing.{ℕ, [], ◌∷◌, refl, ◌$◌, ◌∵◌, ! }
use Rattle.c_calls.proofs.Borrowing as m
use Rattle.c_calls.specs.Kept.{Sites}
use Rattle.c_calls.specs.contracts.site.number as callee
use Rattle.c_calls.proofs.site.number.Met.{met}
use Rattle.robots_c.proofs.site.robots_site_number.Statement.{statement}
use Rattle.robots_c.specs.contracts.site.robots_site_number as self
use Rattle.robots_c.proofs.site.robots_site_number.Code as code

pub robots_site_number_spec : {M : Type 1} → statement M
robots_site_number_spec 𝓤 𝓛 𝓜 𝓡 wired =
    let S = self.signature in
    m.meets 𝓛 𝓜 𝓡 S (self.spec 𝓛 𝓜.mem 𝓡.returns) self.Key.name code.function (code.unfolded 𝓤 𝓛.H 𝓜 𝓡 wired)
    (λ z are.
    let a = z.0.3 in let κ = z.1.0 in let q = z.1.1 in let x = z.1.2 in
    let κs : m.Lfts 3 = (κ, z.0.0) in
    let given_at : ℕ → ℕ → m.Args callee.signature κs = λ b o. (m.reference x b o, a.1) in
    m.qed 𝓛 (m.context 𝓛 Sites a.0 x κ q S z.0 []) ∵
    m.and_nothing 𝓛 (m.borrows 𝓛 𝓜 𝓡 Sites a.0 x κ q [] _ _ _
    (m.lasts callee.ended κs (given_at 0 0))
    (m.ensured_by callee.ended (callee.clauses 𝓛 𝓜.mem 𝓡.returns) κs (given_at 0 0) tt) _ (λ b o e.
    let ws = m.lent_place are.0 e ∷ m.number are.1.0 ∷ m.slice are.1.1.0.0
    ∷ m.place are.1.1.1.0.0 ∷ [] in (
      ws,
      refl,
      λ X Q given. m.enter ! _ _ _ _ _ $ m.alloc_all ! (λ l. m.pass_all ! refl (m.goods ws) $
          m.sets ! (m.local ! refl) refl (tt, tt) $
          m.sets ! (m.again ! refl) refl (tt, tt) $
          m.sets ! (m.again ! refl) refl (tt, tt) $
          m.hands_on 𝓛 𝓜 𝓡 ! given (m.arg ! refl (m.arg ! refl (m.arg ! refl (m.arg ! refl (m.no_more !)))))
          (λ v r good. m.lands_as ! refl refl good $ m.returns ! (m.look_at ! 0 refl) $
          m.free_all ! refl $ m.done !)),
    ))
    (λ b o. met 𝓤 𝓛 𝓜 𝓡 (code.calls-c_calls::site::number 𝓡.env wired)
    ((κs, (q, z.0.1), tt, given_at b o, z.0.4), tt))))
