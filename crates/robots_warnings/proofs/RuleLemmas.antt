-- What is found among the rules of a crawler.
use Rattle.std.proofs.Common.{◌≡◌, ℕ, ◌==◌, Bool, false, true, List, arith, inl, inr, length, refl}
use Rattle.std.proofs.Common.{Any, subst, ◌∙◌, ◌&&◌, ◌<◌, Contains, String, string_bytes, not}
use Rattle.std.proofs.Common.{◌||◌, map, Bor, slice_index_or}
use Rattle.std.proofs.lemmas.Bool.{cases_Bool, and_parts, not-true}
use Rattle.std.proofs.lemmas.List.{get_or-map, length-map}
use Rattle.std.specs.{Global.Global, String.string_eq, HashSet.contains_text}
use Rattle.texting_robots.specs.Callers.{escaped, PlacedRule}
use Rattle.robots_warnings.proofs.ClosedLemmas.{text_added, whole_site_escaped, whole_site_stays}
use Rattle.robots_warnings.specs.Conflicts.{AreOpposed, compared, is_of_all}
use Rattle.robots_warnings.specs.Closed.{denies, is_whole_site}
use Rattle.robots_warnings.specs.Internal.Rules.{Patterns}
use Rattle.std.specs.HashSet as set

pub opposed : (is_empty : ℕ → Bool) (rules : List PlacedRule) (disallow allow : PlacedRule)
    → Contains rules disallow → Contains rules allow → disallow.rule.1 ≡ false
    → (allow.rule.1 && not (is_empty allow.line)) ≡ true → compared allow.rule.0 ≡ compared disallow.rule.0
    → AreOpposed is_empty rules disallow.line allow.line
opposed is_empty rules disallow allow has listed denies permits same =
    let (allows, stated) = and_parts allow.rule.1 _ permits in
    record {
      pattern = disallow.rule.0;
      allowed = allow.rule.0;
      same = same;
      disallow = subst (λ is. Contains rules (record { rule = (disallow.rule.0, is); line = disallow.line }))
          denies has;
      allow = subst (λ is. Contains rules (record { rule = (allow.rule.0, is); line = allow.line }))
          allows listed;
      stated = not-true _ stated;
    }

pub of_all_escaped : (value : List ℕ)
    → is_of_all (escaped value) ≡ (is_whole_site value && length value == 1)
of_all_escaped value = elim (cases_Bool (is_whole_site value)) [
  | inl whole ↦ rw (whole_site_stays value whole) refl
  | inr isnt ↦ rw (whole_site_escaped value, isnt) refl
]

pub denied_added : {S : Type 0} (old new : Patterns S) (key : String Global) (placed : PlacedRule)
    → string_bytes key ≡ placed.rule.0 → placed.rule.1 ≡ false → set.Updates string_eq old new key true
    → (pattern : List ℕ) → contains_text new pattern ≡ (contains_text old pattern || denies pattern placed)
denied_added old new key placed is disallow updates pattern =
    text_added old new key updates pattern ∙ rw (is, disallow) refl

pub for_agent : (P : List ℕ → Type 0) (agents : List (Bor (List ℕ))) (at : ℕ) (item : Bor (List ℕ))
    → at < length agents → P (slice_index_or agents at item).now → Any P (map (λ agent. agent.now) agents)
for_agent P agents at item below is = (
  at,
  (slice_index_or agents at item).now,
  omega (arith, length-map agents (λ agent. agent.now), below),
  get_or-map (λ (agent : Bor (List ℕ)). agent.now) agents at item _ below,
  is,
)
