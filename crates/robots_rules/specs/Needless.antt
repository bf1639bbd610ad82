-- Rules that can be deleted without changing a verdict.
use Rattle.std.specs.Prelude.{◌≡◌, ℕ, ◌+◌, ◌==◌, not, Bool, false, true, Contains, List, [], ◌∷◌, codes}
use Rattle.std.specs.Prelude.{filter, map}
use Rattle.std.specs.List.{enumerate_from, list_any}
use Rattle.robots_rules.specs.declared.needless.{NeedlessRule.NeedlessRule}
use Rattle.robots_rules.specs.{Same.HaveSameVerdicts}
use Rattle.texting_robots.specs.Callers.{IsRejected, LineValue, PlacedRule, agents_in, delay_for}
use Rattle.texting_robots.specs.Callers.{rules_for, sitemaps_in}
use Rattle.texting_robots.specs.Line.{Allow, Disallow}

abbrev pub numbers_of : List NeedlessRule → List ℕ
numbers_of found = map (λ (one : NeedlessRule). one.line) found

-- the rules that are found, and lines of rules that may be needless, too
pub record NeedlessValue : Type 0 where
  pub rules : List NeedlessRule
  pub undecided : List ℕ

abbrev pub nothing : NeedlessValue
nothing = record { rules = []; undecided = [] }

abbrev pub without : List ℕ → List PlacedRule → List PlacedRule
without numbers rules =
    filter (λ (placed : PlacedRule). not (list_any (λ number. number == placed.line) numbers)) rules

-- counted from 1
abbrev pub lines_without : {A : Type 0} → List ℕ → List A → List A
lines_without {A = A} numbers lines =
    map (λ (p : ℕ × A). p.1)
    (filter (λ (p : ℕ × A). not (list_any (λ number. number == p.0 + 1) numbers)) (enumerate_from 0 lines))

abbrev pub is_rule : LineValue → Bool
is_rule (Allow value) = true
is_rule (Disallow value) = true
is_rule line = false

-- both lists of lines mean the same for the crawler: it isn't rejected, and has the same delay, and the same
-- verdict on every text
pub record MeanTheSame (agent : List ℕ) (lines left : List LineValue) : Type 0 where
  pub accepted : ¬ IsRejected agent lines
  pub left_accepted : ¬ IsRejected agent left
  pub delay : delay_for agent left ≡ delay_for agent lines
  pub verdicts : HaveSameVerdicts [] (rules_for agent lines) (rules_for agent left)

-- the lines with these numbers can be deleted together: for `*`, and each crawler that the file names, those
-- that are left mean the same, and they list the same sitemaps
pub record AreDeletable (numbers : List ℕ) (lines : List LineValue) : Type 0 where
  pub alike : (agent : List ℕ) → Contains (codes "*" ∷ agents_in lines) agent
      → MeanTheSame agent lines (lines_without numbers lines)
  pub sitemaps : sitemaps_in (lines_without numbers lines) ≡ sitemaps_in lines
