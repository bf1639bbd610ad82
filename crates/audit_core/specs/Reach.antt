-- What a crawler may fetch. Crawlers ask for match targets, which begin with `/`.
use Rattle.std.specs.Prelude.{◌≡◌, ◌≢◌, ℕ, Bool, true, false, ◌&&◌, List, [], ◌∷◌, ◌++◌, Contains, codes}
use Rattle.std.specs.Prelude.{length, nat_le, not}
use Rattle.texting_robots.specs.Callers.{IsVerdict, Matches, PlacedRule, robots_file, unplaced}
use Rattle.robots_warnings.specs.Closed.{is_whole_site}
use Rattle.audit_core.specs.declared.reach.Reach.{Reach}
use Rattle.audit_core.specs.declared.reach.Reach.TheVariants.{Everything, Listed, Nothing, Part}

-- an Allow in one of these lines matches the text
pub record IsOpened (rules : List PlacedRule) (lines text : List ℕ) : Type 0 where
  pub allow : PlacedRule
  pub listed : Contains rules allow
  pub allows : allow.rule.1 ≡ true
  pub matches : Matches allow.rule.0 text
  pub in_line : Contains lines allow.line

-- what the rules allow of the match targets; the lines are those of Allows. `Part` says nothing
abbrev pub IsReach : List PlacedRule → Reach → (lines : List ℕ) → Type 0
IsReach rules Everything lines = (rest : List ℕ) → IsVerdict (unplaced rules) (codes "/" ++ rest) true
IsReach rules Nothing lines = (rest : List ℕ) → (codes "/" ++ rest ≢ robots_file)
    → IsVerdict (unplaced rules) (codes "/" ++ rest) false
IsReach rules Listed lines = (rest : List ℕ) → (codes "/" ++ rest ≢ robots_file)
    → IsVerdict (unplaced rules) (codes "/" ++ rest) true → IsOpened rules lines (codes "/" ++ rest)
IsReach rules Part lines = Unit {0}

abbrev pub is_allow : PlacedRule → Bool
is_allow placed = placed.rule.1

abbrev pub is_long_allow : ℕ → PlacedRule → Bool
is_long_allow least placed = placed.rule.1 && nat_le least (length placed.rule.0)

-- a Disallow of the whole site
abbrev pub is_closing : PlacedRule → Bool
is_closing placed = not placed.rule.1 && is_whole_site placed.rule.0

abbrev pub plain_rules : (is_open : Bool) → List PlacedRule
plain_rules true = []
plain_rules false = record { rule = (codes "/", false); line = 0 } ∷ []
