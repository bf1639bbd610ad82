-- How two lists of rules compare. A text is any list of numbers.
use Rattle.std.specs.Prelude.{◌≡◌, ◌↔◌, ℕ, Bool, List, ◌++◌}
use Rattle.texting_robots.specs.{Rules.Rule, Verdict.IsVerdict}
use Rattle.robots_rules.specs.declared.compare.Comparison.{Comparison}
use Rattle.robots_rules.specs.declared.compare.Comparison.TheVariants.{Differ, Same, Undecided}

-- on every text that begins with `front`, one list has a verdict exactly if the other one has it
abbrev pub HaveSameVerdicts : List ℕ → List Rule → List Rule → Type 0
HaveSameVerdicts front old new = (text : List ℕ) (answer : Bool)
    → IsVerdict old (front ++ text) answer ↔ IsVerdict new (front ++ text) answer

-- the text begins with `front`, and the lists have opposite verdicts on it
pub record DifferOn (front text : List ℕ) (old new : List Rule) : Type 0 where
  pub rest : List ℕ
  pub begins : text ≡ front ++ rest
  pub differ : (answer : Bool) → IsVerdict old text answer → ¬ IsVerdict new text answer

-- nothing is said of lists that aren't decided
abbrev pub IsComparison : List ℕ → List Rule → List Rule → Comparison → Type 0
IsComparison front old new Same = HaveSameVerdicts front old new
IsComparison front old new (Differ text) = DifferOn front text.items old new
IsComparison front old new Undecided = Unit {0}
