-- A crawler's rules as a set, and what becomes of its verdicts.
use Rattle.std.specs.Prelude.{◌≡◌, ℕ, Bool, List, if◌then◌else◌}
use Rattle.std.specs.{Borrow.Bor, Cmp.Lexicographic.slice_cmp, Ordering.nat_cmp}
use Rattle.std.specs.BTreeSet.{BTreeSet, contains_by, contains_text}
use Rattle.texting_robots.specs.Callers.{AnswerAlike, PlacedRule, Rule}
use Rattle.audit_compare.specs.declared.rule_sets.{RuleSet.RuleSet}
use Rattle.audit_compare.specs.{Compare.has_rule}
use Rattle.audit_core.specs.declared.audit.{Crawler.Crawler, Reading.Reading}
use Rattle.audit_core.specs.declared.audit.Reading.TheVariants.{Accepted, Rejected}

abbrev pub contains_rule : RuleSet → Rule → Bool
contains_rule set rule =
    if rule.1 then contains_text set.allowed rule.0 else contains_text set.denied rule.0

-- exactly these rules
pub record HasRules (rules : List PlacedRule) (set : RuleSet) : Type 0 where
  pub each : (rule : Rule) → contains_rule set rule ≡ has_rule rules rule

abbrev pub is_met : BTreeSet (Bor (List ℕ)) → List ℕ → Bool
is_met texts text = contains_by (λ other. slice_cmp nat_cmp text other.now) texts

-- the robot, if there is one, answers as the rules do
abbrev pub answers_by : Reading → List PlacedRule → Type 0
answers_by (Accepted robot) rules = AnswerAlike robot.rules rules
answers_by (Rejected line) rules = Unit {0}

abbrev pub AnswersByRules : Crawler → Type 0
AnswersByRules crawler = answers_by crawler.reading crawler.rules.items
