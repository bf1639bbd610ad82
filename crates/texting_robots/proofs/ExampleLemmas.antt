-- Lemmas by which computation proves the worked examples.
use Rattle.std.proofs.Common.{◌≡◌, ◌==◌, ℕ, nat_lt, ◌&&◌, Bool, true, false, List, length, Some, arith}
use Rattle.std.specs.{Bool.Decides, List.Any, List.list_any}
use Rattle.std.proofs.lemmas.Bool.Decides.{Decides-eqb, not_from_Decides}
use Rattle.std.proofs.lemmas.List.Folds.{Any-from_list_any, list_any-from_Any}
use Rattle.texting_robots.specs.Examples.{Answers, GivesDelay, GivesRules}
use Rattle.texting_robots.specs.Executable.{delay_for, file_lines, placed_rules}
use Rattle.texting_robots.specs.Pattern.{IsOverlong, MatchesWith, collapsed, dollar, longest_with_dollar}
use Rattle.texting_robots.specs.Rules.{AreRulesFor, IsDelayFor, PlacedRule, Rule}
use Rattle.texting_robots.proofs.{BestLemmas.allowed_by, ExecutableLemmas.delay_is_computed}
use Rattle.texting_robots.proofs.BestLemmas.{rule_answers, deciding_rule, line_by, matches, matches_decides}
use Rattle.texting_robots.proofs.MainTheoremLemmas.{placed_are_rules, has_lines}

pub matches_sound : (anchors : Bool) (pattern text : List ℕ) → matches anchors pattern text ≡ true
    → MatchesWith anchors pattern text
matches_sound anchors pattern text is = (matches_decides anchors pattern text).0 is

pub not_matching : (anchors : Bool) (pattern text : List ℕ) → matches anchors pattern text ≡ false
    → ¬ MatchesWith anchors pattern text
not_matching anchors pattern text isnt = not_from_Decides _ (matches_decides anchors pattern text) isnt

pub answers : (rules : List PlacedRule) (text : List ℕ)
    → Answers rules text (allowed_by (deciding_rule rules text)) (line_by (deciding_rule rules text))
answers rules text = let is = rule_answers rules text in record { verdict = is.0; deciding = is.1 }

any_decides : {X : Type 0} (P : X → Type 0) (test : X → Bool) → ((x : X) → Decides (test x) (P x))
    → (xs : List X) → Decides (list_any test xs) (Any P xs)
any_decides P test each xs = (
  λ is. let (k, x, below, at, here) = Any-from_list_any test xs is in (k, x, below, at, (each x).0 here),
  grind (arith, list_any-from_Any, each),
)

abbrev is_overlong : List ℕ → Bool
is_overlong pattern =
    list_any (λ b. b == dollar) pattern && nat_lt longest_with_dollar (length (collapsed pattern))

pub overlong_decides : (pattern : List ℕ) → Decides (is_overlong pattern) (IsOverlong pattern)
overlong_decides pattern =
    let dollars = any_decides (λ b. b ≡ dollar) (λ b. b == dollar) (λ b. Decides-eqb b dollar) pattern in
    grind (arith, dollars.0, dollars.1)

pub any_overlong_decides : (rules : List Rule)
    → Decides (list_any (λ (rule : Rule). is_overlong rule.0) rules)
    (Any (λ (rule : Rule). IsOverlong rule.0) rules)
any_overlong_decides rules = any_decides _ _ (λ (rule : Rule). overlong_decides rule.0) rules

pub gives_rules : (agent file : List ℕ) → GivesRules agent file (placed_rules agent (file_lines file))
gives_rules agent file =
    has_lines file (λ lines. AreRulesFor agent lines (placed_rules agent (file_lines file)))
    (placed_are_rules agent (file_lines file))

pub gives_delay : (agent file : List ℕ) (delay : ℕ) → Some delay ≡ delay_for agent (file_lines file)
    → GivesDelay agent file delay
gives_delay agent file delay is =
    has_lines file (λ lines. IsDelayFor agent lines (Some delay))
    ((delay_is_computed agent (file_lines file) (Some delay)).1 is)
