-- The rules that lines hold, and what follows from them.
use Rattle.std.proofs.Common.{◌≡◌, ◌≢◌, ◌⊎◌, inl, inr, ℕ, suc, ◌+◌, ◌<◌, Bool, cond, List, [], ◌∷◌, Option}
use Rattle.std.proofs.Common.{Some, None, AllPairs, IsPermutation, get_or, length, refl, sym, ap, subst, ◌∙◌}
use Rattle.std.proofs.Common.{◌↔◌, arith, swap, true, Result, Ok, Err, map, take, rules}
use Rattle.std.specs.{List.All, List.Any, List.Contains, List.cons_option, Result.IfErr, Result.IsErrAnd}
use Rattle.std.proofs.{lemmas.Bool.cases_eq, lemmas.List.Kept.AllPairs-cons, lemmas.List.nil_from_length}
use Rattle.std.proofs.{lemmas.List.Elements.Contains-get_or}
use Rattle.std.proofs.lemmas.List.Edits.{Swapped, swapped_from_swap, length-swap}
use Rattle.std.proofs.lemmas.List.Sorted.{IsPermutation-cons, IsPermutation-keeps, IsPermutation-refl}
use Rattle.std.proofs.lemmas.List.Sorted.{IsPermutation-remove, IsPermutation-sym, IsPermutation-trans}
use Rattle.std.proofs.lemmas.List.Sorted.{length_permutation, sum_by-IsPermutation}
use Rattle.texting_robots.specs.Executable.{placed_in, placed_rules, rules_for, delay_for}
use Rattle.texting_robots.specs.Executable.{file_lines, lines_read, sitemaps_in}
use Rattle.texting_robots.specs.Rules.{PlacedRule, Rule, AreRulesFor, IsRejected, AreSitemapsOf, HoldsRule}
use Rattle.texting_robots.specs.Rules.{HasNoRulesOrSitemaps, IsFirstOverlong, IsDelayFor, unplaced}
use Rattle.texting_robots.specs.Line.{LineValue, AreFileLinesOf, HasLines, nul_as_lf}
use Rattle.texting_robots.specs.{Error.IsMemoryErrorOr, MainTheorem.IsAnswerOf, Robot.IsFileRejected}
use Rattle.texting_robots.specs.{Group.group_name, Pattern.IsOverlong, Verdict.IsVerdict, View.LooksAtMost}
use Rattle.texting_robots.specs.{Internal.Captured.is_captured, Internal.Group.placed, View.ViewValue}
use Rattle.texting_robots.specs.{Internal.Robot.IsComputedRobot, declared.error.Error.Error}
use Rattle.texting_robots.specs.Robot.{IsRobotOfFile, AnswerAlike, IsRobotOf, RobotValue, file_limit}
use Rattle.texting_robots.proofs.CapturedLemmas.{cond_some_iff, filter_map_if}
use Rattle.texting_robots.proofs.ExecutableLemmas.{given_come, given_from, placed_held, sitemaps_are_computed}
use Rattle.texting_robots.proofs.{ExecutableLemmas.delay_is_computed, LineLemmas.each_text_has_its_lines}
use Rattle.texting_robots.proofs.RulesLemmas.{any_unplaced, rejected_wider, some_overlong}
use Rattle.texting_robots.proofs.BestLemmas.{placed_of, allowed_if_none, verdict_by_rule}
use Rattle.texting_robots.proofs.VerdictLemmas.{contains_rest, same_elements, longest_permuted}
use Rattle.texting_robots.proofs.VerdictLemmas.{permuted_lines, permuted_verdicts}
use Rattle.texting_robots.specs.Decision.{IsDecidingLine, IsDecidingRule, LooksForRules}

-- ---- The rules that lines hold are the computed ones, in any order.

abbrev pub AreApart : List PlacedRule → Type 0
AreApart rules = AllPairs (λ (one other : PlacedRule). one.line ≢ other.line) rules

one_position : (rules : List PlacedRule) → AreApart rules → (i j : ℕ) (d : PlacedRule) → i < length rules
    → j < length rules → (get_or rules i d).line ≡ (get_or rules j d).line → i ≡ j
one_position rules apart i j d p q same = grind arith

-- `k` is the index from which swapping `a` and `b` moved the item at `m`
abbrev From : ℕ → ℕ → ℕ → ℕ → Type 0
From a b m k =
    ((m ≡ a) × (k ≡ b)) ⊎ (((m ≡ b) × (k ≡ a)) ⊎ ((m ≢ a) × (m ≢ b) × (k ≡ m)))

origin : {X : Type 0} (f g : ℕ → X) (a b m : ℕ) → Swapped f g a b → (m ≡ a) ⊎ (m ≢ a)
    → (m ≡ b) ⊎ (m ≢ b) → (k : ℕ) × From a b m k × (g m ≡ f k)
origin f g a b m s (inl e) y = (b, inl (e, refl), ap g e ∙ s.0)
origin f g a b m s (inr n) (inl e) = grind arith
origin f g a b m s (inr n) (inr o) = (m, inr (inr (n, o, refl)), s.2 m n o)

apart_swapped : (rules : List PlacedRule) (a b : ℕ) → a < length rules → b < length rules
    → AreApart rules
    → AreApart (swap rules a b)
apart_swapped rules a b p q apart i j d less within same =
    let len = length-swap rules a b in
    let s = swapped_from_swap rules (swap rules a b) a b d p q refl in
    let x = origin _ _ a b i s (cases_eq i a) (cases_eq i b) in
    let y = origin _ _ a b j s (cases_eq j a) (cases_eq j b) in
    grind (arith, one_position)

pub apart_permuted : (rules others : List PlacedRule) → IsPermutation rules others → AreApart rules
    → AreApart others
apart_permuted rules others moved apart =
    IsPermutation-keeps rules AreApart apart apart_swapped others moved

apart_tail : (first : PlacedRule) (rules : List PlacedRule) → AreApart (first ∷ rules) → AreApart rules
apart_tail first rules apart i j d less within same =
    apart (suc i) (suc j) d (omega arith) (omega arith) same

apart_first : (first : PlacedRule) (rules : List PlacedRule) → AreApart (first ∷ rules)
    → ¬ Contains rules first
apart_first first rules apart (k, below, at) =
    apart 0 (suc k) first (omega arith) (omega arith) (cc)

abbrev IsOther : PlacedRule → List PlacedRule → PlacedRule → Type 0
IsOther first rules placed = Contains rules placed × ¬ ◌≡◌ {A = PlacedRule} first placed

following : (first : PlacedRule) (rules : List PlacedRule) → AreApart (first ∷ rules)
    → (placed : PlacedRule) → Contains rules placed ↔ IsOther first (first ∷ rules) placed
following first rules apart placed = (
  λ (k, below, at). (
    (suc k, omega arith, at),
    grind (arith, apart_first),
  ),
  λ (has, other). contains_rest first rules placed other has,
)

pub same_members : (rules others : List PlacedRule) → AreApart rules → AreApart others
    → ((placed : PlacedRule) → Contains rules placed ↔ Contains others placed)
    → IsPermutation rules others
same_members [] [] one two same = IsPermutation-refl []
same_members [] (other ∷ others) one two same =
    let (k, below, at) = (same other).1 (0, omega arith, refl) in absurd (omega arith)
same_members (first ∷ rules) others one two same =
    let (i, below, at) = (same first).0 (0, omega arith, refl) in
    let moved = IsPermutation-remove others i first below (sym at) in
    let apart = apart_permuted others _ moved two in
    let alike = same_elements others _ moved in
    let rest = same_members rules _ (apart_tail first rules one) (apart_tail first _ apart) (λ placed.
    let (mine, back) = following first rules one placed in
    let (theirs, left) = following first _ apart placed in (
      λ has.
          let (listed, other) = mine has in
          left ((alike placed).0 ((same placed).0 listed), other),
      λ has.
          let (listed, other) = theirs has in
          back ((same placed).1 ((alike placed).1 listed), other),
    )) in
    IsPermutation-trans _ _ _ (IsPermutation-cons first _ _ rest) (IsPermutation-sym _ _ moved)

given_number : (passes : Bool) (position : ℕ) (line : LineValue) (found : PlacedRule)
    → cond passes (placed_in (position, line)) None ≡ Some found → found.line ≡ position + 1
given_number passes position line found is = grind (arith, cond_some_iff)

apart_with : (first : Option PlacedRule) (rules : List PlacedRule)
    → ((found : PlacedRule) → first ≡ Some found
    → All (λ (other : PlacedRule). found.line ≢ other.line) rules)
    → AreApart rules → AreApart (cons_option first rules)
apart_with None rules differs apart = apart
apart_with (Some found) rules differs apart =
    AllPairs-cons (λ (one other : PlacedRule). one.line ≢ other.line) found rules
    (differs found refl) apart

rules_apart : (test : ℕ → Bool) (n : ℕ) (lines : List LineValue)
    → AreApart (given_from placed_in test n lines)
rules_apart test n [] = grind arith
rules_apart test n (line ∷ lines) =
    let rules = given_from placed_in test (n + 1) lines in
    rw (filter_map_if (test n) placed_in (n, line)) (apart_with _ rules (λ found is k d below same.
    let other = get_or rules k d in
    let (far, position, following, ahead, at, gives) =
    (given_come placed_in test (n + 1) lines other).0 (Contains-get_or rules k d below) in
    let here = given_number _ n line found is in
    grind (arith, given_number))
    (rules_apart test (n + 1) lines))

pub placed_are_rules : (agent : List ℕ) (lines : List LineValue)
    → AreRulesFor agent lines (placed_rules agent lines)
placed_are_rules agent lines = record {
  held = placed_held agent lines;
  once = rules_apart (is_captured (group_name agent lines) lines) 0 lines;
}

pub rules_permuted : (agent : List ℕ) (lines : List LineValue) (rules others : List PlacedRule)
    → AreRulesFor agent lines rules → AreRulesFor agent lines others → IsPermutation rules others
rules_permuted agent lines rules others one two = same_members rules others one.once two.once (λ placed. (
  λ has. (two.held placed).1 ((one.held placed).0 has),
  λ has. (one.held placed).1 ((two.held placed).0 has),
))

pub permuted_are : (agent : List ℕ) (lines : List LineValue) (rules others : List PlacedRule)
    → IsPermutation rules others → AreRulesFor agent lines rules → AreRulesFor agent lines others
permuted_are agent lines rules others moved are = record {
  held = λ placed. let (to, from) = same_elements rules others moved placed in
      (λ has. (are.held placed).0 (from has), λ holds. to ((are.held placed).1 holds));
  once = apart_permuted rules others moved are.once;
}

pub rules_are_computed : (agent : List ℕ) (lines : List LineValue) (rules : List PlacedRule)
    → AreRulesFor agent lines rules ↔ IsPermutation (placed_rules agent lines) rules
rules_are_computed agent lines rules = search (rules, placed_are_rules, rules_permuted, permuted_are)

pub rejection_is_computed : (agent : List ℕ) (lines : List LineValue)
    → IsRejected agent lines ↔ Any (λ (rule : Rule). IsOverlong rule.0) (rules_for agent lines)
rejection_is_computed agent lines = (
  λ (position, rule, holds, overlong).
      let found : PlacedRule = record { rule = rule; line = position + 1 } in
      let (k, below, at) = (placed_held agent lines found).1 (position, refl, holds) in
      any_unplaced (λ (rule : Rule). IsOverlong rule.0) (placed_rules agent lines)
      (k, found, below, at, overlong),
  λ (k, rule, below, at, overlong).
      let (found, has, same) = placed_of (placed_rules agent lines) rule (k, below, at) in
      let (position, number, holds) = (placed_held agent lines found).0 has in
      grind arith,
)

-- ---- What follows from the rules that lines hold.

looks_permuted : (rules others : List PlacedRule) (old new : ViewValue) → IsPermutation rules others
    → LooksForRules rules old new → LooksForRules others old new
looks_permuted rules others old new moved looks = record {
  all = grind (arith, length_permutation);
  tried = λ placed is.
      let back = longest_permuted others rules old.text placed (IsPermutation-sym rules others moved) is in
      grind (arith, sum_by-IsPermutation, looks.tried);
}

pub permuted_alike : (rules others : List PlacedRule) → IsPermutation rules others
    → AnswerAlike rules others
permuted_alike rules others moved =
    let back = IsPermutation-sym rules others moved in
    record {
      verdicts = permuted_verdicts others rules back;
      deciding = permuted_lines others rules back;
      looks = λ old new. (
        looks_permuted rules others old new moved,
        looks_permuted others rules old new back,
      );
      costs = λ n. sym (sum_by-IsPermutation _ rules others moved);
    }

pub answer_alike : (agent : List ℕ) (lines : List LineValue) (rules others : List PlacedRule)
    → AreRulesFor agent lines rules → AreRulesFor agent lines others → AnswerAlike rules others
answer_alike agent lines rules others are have = search (rules, rules_permuted, permuted_alike)

pub answer_as_placed : (agent : List ℕ) (lines : List LineValue) (rules : List PlacedRule)
    → AreRulesFor agent lines rules → AnswerAlike rules (placed_rules agent lines)
answer_as_placed agent lines rules are = search (rules, answer_alike, placed_are_rules)

pub lines_are_read : (file : List ℕ) → AreFileLinesOf (lines_read file) (take file_limit file)
lines_are_read file = (each_text_has_its_lines (map nul_as_lf (take file_limit file)) _).1 refl

-- the lines of a file are unique, so a property of them holds for these
pub lines_satisfy : (file : List ℕ) (P : List LineValue → Type 0) → HasLines file P
    → (lines : List LineValue) → AreFileLinesOf lines file → P lines
lines_satisfy file P (all, have, is) lines are =
    let each = each_text_has_its_lines (map nul_as_lf file) in
    subst P ((each all).0 have ∙ sym ((each lines).0 are)) is

pub read_robot : (agent file : List ℕ) (robot : RobotValue)
    → IsRobotOfFile agent (take file_limit file) robot
    → IsRobotOf agent (lines_read file) robot
read_robot agent file robot is =
    lines_satisfy _ (λ lines. IsRobotOf agent lines robot) is (lines_read file) (lines_are_read file)

pub read_rejected : (agent file : List ℕ) → IsFileRejected agent (take file_limit file)
    → IsRejected agent (lines_read file)
read_rejected agent file is = lines_satisfy _ (IsRejected agent) is (lines_read file) (lines_are_read file)

pub read_delay : (agent file : List ℕ) (delay : Option ℕ)
    → HasLines file (λ lines. IsDelayFor agent lines delay) → delay ≡ delay_for agent (file_lines file)
read_delay agent file delay (lines, are, is) =
    rw ((each_text_has_its_lines (map nul_as_lf file) lines).0 are) at
    ((delay_is_computed agent lines delay).0 is)

pub has_lines : (file : List ℕ) (P : List LineValue → Type 0) → P (file_lines file) → HasLines file P
has_lines file P is = grind (arith, each_text_has_its_lines)

pub computed_robot : (agent file : List ℕ) (robot : RobotValue)
    → IsComputedRobot agent (file_lines file) robot → IsRobotOfFile agent file robot
computed_robot agent file robot is =
    let lines = file_lines file in
    has_lines file (λ l. IsRobotOf agent l robot) (record {
      delay = (delay_is_computed agent lines robot.delay).1 is.delay;
      sitemaps = (sitemaps_are_computed lines robot.sitemaps).1 is.sitemaps;
      rules = (rules_are_computed agent lines robot.rules).1 is.rules;
      accepted = λ rejected. is.accepted ((rejection_is_computed agent lines).0 rejected);
    })

pub not_rejected : (agent file : List ℕ) (robot : RobotValue) → IsRobotOfFile agent file robot
    → ¬ IsFileRejected agent file
not_rejected agent file robot (lines, are, is) rejected =
    is.accepted (lines_satisfy file (IsRejected agent) rejected lines are)

pub overlong_rejected : (agent file : List ℕ) (number : ℕ)
    → IsFirstOverlong (placed_rules agent (file_lines file)) number → IsFileRejected agent file
overlong_rejected agent file number is =
    has_lines file (IsRejected agent)
    ((rejection_is_computed agent (file_lines file)).1 (some_overlong _ number is))

pub no_rules_of : (agent file : List ℕ) → HasLines file (λ lines. AreRulesFor agent lines [])
    → placed_rules agent (file_lines file) ≡ []
no_rules_of agent file (lines, are, rules) =
    let moved = (rules_are_computed agent lines []).0 rules in
    let none = nil_from_length (placed_rules agent lines) (sym (length_permutation _ _ moved)) in
    rw ((each_text_has_its_lines (map nul_as_lf file) lines).0 are) at none

pub read_sitemaps : (file : List ℕ) (sitemaps : List (List ℕ))
    → HasLines file (λ lines. AreSitemapsOf lines sitemaps) → sitemaps ≡ sitemaps_in (file_lines file)
read_sitemaps file sitemaps (lines, are, is) =
    rw ((each_text_has_its_lines (map nul_as_lf file) lines).0 are) at
    ((sitemaps_are_computed lines sitemaps).0 is)

pub read_nothing : (agent file : List ℕ) → HasLines file (HasNoRulesOrSitemaps agent)
    → (placed_rules agent (file_lines file) ≡ []) × (sitemaps_in (file_lines file) ≡ [])
read_nothing agent file (lines, are, (rules, sitemaps)) =
    (no_rules_of agent file (lines, are, rules), sym (read_sitemaps file [] (lines, are, sitemaps)))

no_looks : (view : ViewValue) (n : ℕ) → LooksAtMost view view n
no_looks view n = grind arith

pub robot_answers : (agent : List ℕ) (lines : List LineValue) (rules : List PlacedRule) (robot : RobotValue)
    (old new : ViewValue) (answer : Bool) → IsRobotOf agent lines robot → AreRulesFor agent lines rules
    → IsVerdict (unplaced robot.rules) old.text answer → LooksForRules robot.rules old new
    → IsAnswerOf agent lines rules old new (Ok answer)
robot_answers agent lines rules robot old new answer is are verdict looks =
    let alike = answer_alike agent lines robot.rules rules is.rules are in
    record {
      rejected = tt;
      accepted = is.accepted;
      verdict = (alike.verdicts old.text answer).0 verdict;
      looks = (alike.looks old new).0 looks;
    }

-- what the exit of a `?` returns
pub if_err : {T E : Type 0} (r : Result T E) (error : E) (P : E → Type 0)
    → IsErrAnd r (λ other. other ≡ error) → P error → IfErr r P
if_err (Ok x) error P is holds = tt
if_err (Err other) error P is holds = rw is holds

pub unanswered : (agent file : List ℕ) (lines : List LineValue) (rules : List PlacedRule) (view : ViewValue)
    (answer : Result Bool Error) (e : Error) → AreFileLinesOf lines file → IsErrAnd answer (λ x. x ≡ e)
    → IsMemoryErrorOr (IsFileRejected agent file) e → IsAnswerOf agent lines rules view view answer
unanswered agent file lines rules view (Ok answer) e are same rejected = absurd same
unanswered agent file lines rules view (Err x) e are same rejected = record {
  rejected =
      rejected_wider _ _ x (λ has. lines_satisfy file (IsRejected agent) has lines are) (rw same rejected);
  accepted = tt;
  verdict = tt;
  looks = grind (arith, no_looks);
}

pub deciding_line_holds_its_rule : (agent : List ℕ) (lines : List LineValue) (rules : List PlacedRule)
    (text : List ℕ) (number : ℕ) → AreRulesFor agent lines rules
    → IsDecidingLine rules text (Some number)
    → (placed : PlacedRule) × IsDecidingRule rules text placed × (placed.line ≡ number)
    × (position : ℕ) × (number ≡ position + 1) × HoldsRule agent lines position placed.rule
deciding_line_holds_its_rule agent lines rules text number are (differs, found, decides, at) =
    let (position, is, holds) = (are.held found).0 decides.listed in
    grind arith

one_kind : (agent : List ℕ) (lines : List LineValue) (position : ℕ) (rule other : Rule)
    → HoldsRule agent lines position rule → HoldsRule agent lines position other → rule.1 ≡ other.1
one_kind agent lines position rule other one two = grind arith

pub line_gives_verdict : (agent : List ℕ) (lines : List LineValue) (rules : List PlacedRule)
    (text : List ℕ) (position : ℕ) (rule : Rule) → AreRulesFor agent lines rules
    → IsDecidingLine rules text (Some (position + 1))
    → HoldsRule agent lines position rule → IsVerdict (unplaced rules) text rule.1
line_gives_verdict agent lines rules text position rule are (differs, found, decides, at) holds =
    let (here, is, own) = (are.held found).0 decides.listed in
    let same : here ≡ position = omega arith in
    let kind = one_kind agent lines position found.rule rule (rw same at own) holds in
    verdict_by_rule rules text found rule.1 decides kind differs

pub no_line_allows : (rules : List PlacedRule) (text : List ℕ) → IsDecidingLine rules text None
    → IsVerdict (unplaced rules) text true
no_line_allows rules text h = grind (arith, allowed_if_none)
