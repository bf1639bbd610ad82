-- A rule that isn't captured for a crawler has no effect on its robot.
use Rattle.std.proofs.Common.{◌≡◌, ℕ, suc, ◌+◌, Bool, false, true, List, [], ◌∷◌, ◌++◌, Option, None, length}
use Rattle.std.proofs.Common.{drop, take, if◌then◌else◌, codes, sym, refl, ap, ◌∙◌, subst, arith, zero-add}
use Rattle.std.specs.List.{Any, Sorted.IsPermutation, filter_map, list_any}
use Rattle.std.specs.Str.{str_to_ascii_lowercase}
use Rattle.std.proofs.lemmas.{Bool.false_from_ne_true, List.Folds.list_any-append}
use Rattle.std.proofs.lemmas.List.Elements.{filter_map-append}
use Rattle.texting_robots.specs.Callers.{HasLines, IsCaptured, IsFileRejected, IsOverlong, IsRejected}
use Rattle.texting_robots.specs.Callers.{IsRobotOfFile, LineValue, RobotValue, Rule, delay_for, file_limit}
use Rattle.texting_robots.specs.Callers.{group_name, placed_rules, sitemaps_in, unplaced}
use Rattle.texting_robots.specs.Executable.{captured_lines, placed_in, sitemap_in}
use Rattle.texting_robots.specs.Group.{is_agent, is_agent_named, is_member}
use Rattle.texting_robots.specs.Internal.{Captured.is_captured, Group.from_captured, Group.start_of}
use Rattle.texting_robots.specs.Internal.Group.{step}
use Rattle.texting_robots.specs.{declared.groups.GroupTracker.GroupTracker, Line.delay_in, Robot.IsRobotOf}
use Rattle.texting_robots.proofs.Shared.{IsWalkAt, drop_cons, captured_walked, is_captured_decides}
use Rattle.texting_robots.proofs.Shared.{walk_first, walk_next, delay_is_computed, sitemaps_are_computed}
use Rattle.texting_robots.proofs.Shared.{lines_satisfy, rejection_is_computed, rules_are_computed}
use Rattle.texting_robots.proofs.Shared.{before_agent, before_agents}
use Rattle.rfc9309.specs.Edits.{DifferInRule, IsRule}

record Facts (line : LineValue) : Type 0 where
  agent : is_agent line ≡ false
  named : (name : List ℕ) → is_agent_named name line ≡ false
  group : is_member line ≡ true
  delay : delay_in line ≡ None
  sitemap : sitemap_in line ≡ None

facts : (line : LineValue) → IsRule line → Facts line
facts line h = grind arith

record AreSame (agent : List ℕ) (lines others : List LineValue) : Type 0 where
  rules : placed_rules agent lines ≡ placed_rules agent others
  delay : delay_for agent lines ≡ delay_for agent others
  sitemaps : sitemaps_in lines ≡ sitemaps_in others

module _ (line other : LineValue) (is : Facts line) (too : Facts other) (back : List LineValue) where
  any_same : (test : LineValue → Bool) → test line ≡ test other → (front : List LineValue)
      → list_any test (front ++ line ∷ back) ≡ list_any test (front ++ other ∷ back)
  any_same test same front = grind (arith, list_any-append)

  before_same : (front : List LineValue) → filter_map delay_in (before_agent (front ++ line ∷ back))
      ≡ filter_map delay_in (before_agent (front ++ other ∷ back))
  before_same [] = grind arith
  before_same (first ∷ front) = grind (arith, before_same front)

  captured_same : {X : Type 0} (given : ℕ × LineValue → Option X) (name : List ℕ) (all : List LineValue)
      (tracker : GroupTracker) (position : ℕ) (front : List LineValue) → IsWalkAt name all position tracker
      → drop position all ≡ front ++ line ∷ back → is_captured name all (position + length front) ≡ false
      → from_captured given name tracker position (front ++ line ∷ back)
      ≡ from_captured given name tracker position (front ++ other ∷ back)
  captured_same given name all tracker position [] walk left free = grind arith
  captured_same given name all tracker position (first ∷ front) walk left free =
      let (at, next) = drop_cons all position first (front ++ line ∷ back) left in
      let sum : position + suc (length front) ≡ (position + 1) + length front = omega arith in
      rw (captured_same given name all (step name tracker first) (position + 1) front
      (walk_next name all position tracker first at walk) next (rw sum at free)) refl

  module _ (agent : List ℕ) (front : List LineValue)
      (uncaptured : ¬ IsCaptured (group_name agent (front ++ line ∷ back)) (front ++ line ∷ back)
      (length front))
    where
      abbrev lines : List LineValue
      lines = front ++ line ∷ back

      abbrev others : List LineValue
      others = front ++ other ∷ back

      agents : list_any is_agent lines ≡ list_any is_agent others
      agents = grind (arith, any_same)

      found : {X : Type 0} (given : ℕ × LineValue → Option X)
          → filter_map given (captured_lines (group_name agent lines) lines)
          ≡ filter_map given (captured_lines (group_name agent others) others)
      found given =
          let name = group_name agent lines in
          let low = str_to_ascii_lowercase agent in
          let named : group_name agent lines ≡ group_name agent others =
          ap (λ b. if b then low else codes "*")
          (any_same (is_agent_named low) (is.named low ∙ sym (too.named low)) front) in
          let free =
          false_from_ne_true _ (λ h. uncaptured ((is_captured_decides name lines (length front)).0 h)) in
          captured_walked given name lines
          ∙ captured_same given name lines (start_of lines) 0 front (walk_first name lines) refl
          (rw (zero-add (length front)) free)
          ∙ rw (agents, named) (sym (captured_walked given (group_name agent others) others))

      are_same : AreSame agent lines others
      are_same = record {
        rules = found placed_in;
        delay = rw (
          found (λ p. delay_in p.1),
          agents,
          before_agents lines,
          before_agents others,
          before_same front,
        ) refl;
        sitemaps = (grind (arith, filter_map-append));
      }

rejection_same : (agent : List ℕ) (lines others : List LineValue)
    → placed_rules agent lines ≡ placed_rules agent others → IsRejected agent lines → IsRejected agent others
rejection_same agent lines others same is =
    (rejection_is_computed agent others).1
    (subst (λ rules. Any (λ (rule : Rule). IsOverlong rule.0) (unplaced rules)) same
    ((rejection_is_computed agent lines).0 is))

module _ (agent file other : List ℕ) (is : DifferInRule agent file other) where
  abbrev old : List LineValue
  old = is.above ++ is.line ∷ is.below

  abbrev new : List LineValue
  new = is.above ++ is.other_line ∷ is.below

  same : AreSame agent old new
  same = are_same is.line is.other_line (facts is.line is.rule) (facts is.other_line is.other_rule) is.below
      agent is.above is.uncaptured

  moved : (P : List LineValue → Type 0) → (P old → P new) → HasLines (take file_limit file) P
      → HasLines (take file_limit other) P
  moved P moves has = (new, is.other_lines, moves (lines_satisfy (take file_limit file) P has old is.lines))

  pub robot_same : (robot : RobotValue) → IsRobotOfFile agent (take file_limit file) robot
      → IsRobotOfFile agent (take file_limit other) robot
  robot_same robot = moved (λ lines. IsRobotOf agent lines robot) (λ now. record {
    delay = (delay_is_computed agent new robot.delay).1
        ((delay_is_computed agent old robot.delay).0 now.delay ∙ same.delay);
    sitemaps = (sitemaps_are_computed new robot.sitemaps).1
        ((sitemaps_are_computed old robot.sitemaps).0 now.sitemaps ∙ same.sitemaps);
    rules = (rules_are_computed agent new robot.rules).1
        (subst (λ rules. IsPermutation rules robot.rules) same.rules
        ((rules_are_computed agent old robot.rules).0 now.rules));
    accepted = λ rejected. now.accepted (rejection_same agent new old (sym same.rules) rejected);
  })

  pub rejected_same : IsFileRejected agent (take file_limit file)
      → IsFileRejected agent (take file_limit other)
  rejected_same = moved (IsRejected agent) (rejection_same agent old new same.rules)
