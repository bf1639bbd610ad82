-- The labels of lines: membership, and the first byte that passes a test.
use Rattle.std.proofs.Common.{◌≡◌, ℕ, ◌+◌, ◌-◌, ◌≤◌, Bool, false, ◌||◌, List, length, get_or, arith, take, ap}
use Rattle.std.proofs.Common.{drop, sym, ◌∙◌, Option, Some, None, is_some, true, not, inl, inr, [], ◌∷◌, cond}
use Rattle.std.proofs.Common.{slice_get, map, refl, ◌⊎◌, zero, suc, ◌<◌, ◌↔◌, ◌&&◌, length-drop}
use Rattle.std.proofs.Common.{slice_index_or}
use Rattle.std.specs.List.{AllZip, list_any, position_or_len, before_first, enumerate_from, filter_map}
use Rattle.std.proofs.lemmas.Bool.{false_from_ne_true, or_parts, cases_Bool, cases_lt, cases_order}
use Rattle.std.proofs.lemmas.Bool.Decides.{Decides-at, Decides-like, Decides-or, not_from_Decides}
use Rattle.std.proofs.lemmas.List.{get_or_default, take-append-drop, take-take, take_all, take_rest}
use Rattle.std.proofs.lemmas.List.{get_or-drop, Folds.list_any-append, Folds.list_any_at, Folds.list_any_none}
use Rattle.std.proofs.lemmas.List.Sums.{position_or_len_is, fails_before_first, passes_at_first}
use Rattle.memchr.specs.Find.{Passes, Nowhere, NoneBefore, IsFirstByte}
use Rattle.std.specs.{Bool.then_some, Bool.Decides, Option.IfSome}
use Rattle.std.proofs.Math.Bool.{or_comm, and-or_distrib_right, or-and_distrib_left}
use Rattle.std.proofs.{Math.Nat.add-zero, Math.Nat.zero-add, lemmas.Option.slice_get-get_or}
use Rattle.texting_robots.specs.declared.{groups.GroupTracker.GroupTracker, labels.Membership.Membership}
use Rattle.texting_robots.{specs.Rules.Rule, proofs.LineLemmas.only_lines}
use Rattle.texting_robots.specs.Internal.{Captured.is_captured, Line.line_of}
use Rattle.texting_robots.specs.Group.{group_name, is_agent, is_member, IsCaptured, is_agent_named, passes_at}
use Rattle.texting_robots.specs.Line.{Allow, Disallow, IsLineOf, LineValue, Raw, UserAgent}
use Rattle.texting_robots.specs.Labels.{is_own, label_at, labels_of, AreLabelsOf, AreOneGroup, IsInGroup}
use Rattle.texting_robots.specs.Labels.{Label, bodies_in, lines_in, IsInOwnGroup, HasMembership, next_member}
use Rattle.texting_robots.specs.Labels.{membership_of}
use Rattle.texting_robots.specs.declared.labels.Membership.TheVariants.{Own, Other, Ungrouped}
use Rattle.texting_robots.specs.Executable.{placed_in, placed_rules, rule_in}
use Rattle.texting_robots.specs.Internal.Group.{captured_ahead, from_captured, if_captured, labels_from, step}
use Rattle.texting_robots.specs.Internal.Group.{own_rule_at, placed, membership_by, start_of}
use Rattle.texting_robots.proofs.CapturedLemmas.{IsWalkAt, any_next, drop_cons, captured_walked, cond_same}
use Rattle.texting_robots.proofs.CapturedLemmas.{walk_first, walk_next, is_captured_decides, bool_decides}
use Rattle.texting_robots.proofs.CapturedLemmas.{taken_decides, within}

-- ---- The first byte that passes a test, as `memchr` finds it.

pub position_if_first : (test : ℕ → Bool) (hay : List ℕ) (k : ℕ)
    → NoneBefore (Passes test hay) 0 (length hay) k → Passes test hay k → position_or_len test hay ≡ k
position_if_first test hay k none is = grind (arith, false_from_ne_true, position_or_len_is)

pub len_if_nowhere : (test : ℕ → Bool) (hay : List ℕ) → Nowhere (Passes test hay) 0 (length hay)
    → position_or_len test hay ≡ length hay
len_if_nowhere test hay none = position_or_len_is test hay (length hay) 0 (omega arith)
    (λ i l. false_from_ne_true (test (get_or hay i 0)) (none i (omega arith) l))
    (λ l. absurd (omega (arith, l)))

pub take_if_first : (test : ℕ → Bool) (hay : List ℕ) (k : ℕ)
    → NoneBefore (Passes test hay) 0 (length hay) k → Passes test hay k
    → take k hay ≡ before_first test hay
take_if_first test hay k none is = grind (arith, position_if_first)

pub all_if_nowhere : (test : ℕ → Bool) (hay : List ℕ) → Nowhere (Passes test hay) 0 (length hay)
    → hay ≡ before_first test hay
all_if_nowhere test hay none = grind (arith, len_if_nowhere, take_all)

nowhere : (test : ℕ → Bool) (hay : List ℕ) → list_any test hay ≡ false
    → Nowhere (Passes test hay) 0 (length hay)
nowhere test hay none k low high is = grind (arith, list_any_at)

pub all_if_none : (test : ℕ → Bool) (hay : List ℕ) → list_any test hay ≡ false
    → hay ≡ before_first test hay
all_if_none test hay none = all_if_nowhere test hay (nowhere test hay none)

-- ---- The membership of lines, as the iterator computes it.

-- `captured_ahead` is the test at the index of the next member, or at the end if there is none
ahead_is : (name : List ℕ) (all : List LineValue) (tracker : GroupTracker) (position : ℕ)
    (lines : List LineValue)
    → IsWalkAt name all position tracker → drop position all ≡ lines
    → captured_ahead name tracker lines ≡ is_captured name all (position + position_or_len is_member lines)
ahead_is name all tracker position [] splits left = rw add-zero (sym splits.captured)
ahead_is name all tracker position (line ∷ lines) splits left = elim (cases_Bool (is_member line)) [
  | inl is ↦ rw (is, add-zero) (sym splits.captured)
  | inr isnt ↦
      let (at, next) = drop_cons all position line lines left in
      let further = position_or_len is_member lines in
      let there : position + (1 + further) ≡ (position + 1) + further = omega arith in
      let ahead = ahead_is name all (step name tracker line) (position + 1) lines
      (walk_next name all position tracker line at splits) next in
      rw (isnt, there) (rw isnt at ahead)
]

-- what is known about the next member stays known after a line that isn't one
pub known_next : (name : List ℕ) (tracker : GroupTracker) (line : LineValue) (lines rest : List LineValue)
    (known : Bool)
    → lines ≡ line ∷ rest → captured_ahead name tracker lines ≡ known
    → IfSome (then_some (not (is_member line)) known)
    (λ ahead. captured_ahead name (step name tracker line) rest ≡ ahead)
known_next name tracker line lines rest known next is = grind (arith, cases_Bool)

begun_next : (all : List LineValue) (position : ℕ) (line : LineValue) → slice_get all position ≡ Some line
    → list_any is_agent (take (position + 1) all) ≡ (list_any is_agent (take position all) || is_agent line)
begun_next all position line at = grind (arith, any_next, or_comm)

labels_left : (name : List ℕ) (all : List LineValue) (tracker : GroupTracker) (position : ℕ)
    (bodies : List (List ℕ))
    → IsWalkAt name all position tracker → drop position all ≡ map line_of bodies
    → map (label_at name all) (enumerate_from position bodies)
    ≡ labels_from name tracker (list_any is_agent (take position all)) position bodies
labels_left name all tracker position [] splits left = refl
labels_left name all tracker position (body ∷ bodies) splits left =
    let line = line_of body in
    let (at, next) = drop_cons all position line (map line_of bodies) left in
    let captured = ahead_is name all tracker position (map line_of (body ∷ bodies)) splits left in
    let later = labels_left name all (step name tracker line) (position + 1) bodies
    (walk_next name all position tracker line at splits) next in
    rw (later, left, begun_next all position line at, captured) refl

pub labels_walked : (name : List ℕ) (bodies : List (List ℕ))
    → labels_of name bodies ≡ labels_from name (start_of (map line_of bodies)) false 0 bodies
labels_walked name bodies =
    let lines = map line_of bodies in
    labels_left name lines (start_of lines) 0 bodies (walk_first name lines) refl

own_if : (number : ℕ) (captured begun : Bool) (found : Option Rule)
    → cond captured (placed number found) None
    ≡ placed number (cond (is_own (cond captured Own (cond begun Other Ungrouped))) found None)
own_if number captured begun found = grind arith

own_left : (name : List ℕ) (tracker : GroupTracker) (before : Bool) (position : ℕ) (bodies : List (List ℕ))
    → from_captured placed_in name tracker position (map line_of bodies)
    ≡ filter_map own_rule_at (labels_from name tracker before position bodies)
own_left name tracker before position [] = refl
own_left name tracker before position (body ∷ bodies) =
    let line = line_of body in
    rw (own_left name (step name tracker line) (before || is_agent line) (position + 1) bodies, at line) refl
  where
    lines : List LineValue
    lines = map line_of bodies

    at : (line : LineValue) → if_captured tracker (placed_in (position, line))
        ≡ placed (position + 1) (cond (is_own (membership_by (captured_ahead name tracker (line ∷ lines))
        (before || is_agent line) line)) (rule_in line) None)
    at (Allow value) = own_if (position + 1) tracker.captured (before || false) (rule_in (Allow value))
    at (Disallow value) = own_if (position + 1) tracker.captured (before || false) (rule_in (Disallow value))
    at _ = simp cond_same

pub own_rules : (agent : List ℕ) (bodies : List (List ℕ)) → (let lines = map line_of bodies in
    placed_rules agent lines ≡ filter_map own_rule_at (labels_of (group_name agent lines) bodies))
own_rules agent bodies = grind (arith, captured_walked, labels_walked, own_left)

-- ---- Each line has the membership that the specification states by indices of lines.

not_both : (lines : List LineValue) (k : ℕ) → passes_at is_agent lines k ≡ true
    → ¬ (passes_at is_member lines k ≡ true)
not_both [] k agent group = cc
not_both (UserAgent value ∷ lines) zero agent group = cc
not_both (line ∷ lines) zero agent group = cc
not_both (line ∷ lines) (suc k) agent group = not_both lines k agent group

named_agent : (name : List ℕ) (lines : List LineValue) (k : ℕ)
    → passes_at (is_agent_named name) lines k ≡ true → passes_at is_agent lines k ≡ true
named_agent name [] k h = h
named_agent name (UserAgent value ∷ lines) zero h = refl
named_agent name (line ∷ lines) zero h = h
named_agent name (line ∷ lines) (suc k) h = named_agent name lines k h

and_given : {P Q : Type 0} (x y : Bool) → Decides x P → (P → Decides y Q) → Decides (x && y) (P × Q)
and_given x y first second = grind arith

pub record IsNext (lines : List LineValue) (position next : ℕ) : Type 0 where
  pub from : position ≤ next
  pub none : (k : ℕ) → position ≤ k → k < next → ¬ (passes_at is_member lines k ≡ true)
  pub stop : (passes_at is_member lines next ≡ true) ⊎ (length lines ≤ next)

is_next : (lines : List LineValue) (position : ℕ) → IsNext lines position (next_member lines position)
is_next lines position = record {
  from = omega arith;
  none = λ k least less group.
      let there : position + (k - position) ≡ k = omega arith in
      let read = rw there at (get_or-drop position lines (k - position) (Raw [])) in
      grind (arith, fails_before_first, within, at);
  stop = elim (cases_lt (next_member lines position) (length lines)) [
    | inl less ↦ grind (arith, get_or-drop, length-drop, passes_at_first, at)
    | inr past ↦ inr past
  ];
}
  where
    left : List LineValue
    left = drop position lines

    at : (k : ℕ) → k < length lines
        → passes_at is_member lines k ≡ is_member (slice_index_or lines k (Raw []))
    at k less = rw (slice_get-get_or lines k (Raw []) less) refl

module _ (name : List ℕ) (lines : List LineValue) (position next : ℕ) (is : IsNext lines position next) where
  abbrev NamedInGroup : Type 0
  NamedInGroup = (j : ℕ) × (passes_at (is_agent_named name) lines j ≡ true) × AreOneGroup lines position j

  module _ (agent : passes_at is_agent lines position ≡ true) where
    agent_before : position < next
    agent_before = grind (arith, cases_lt, not_both, within)

    group_named : IsCaptured name lines next → NamedInGroup
    group_named (inl none) = absurd (none position agent)
    group_named (inr (j, below, named, apart)) = (j, named, together)
      where
        apart_from : (k : ℕ) → k < position → passes_at is_member lines k ≡ true → k < j
        apart_from k before group = elim (cases_order k j) [
          | inl same ↦ absurd (not_both lines j (named_agent name lines j named) (rw same at group))
          | inr (inl less) ↦ less
          | inr (inr more) ↦ absurd (apart (k, position, more, before, agent_before, group, agent))
        ]

        together : AreOneGroup lines position j
        together k group = elim (cases_lt k position) [
          | inl before ↦ inl (before, apart_from k before group)
          | inr least ↦
              let first = agent_before in
              elim (cases_lt k next) [
                | inl less ↦ absurd (is.none k least less group)
                | inr following ↦ inr (omega arith, omega arith)
              ]
        ]

    named_before : (j : ℕ) → passes_at (is_agent_named name) lines j ≡ true → AreOneGroup lines position j
        → j < next
    named_before j named together = grind (arith, agent_before, within)

    named_captures : NamedInGroup → IsCaptured name lines next
    named_captures (j, named, together) = grind (arith, named_before)

  group_stops : passes_at is_member lines position ≡ true → next ≡ position
  group_stops group = grind (arith, cases_lt)

module _ (name : List ℕ) (lines : List LineValue) (position : ℕ) (line : LineValue)
    (at : slice_get lines position ≡ Some line) where
  abbrev next : ℕ
  next = next_member lines position

  -- a user-agent line is in the crawler's own group if the next rule or delay is captured, or one at the end
  -- of the file would be
  own_decides : Decides ((is_agent line || is_member line) && is_captured name lines next)
      (IsInOwnGroup name lines position)
  own_decides =
      let is = is_next lines position in
      let test = is_captured name lines next in
      let captured = is_captured_decides name lines next in
      let same : ((is_agent line || is_member line) && test)
      ≡ ((passes_at is_member lines position && test) || (passes_at is_agent lines position && test))
      = grind (arith, and-or_distrib_right, or_comm) in
      Decides-at _ _ same (Decides-or _ _
      (grind (arith, and_given, bool_decides, is))
      (Decides-like _ (grind arith)
      (grind arith)
      (and_given _ _ (bool_decides (passes_at is_agent lines position)) (λ agent.
      Decides-like _ (group_named name lines position next is agent)
      (named_captures name lines position next is agent) captured))))

  in_group_decides : Decides ((is_agent line || is_member line) && list_any is_agent
      (take (position + 1) lines))
      (IsInGroup lines position)
  in_group_decides = grind (arith, any_next, bool_decides, or-and_distrib_left, taken_decides)

  occurs_by : (own some : Bool) → Decides own (IsInOwnGroup name lines position)
      → Decides some (IsInGroup lines position)
      → HasMembership name lines position (cond own Own (cond some Other Ungrouped))
  occurs_by own some is begun = grind (arith, not_from_Decides)

  only_by : (own some : Bool) (membership : Membership) → Decides own (IsInOwnGroup name lines position)
      → Decides some (IsInGroup lines position) → HasMembership name lines position membership
      → membership ≡ cond own Own (cond some Other Ungrouped)
  only_by own some membership is begun splits = grind (arith, false_from_ne_true)

  by_tests : (kind captured begun : Bool)
      → cond (not kind) Ungrouped (cond captured Own (cond begun Other Ungrouped))
      ≡ cond (kind && captured) Own (cond (kind && begun) Other Ungrouped)
  by_tests kind captured begun = grind arith

  occurs_so : HasMembership name lines position (membership_of name lines (position, line))
  occurs_so = rw by_tests (occurs_by _ _ own_decides in_group_decides)

  occurs_only : (membership : Membership) → HasMembership name lines position membership
      → membership ≡ membership_of name lines (position, line)
  occurs_only membership splits =
      only_by _ _ membership own_decides in_group_decides splits ∙ sym (by_tests _ _ _)

abbrev IsLabelAt : List ℕ → List LineValue → ℕ → Label → Type 0
IsLabelAt name lines position label = (label.number ≡ position + 1)
    × HasMembership name lines position label.membership

module _ (name : List ℕ) (all : List LineValue) where
  abbrev left_from : ℕ → List (List ℕ) → List Label
  left_from position bodies = map (label_at name all) (enumerate_from position bodies)

  left_lines : (position : ℕ) (bodies : List (List ℕ))
      → (lines_in (left_from position bodies) ≡ map line_of bodies)
      × (bodies_in (left_from position bodies) ≡ bodies)
  left_lines position [] = (refl, refl)
  left_lines position (body ∷ bodies) = grind (arith, left_lines (position + 1) bodies)

  left_each : (position : ℕ) (bodies : List (List ℕ)) → drop position all ≡ map line_of bodies
      → (k : ℕ) (label : Label)
      → slice_get (left_from position bodies) k ≡ Some label → IsLabelAt name all (position + k) label
  left_each position [] left k label at = cc
  left_each position (body ∷ bodies) left zero label at =
      let same : label_at name all (position, body) ≡ label = cc in
      let (splits, next) = drop_cons all position (line_of body) (map line_of bodies) left in
      rw (add-zero, sym same) (refl, occurs_so name all position (line_of body) splits)
  left_each position (body ∷ bodies) left (suc k) label at =
      let (splits, next) = drop_cons all position (line_of body) (map line_of bodies) left in
      let further : position + suc k ≡ (position + 1) + k = omega arith in
      rw further (left_each (position + 1) bodies next k label at)

  left_only : (position : ℕ) (bodies : List (List ℕ)) (labels : List Label)
      → drop position all ≡ map line_of bodies
      → lines_in labels ≡ map line_of bodies → bodies_in labels ≡ bodies
      → ((k : ℕ) (label : Label) → slice_get labels k ≡ Some label → IsLabelAt name all (position + k) label)
      → labels ≡ left_from position bodies
  left_only position [] [] left are same each = refl
  left_only position [] (label ∷ labels) left are same each = cc
  left_only position (body ∷ bodies) [] left are same each = cc
  left_only position (body ∷ bodies) (label ∷ labels) left are same each =
      let (splits, next) = drop_cons all position (line_of body) (map line_of bodies) left in
      let here = rw add-zero at (each 0 label refl) in
      let belongs = occurs_only name all position (line_of body) splits label.membership here.1 in
      let later = left_only (position + 1) bodies labels next (cc) (cc) (λ k other at.
      let further : (position + 1) + k ≡ position + suc k = omega arith in rw further
      (each (suc k) other at)) in
      grind arith

pub labels_hold : (name : List ℕ) (bodies : List (List ℕ))
    → (lines_in (labels_of name bodies) ≡ map line_of bodies) × (bodies_in (labels_of name bodies) ≡ bodies)
labels_hold name bodies = left_lines name (map line_of bodies) 0 bodies

of_bodies : (name : List ℕ) (bodies : List (List ℕ)) (labels : List Label)
    → (AreLabelsOf name (map line_of bodies) labels × (bodies_in labels ≡ bodies))
    ↔ (labels ≡ labels_of name bodies)
of_bodies name bodies labels =
    let lines = map line_of bodies in (
      λ (are, same). left_only name lines 0 bodies labels refl are.lines_are same
          (λ k label at. rw zero-add (are.each k label at)),
      λ same. rw same (
        record {
          lines_are = (labels_hold name bodies).0;
          each = λ position label at. rw zero-add at (left_each name lines 0 bodies refl position label at);
        },
        (labels_hold name bodies).1,
      ),
    )

pub each_line_has_its_label : (name : List ℕ) (lines : List LineValue) (bodies : List (List ℕ))
    (labels : List Label) → AllZip IsLineOf lines bodies
    → (AreLabelsOf name lines labels × (bodies_in labels ≡ bodies)) ↔ (labels ≡ labels_of name bodies)
each_line_has_its_label name lines bodies labels are =
    rw (only_lines lines bodies are) (of_bodies name bodies labels)
