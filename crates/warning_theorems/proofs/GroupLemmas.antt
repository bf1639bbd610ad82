-- Warnings about groups. Lines with `repeated-delay` can be deleted: the delay of every crawler stays the
-- same. A line with `group-without-star-rules` is in the group of a crawler that has no Disallow of `*`.
use Rattle.std.proofs.lemmas.{Option.slice_get-map}
use Rattle.std.proofs.Common.{rules, codes, inl, inr, refl, subst, sym, ◌≤◌, ◌-◌, ◌≡◌, ◌+◌, ℕ}
use Rattle.std.proofs.Common.{◌∙◌, suc, zero, Bool, true, false, not, List, [], ◌∷◌, All, Contains, map}
use Rattle.std.proofs.Common.{Option, None, Some, drop, filter, slice_get, take, ap, arith}
use Rattle.std.specs.List.{enumerate_from, fold, list_any}
use Rattle.std.proofs.lemmas.Bool.{and_parts, cases_Bool, false≢true, cases_lt, not-true, or_cases, or_right}
use Rattle.std.proofs.lemmas.List.{Elements.Contains-append_cases}
use Rattle.texting_robots.specs.Callers.{AreLabelsOf, Label, LineValue, UserAgent, delay_for}
use Rattle.texting_robots.specs.Callers.{group_name, HoldsRule, Rule, placed_rules}
use Rattle.texting_robots.specs.Executable.{captured_delays, delay_before_agents}
use Rattle.texting_robots.specs.Group.{is_agent, passes_at, is_member}
use Rattle.texting_robots.specs.Internal.Group.{if_captured, start_of, step}
use Rattle.texting_robots.proofs.Shared.{delays_walked, given_captured, taken_decides, before_agent}
use Rattle.texting_robots.proofs.Shared.{before_agents, first_or_cons, placed_are_rules}
use Rattle.robots_warnings.specs.Positions.{are_different, begin_with_one, first_delay, is_other_delay}
use Rattle.robots_warnings.specs.Positions.{later_delays, later_delays_from}
use Rattle.warning_theorems.proofs.RepeatedLemmas.{IsFrom, here, holds_among}
use Rattle.warning_theorems.proofs.{WarningLemmas.below_agent}
use Rattle.std.proofs.lemmas.List.Folds.{Any-from_list_any, list_any-from_Any}
use Rattle.texting_robots.specs.{Labels.AreOneGroup, Labels.IsInOwnGroup, Line.delay_in}
use Rattle.robots_warnings.specs.Closed.{is_lacking, lacks_all, name_lacking}
use Rattle.std.specs.{Option.option_or, Str.str_to_ascii_lowercase}
use Rattle.std.proofs.lemmas.Slice.{Eq.bytes_eq-Decides}
use Rattle.texting_robots.specs.declared.groups.{GroupTracker.GroupTracker}
use Rattle.robots_rules.specs.{Needless.lines_without}
use Rattle.robots_rules.proofs.{BlockLemmas.among}
use Rattle.robots_warnings.specs.{File.lines_of}

-- `first` is the first delay of the group above these lines
abbrev first_after : Option ℕ → List Label → Option ℕ
first_after first labels = fold (λ found (label : Label). first_delay found label.line) first labels

-- at this position is a delay in a group, and it differs from the first one of this group
record IsOther (first : Option ℕ) (labels : List Label) (place : ℕ) : Type 0 where
  label : Label
  at : slice_get labels place ≡ Some label
  other : is_other_delay (first_after first (take place labels)) label ≡ true

is_other : (first : Option ℕ) (labels : List Label) (number : ℕ)
    → Contains (later_delays_from first labels) number
    → (place : ℕ) × (is : IsOther first labels place) × (is.label.number ≡ number)
is_other first [] number (k, below, at) = absurd (omega arith)
is_other first (label ∷ labels) number has = elim (cases_Bool (is_other_delay first label)) [
  | inl is ↦ elim (Contains-append_cases (label.number ∷ []) _ number (rw is at has)) [
    | inl (k, below, at) ↦
        let none : k ≡ 0 = omega arith in
        (0, record { label = label; at = refl; other = is }, rw none at at)
    | inr later ↦ later_one (is_other (first_delay first label.line) labels number later)
  ]
  | inr isnt ↦ later_one (is_other (first_delay first label.line) labels number (rw isnt at has))
]
  where
    later_one : ((place : ℕ) × (is : IsOther (first_delay first label.line) labels place)
        × (is.label.number ≡ number))
        → (place : ℕ) × (is : IsOther first (label ∷ labels) place) × (is.label.number ≡ number)
    later_one (place, is, number_is) = (
      suc place,
      record { label = is.label; at = is.at; other = is.other },
      number_is,
    )

abbrev left_from : (ℕ → Bool) → ℕ → List LineValue → List LineValue
left_from gone position lines =
    map (λ (p : ℕ × LineValue). p.1)
    (filter (λ (p : ℕ × LineValue). not (gone (p.0 + 1))) (enumerate_from position lines))

no_agent : (first : Option ℕ) (line : LineValue) → are_different first (delay_in line) ≡ true
    → is_agent line ≡ false
no_agent first line differs = grind arith

-- if the group has a delay above the next line, crawlers that get this group have found theirs, and a
-- user-agent line begins another group
abbrev IsSettled : Option ℕ → Option ℕ → GroupTracker → Type 0
IsSettled None found tracker = Unit {0}
IsSettled (Some first) found tracker =
    ((other : Option ℕ) → option_or found (if_captured tracker other) ≡ found) × (tracker.named ≡ false)

abbrev found_next : Option ℕ → GroupTracker → LineValue → Option ℕ
found_next found tracker line = option_or found (if_captured tracker (delay_in line))

abbrev first_found : List ℕ → Option ℕ → GroupTracker → List LineValue → Option ℕ
first_found name found tracker lines =
    option_or found (slice_get (given_captured delay_in name tracker lines) 0)

module _ (name : List ℕ) where
  settled_next : (first found : Option ℕ) (tracker : GroupTracker) (line : LineValue)
      → IsSettled first found tracker
      → IsSettled (first_delay first line) (found_next found tracker line) (step name tracker line)
  settled_next first found tracker line is = grind arith

record AreOthers (gone : ℕ → Bool) (position : ℕ) (first : Option ℕ) (labels : List Label) : Type 0 where
  each : (place : ℕ) → gone (position + place + 1) ≡ true → IsOther first labels place

module _ (gone : ℕ → Bool) where
  module _ {position : ℕ} {first : Option ℕ} {label : Label} {labels : List Label}
      (others : AreOthers gone position first (label ∷ labels)) where
    others_next : AreOthers gone (position + 1) (first_delay first label.line) labels
    others_next = record {
      each = λ place goes.
          let is = others.each (suc place) (grind arith) in
          grind arith;
    }

    differs_here : gone (position + 1) ≡ true → are_different first (delay_in label.line) ≡ true
    differs_here goes =
        let is = others.each 0 (grind arith) in
        grind arith

  any_left : (test : LineValue → Bool) → ((line : LineValue) → is_agent line ≡ false → test line ≡ false)
      → (position : ℕ) (first : Option ℕ) (labels : List Label) → AreOthers gone position first labels
      → list_any test (left_from gone position (lines_of labels)) ≡ list_any test (lines_of labels)
  any_left test others position first [] are = refl
  any_left test others position first (label ∷ labels) are =
      grind (
        arith,
        differs_here,
        any_left test others (position + 1) (first_delay first label.line) labels
            (others_next are),
      )

  first_left : (name : List ℕ) (position : ℕ) (first found : Option ℕ) (tracker : GroupTracker)
      (labels : List Label) → AreOthers gone position first labels → IsSettled first found tracker
      → first_found name found tracker (left_from gone position (lines_of labels))
      ≡ first_found name found tracker (lines_of labels)
  first_left name position first found tracker [] are is = refl
  first_left name position first found tracker (label ∷ labels) are is =
      let line = label.line in
      let given = if_captured tracker (delay_in line) in
      let now = found_next found tracker line in
      let moved = step name tracker line in
      let later = first_left name (position + 1) (first_delay first line) now moved labels (others_next are)
      (settled_next name first found tracker line is)
      ∙ first_or_cons given found now (given_captured delay_in name moved (lines_of labels)) refl in
      (grind (arith, differs_here))

abbrev AreBelow : (ℕ → Bool) → ℕ → List LineValue → Type 0
AreBelow gone position lines =
    (place : ℕ) → gone (position + place + 1) ≡ true → list_any is_agent (take place lines) ≡ true

before_left : (gone : ℕ → Bool) (position : ℕ) (lines : List LineValue) → AreBelow gone position lines
    → before_agent (left_from gone position lines) ≡ before_agent lines
before_left gone position [] are = refl
before_left gone position (line ∷ lines) are = elim (cases_Bool (gone (position + 1))) [
  | inl goes ↦ absurd (false≢true (are 0 (grind arith)))
  | inr stays ↦ elim (cases_Bool (is_agent line)) [
    | inl agent ↦ rw (stays, agent) refl
    | inr isnt ↦ rw (stays, isnt) (cc (before_left gone (position + 1) lines (λ place goes. rw isnt at (are
        (suc place) (grind (arith, gone))))))
  ]
]

early_left : (gone : ℕ → Bool) (lines : List LineValue)
    → list_any is_agent (left_from gone 0 lines) ≡ list_any is_agent lines
    → (list_any is_agent lines ≡ true → AreBelow gone 0 lines)
    → delay_before_agents (left_from gone 0 lines) ≡ delay_before_agents lines
early_left gone lines same below = search (rules, before_agents, before_left)

module _ {name : List ℕ} {labels : List Label} (labeled : AreLabelsOf name (lines_of labels) labels)
    (numbers : List ℕ) (all : All (Contains (later_delays labels)) numbers) where
  abbrev gone : ℕ → Bool
  gone = among numbers

  abbrev all_lines : List LineValue
  all_lines = lines_of labels

  other_at : (place : ℕ) → gone (0 + place + 1) ≡ true → IsOther None labels place
  other_at place goes =
      let (found, is, number_is) = is_other None labels _
      (holds_among (Contains (later_delays labels)) numbers all _ goes) in
      grind arith

  others : AreOthers gone 0 None labels
  others = record { each = other_at }

  below : list_any is_agent all_lines ≡ true → AreBelow gone 0 all_lines
  below some place goes =
      let is = other_at place goes in
      let (inside, differs) = and_parts _ _ is.other in
      let here : slice_get all_lines place ≡ Some is.label.line =
      grind (arith, slice_get-map) in
      (taken_decides is_agent all_lines place).1 (below_agent name all_lines place is.label.membership
      (labeled.each place is.label is.at).1 (not-true _ inside) (rw here (no_agent _ is.label.line differs))
      some)

  any_stays : (test : LineValue → Bool) → ((line : LineValue) → is_agent line ≡ false → test line ≡ false)
      → list_any test (lines_without numbers all_lines) ≡ list_any test all_lines
  any_stays test other = any_left gone test other 0 None labels others

  delay_stays : (agent : List ℕ)
      → delay_for agent (lines_without numbers all_lines) ≡ delay_for agent all_lines
  delay_stays agent =
      let left = lines_without numbers all_lines in
      let lowered = str_to_ascii_lowercase agent in
      let group : group_name agent left ≡ group_name agent all_lines =
      grind (arith, any_stays) in
      let agents = any_stays is_agent (λ line isnt. isnt) in
      let start : start_of left ≡ start_of all_lines =
      grind arith in
      let first : slice_get (captured_delays agent left) 0 ≡ slice_get (captured_delays agent all_lines) 0 =
      rw (delays_walked agent left, delays_walked agent all_lines, group, start)
      (first_left gone (group_name agent all_lines) 0 None None (start_of all_lines) labels others tt) in
      cc (early_left gone all_lines agents below)

pub delay_as_before : (name agent : List ℕ) (lines : List LineValue) (labels : List Label)
    (numbers : List ℕ) → AreLabelsOf name lines labels
    → All (Contains (later_delays labels)) numbers
    → delay_for agent (lines_without numbers lines) ≡ delay_for agent lines
delay_as_before name agent lines labels numbers labeled all =
    let same = labeled.lines_are in
    subst (λ of. delay_for agent (lines_without numbers of) ≡ delay_for agent of) same
    (delay_stays (subst (λ of. AreLabelsOf name of labels) (sym same) labeled) numbers all agent)

-- no Disallow of the crawler has the pattern of a Disallow of `*`
abbrev pub HasNone : List ℕ → List LineValue → Type 0
HasNone agent lines =
    (star other : ℕ) (pattern : List ℕ) → HoldsRule (codes "*") lines star (pattern, false)
    → ¬ HoldsRule agent lines other (pattern, false)

computed : (agent : List ℕ) (lines : List LineValue) (position : ℕ) (rule : Rule)
    → HoldsRule agent lines position rule
    → Contains (placed_rules agent lines) (record { rule = rule; line = position + 1 })
computed agent lines position rule holds = ((placed_are_rules agent lines).held _).1 (position, refl, holds)

has_none : (agent : List ℕ) (lines : List LineValue) → lacks_all lines agent ≡ true → HasNone agent lines
has_none agent lines lacks star other pattern starred holds =
    let (i, within, there) = computed (codes "*") lines star _ starred in
    let (k, below, at) = computed agent lines other _ holds in
    grind (arith, bytes_eq-Decides, list_any-from_Any, or_right)

-- the line at this position is a user-agent line with such a name, with no rule or delay up to it
record IsNamed (test : List ℕ → Bool) (lines : List LineValue) : Type 0 where
  position : ℕ
  value : List ℕ
  at : slice_get lines position ≡ Some (UserAgent value)
  passes : test value ≡ true
  no_group : (k : ℕ) → k ≤ position → passes_at is_member lines k ≡ false

named_next : {test : List ℕ → Bool} {lines : List LineValue} (line : LineValue) → is_member line ≡ false
    → IsNamed test lines → IsNamed test (line ∷ lines)
named_next {lines} line isnt is = grind (arith, up_to)
  where
    up_to : (k : ℕ) → k ≤ suc is.position → passes_at is_member (line ∷ lines) k ≡ false
    up_to zero most = isnt
    up_to (suc k) most = is.no_group k (omega arith)

named : (test : List ℕ → Bool) (lines : List LineValue) → begin_with_one test lines ≡ true
    → IsNamed test lines
named test [] is = cc
named test (UserAgent value ∷ lines) is = elim (or_cases (test value) (begin_with_one test lines) is) [
  | inl passes ↦ record {
    position = 0;
    value = value;
    at = refl;
    passes = passes;
    no_group = grind arith;
  }
  | inr later ↦ named_next (UserAgent value) refl (named test lines later)
]
named test (line ∷ lines) is =
    grind (arith, named_next, named test lines)

one_group : {test : List ℕ → Bool} {lines : List LineValue} {position : ℕ} {rest : List LineValue}
    → IsFrom lines position rest → (is : IsNamed test rest)
    → AreOneGroup lines position (position + is.position)
one_group {lines} {position} {rest} from is k group = elim (cases_lt k position) [
  | inl above ↦ inl (above, omega arith)
  | inr not_above ↦ elim (cases_lt (position + is.position) k) [
    | inl below ↦ inr (omega arith, below)
    | inr within ↦
        let i = k - position in
        let same : slice_get lines k ≡ slice_get rest i =
        grind arith in
        grind arith
  ]
]

pub from_drop : (lines : List LineValue) (position i : ℕ)
    → slice_get lines (position + i) ≡ slice_get (drop position lines) i
from_drop lines zero i = let same : 0 + i ≡ i = omega arith in ap (slice_get lines) same
from_drop [] (suc position) i = refl
from_drop (line ∷ lines) (suc position) i =
    let same : suc position + i ≡ suc (position + i) = omega arith in
    ap (slice_get (line ∷ lines)) same ∙ from_drop lines position i

-- a user-agent line whose list of names has that of a crawler without a Disallow of `*`
pub replacing : (agents : List (List ℕ)) (lines : List LineValue) (position : ℕ) (rest : List LineValue)
    → IsFrom lines position rest → name_lacking agents lines rest ≡ true
    → (value agent : List ℕ) × (slice_get lines position ≡ Some (UserAgent value)) × Contains agents agent
    × IsInOwnGroup (str_to_ascii_lowercase agent) lines position × HasNone agent lines
replacing agents lines position (UserAgent value ∷ rest) from names =
    let test : List ℕ → Bool = λ name. is_lacking agents lines (str_to_ascii_lowercase name) in
    let by = named test (UserAgent value ∷ rest) names in
    let (k, agent, below, there, passes) = Any-from_list_any _ agents by.passes in
    let (same, lacks) = and_parts _ _ passes in
    let spelling = str_to_ascii_lowercase by.value in
    let on = here from in (
      value,
      agent,
      on,
      (k, below, there),
      inr (
        rw on refl,
        position + by.position,
        grind (arith, bytes_eq-Decides, spelling),
        one_group from by,
      ),
      has_none agent lines lacks,
    )
replacing agents lines position rest from names = cc
