-- The groups of a file and those of a site: what is captured for a name.
use Rattle.std.specs.{Prelude.filter, Option.option_to_list, Str.str_to_ascii_lowercase}
use Rattle.std.proofs.Common.{◌≡◌, ◌≢◌, ℕ, ◌+◌, ◌<◌, ◌≤◌, Bool, true, false, not, ◌&&◌, ◌||◌, List, [], ◌∷◌}
use Rattle.std.proofs.Common.{◌++◌, Option, Some, None, cond, refl, sym, ◌∙◌, arith, append_assoc, ◌↔◌}
use Rattle.std.proofs.Common.{IsTrue, slice_get, bytes_eq}
use Rattle.std.specs.List.{cons_option, filter_map, list_any, Contains}
use Rattle.std.proofs.lemmas.List.{Elements.filter_map-append, Folds.list_any-append}
use Rattle.std.proofs.Math.Bool.{and-false, and-true, or-false}
use Rattle.std.proofs.lemmas.Bool.{and_parts, eq-eqb, ne_eqb}
use Rattle.texting_robots.specs.{declared.groups.GroupTracker.GroupTracker, Internal.Captured.is_captured}
use Rattle.texting_robots.specs.Line.{LineValue, UserAgent, delay_in}
use Rattle.texting_robots.specs.Group.{group_name, is_agent, is_member, IsCaptured}
use Rattle.texting_robots.specs.Executable.{captured_delays, captured_lines, placed_in, placed_rules}
use Rattle.texting_robots.specs.Internal.Group.{from_captured, start_of, step}
use Rattle.texting_robots.specs.Internal.Site.{Named, Tagged, delay_of, has_name, is_of, is_group_of, named}
use Rattle.texting_robots.specs.Internal.Site.{rule_of, count_after, named_from, own_tagged, tagged_from}
use Rattle.texting_robots.specs.Internal.Site.{early_after}
use Rattle.texting_robots.proofs.{RulesLemmas.delay_from, RulesLemmas.last_or_cons}
use Rattle.texting_robots.proofs.{ExecutableLemmas.given_come, CapturedLemmas.is_captured_decides}
use Rattle.texting_robots.proofs.CapturedLemmas.{captured_walked, filter_map_if, cond_some_iff, cond_same}
use Rattle.texting_robots.specs.Groups.{GroupValue, grouped_from, groups, is_for, lines_for, with_name}

-- ---- What the `GroupTracker` captures for a name is what the groups with that name contain.

not_of : (name : List ℕ) (r : ℕ) (n : Named) → n.group ≢ r → is_of name r n ≡ false
not_of name r n other = rw (ne_eqb n.group r other) (and-false _)

here_of : (name : List ℕ) (n : Named) → is_of name n.group n ≡ has_name name n
here_of name n = rw (eq-eqb n.group n.group refl) (and-true _)

one_more : (name : List ℕ) (names : List Named) (n : Named) (r : ℕ)
    → is_group_of name (names ++ n ∷ []) r ≡ (is_group_of name names r || is_of name r n)
one_more name names n r = grind (arith, list_any-append, or-false)

-- a group that is closed, and any earlier one, gets no further name
pub none_later : (name : List ℕ) (r group : ℕ) (joins : Bool) (position count : ℕ) (lines : List LineValue)
    → group ≤ position
    → r ≤ group → (joins ≡ true → r < group)
    → is_group_of name (named_from group joins position count lines) r
    ≡ false
none_later name r group joins position count [] within earlier closed = refl
none_later name r group true position count (UserAgent value ∷ lines) within earlier closed =
    grind (arith, not_of, none_later name r group true (position + 1) count lines)
none_later name r group false position count (UserAgent value ∷ lines) within earlier closed =
    grind (arith, not_of, none_later name r (position + 1) true (position + 1) count lines)
none_later name r group joins position count (line ∷ lines) within earlier closed =
    grind (
      arith,
      and_parts,
      none_later name r group (not (is_member line) && joins) (position + 1) (count_after count line) lines,
    )

-- the next user-agent line doesn't belong to the group of a member
pub group_ends : (is_member joins : Bool) → is_member ≡ true → (not is_member && joins) ≡ false
group_ends true joins is = refl
group_ends false joins is = cc

-- the state captures exactly if the current group has the name; no later group has it yet
record BelongsTo (name : List ℕ) (walk : GroupTracker) (group : ℕ) (joins : Bool)
    (before : List Named) : Type 0 where
  captured : walk.captured ≡ is_group_of name before group
  named : walk.named ≡ (joins && walk.captured)
  first : (r : ℕ) → group < r → is_group_of name before r ≡ false

in_named_group : (name value : List ℕ) (walk : GroupTracker) (group count : ℕ) (before : List Named)
    → BelongsTo name walk group true before
    → BelongsTo name (step name walk (UserAgent value)) group true
    (before ++ record { name = value; group = group; start = count } ∷ [])
in_named_group name value walk group count before splits = grind (arith, here_of, not_of, one_more)

in_new_group : (name value : List ℕ) (walk : GroupTracker) (group position count : ℕ) (before : List Named)
    → group ≤ position
    → BelongsTo name walk group false before
    → BelongsTo name (step name walk (UserAgent value)) (position + 1) true
    (before ++ record { name = value; group = position + 1; start = count } ∷ [])
in_new_group name value walk group position count before within splits =
    grind (arith, here_of, not_of, one_more, or-false)

after_other : (name : List ℕ) (walk : GroupTracker) (group : ℕ) (joins is_member : Bool) (before : List Named)
    → BelongsTo name walk group joins before
    → BelongsTo name (record { captured = walk.captured; named = not is_member && walk.named }) group
    (not is_member && joins) before
after_other name walk group joins is_member before splits = grind arith

pub nothing_here : {X : Type 0} (captured : Bool) (o : Option X) (rest : List X) → o ≡ None
    → cons_option (cond captured o None) rest ≡ rest
nothing_here captured o rest none = grind arith

other_next : {X : Type 0} (is_member : Bool) (given : Tagged → Option X) (name : List ℕ) (captured : Bool)
    (tag : Tagged) (names : List Named) (tags : List Tagged) (rest : List X) (here : Option X)
    → given tag ≡ here → (is_member ≡ false → here ≡ None)
    → (is_member ≡ true → captured ≡ is_group_of name names tag.group)
    → rest ≡ filter_map given (filter (λ t. is_group_of name names t.group) tags)
    → cons_option (cond captured here None) rest ≡ filter_map given
    (filter (λ t. is_group_of name names t.group) (cons_option (cond is_member (Some tag) None) tags))
other_next is_member given name captured tag names tags rest here fits none same later =
    grind (arith, filter_map_if, nothing_here)

-- the group of a member gets no further name
named_here : (name : List ℕ) (walk : GroupTracker) (group : ℕ) (joins joined : Bool) (position count : ℕ)
    (before all : List Named) (lines : List LineValue) → group ≤ position
    → BelongsTo name walk group joins before → joined ≡ false
    → all ≡ before ++ named_from group joined position count lines → walk.captured
    ≡ is_group_of name all group
named_here name walk group joins joined position count before all lines within splits closed are =
    grind (arith, list_any-append, none_later, or-false)

-- what the captured lines give is what the lines of the groups with the name give
found_in_groups : {X : Type 0} (given : ℕ × LineValue → Option X) (of_tag : Tagged → Option X)
    → ((position group : ℕ) (line : LineValue)
    → of_tag (record { number = position + 1; line = line; group = group }) ≡ given (position, line))
    → ((position : ℕ) (line : LineValue) → is_member line ≡ false → given (position, line) ≡ None)
    → (name : List ℕ) (walk : GroupTracker) (group : ℕ) (joins : Bool) (position count : ℕ)
    (before all : List Named)
    (lines : List LineValue) → group ≤ position → BelongsTo name walk group joins before
    → all ≡ before ++ named_from group joins position count lines
    → from_captured given name walk position lines
    ≡ filter_map of_tag (filter (λ t. is_group_of name all t.group) (tagged_from group joins position lines))
found_in_groups given of_tag fits none name walk group joins position count before all [] within splits are =
    refl
found_in_groups given of_tag fits none name walk group true position count before all
    (UserAgent value ∷ lines) within
    splits are =
    nothing_here walk.captured _ _ (none position (UserAgent value) refl)
    ∙ found_in_groups given of_tag fits none name (step name walk (UserAgent value)) group true
    (position + 1) count
    (before ++ record { name = value; group = group; start = count } ∷ []) all lines
    (omega arith) (in_named_group name value walk group count before splits)
    (are ∙ sym (append_assoc before
    (record { name = value; group = group; start = count } ∷ []) _))
found_in_groups given of_tag fits none name walk group false position count before all
    (UserAgent value ∷ lines) within
    splits are =
    nothing_here walk.captured _ _ (none position (UserAgent value) refl)
    ∙ found_in_groups given of_tag fits none name (step name walk (UserAgent value)) (position + 1) true
    (position + 1)
    count (before ++ record { name = value; group = position + 1; start = count } ∷ []) all
    lines (omega arith) (in_new_group name value walk group position count before within splits)
    (are ∙ sym (append_assoc before
    (record { name = value; group = position + 1; start = count } ∷ []) _))
found_in_groups given of_tag fits none name walk group joins position count before all
    (line ∷ lines) within
    splits are =
    let joined = not (is_member line) && joins in
    let below = count_after count line in
    other_next (is_member line) of_tag name walk.captured
    (record { number = position + 1; line = line; group = group }) all _ _ _
    (fits position group line) (none position line)
    (λ member. named_here name walk group joins joined (position + 1) below before all lines (omega arith)
    splits (group_ends (is_member line) joins member) are)
    (found_in_groups given of_tag fits none name (step name walk line) group joined (position + 1) below
    before all lines (omega arith) (after_other name walk group joins (is_member line) before splits) are)

pub found_in_own : {X : Type 0} (given : ℕ × LineValue → Option X) (of_tag : Tagged → Option X)
    → ((position group : ℕ) (line : LineValue)
    → of_tag (record { number = position + 1; line = line; group = group }) ≡ given (position, line))
    → ((position : ℕ) (line : LineValue) → is_member line ≡ false → given (position, line) ≡ None)
    → (name : List ℕ) (lines : List LineValue) → list_any is_agent lines ≡ true
    → filter_map given (captured_lines name lines) ≡ filter_map of_tag (own_tagged name lines)
found_in_own given of_tag fits none name lines some =
    captured_walked given name lines
    ∙ found_in_groups given of_tag fits none name (start_of lines) 0 false 0 0 [] (named lines) lines
    (omega arith)
    (grind arith) refl

pub rule_of_group : (position : ℕ) (line : LineValue) → is_member line ≡ false → placed_in (position, line)
    ≡ None
rule_of_group position line h = grind arith

pub delay_of_group : (position : ℕ) (line : LineValue) → is_member line ≡ false → delay_in line ≡ None
delay_of_group position line h = grind arith

pub rules_of_own : (agent : List ℕ) (lines : List LineValue) → list_any is_agent lines ≡ true
    → placed_rules agent lines ≡ filter_map rule_of (own_tagged (group_name agent lines) lines)
rules_of_own agent lines some = grind (arith, found_in_own, rule_of_group)

pub delays_of_own : (agent : List ℕ) (lines : List LineValue) → list_any is_agent lines ≡ true
    → captured_delays agent lines
    ≡ filter_map delay_of (own_tagged (group_name agent lines) lines)
delays_of_own agent lines some = grind (arith, delay_of_group, found_in_own)

pub given_push : {X Y : Type 0} (h : X → Option Y) (xs : List X) (x : X)
    → filter_map h (xs ++ x ∷ []) ≡ filter_map h xs ++ option_to_list (h x)
given_push h xs x = grind (arith, filter_map-append)

pub agents_more : (begun : Bool) (line : LineValue) (left : List LineValue)
    → ((begun || is_agent line) || list_any is_agent left) ≡ (begun || list_any is_agent (line ∷ left))
agents_more begun line left = grind arith

pub early_more : (begun : Bool) (early : Option ℕ) (line : LineValue) (left : List LineValue)
    → cond (begun || is_agent line) (early_after begun early line) (delay_from
    (early_after begun early line) left)
    ≡ cond begun early (delay_from early (line ∷ left))
early_more begun early line left = grind (arith, last_or_cons)

-- ---- What is captured for a name is what the groups with that name contain.

-- the lines of the groups with the name; `joined`: a user-agent line above the first group has the name
abbrev lines_with : List ℕ → Bool → List GroupValue → List (ℕ × LineValue)
lines_with name joined [] = []
lines_with name joined (group ∷ groups) =
    cond (joined || is_for name group) (group.lines ++ lines_for name groups) (lines_for name groups)

abbrev is_empty : {X : Type 0} → List X → Bool
is_empty [] = true
is_empty (x ∷ xs) = false

-- what is captured of lines with these groups, below a line after which the tracker has this state
abbrev captured_of : List ℕ → Bool → Bool → List (ℕ × LineValue) → List GroupValue → List (ℕ × LineValue)
captured_of name captured named above groups =
    let below = lines_with name (is_empty above && named) groups in cond captured (above ++ below) below

not_joined : (name : List ℕ) (groups : List GroupValue) → lines_with name false groups ≡ lines_for name groups
not_joined name groups = grind arith

moved : (a b c : Bool) → ((a || b) || c) ≡ (b || (a || c))
moved a b c = grind arith

with_agent : (name value : List ℕ) (position : ℕ) (named : Bool) (above : List (ℕ × LineValue))
    (groups : List GroupValue) (is : Bool) → is ≡ bytes_eq (str_to_ascii_lowercase value) name
    → captured_of name (is || named) (is || named) above groups
    ≡ lines_with name named (with_name (position, value) above groups)
with_agent name value position named above groups is same =
    grind (arith, cond_same, moved, not_joined, or-false)

with_other : (is_member : Bool) (name : List ℕ) (line : ℕ × LineValue) (captured named : Bool)
    (above : List (ℕ × LineValue)) (groups : List GroupValue)
    → cons_option (cond captured (cond is_member (Some line) None) None)
    (captured_of name captured (not is_member && named) above groups)
    ≡ captured_of name captured named (cond is_member (line ∷ above) above) groups
with_other is_member name line captured named above groups = grind (arith, and-false, nothing_here)

abbrev member_line : ℕ × LineValue → Option (ℕ × LineValue)
member_line line = cond (is_member line.1) (Some line) None

walked : (name : List ℕ) (tracker : GroupTracker) (position : ℕ) (lines : List LineValue)
    → from_captured member_line name tracker position lines
    ≡ captured_of name tracker.captured tracker.named (grouped_from position lines).above
    (grouped_from position lines).groups
walked name tracker position [] = sym (cond_same tracker.captured [])
walked name tracker position (UserAgent value ∷ lines) =
    grind (
      arith,
      cond_same,
      nothing_here,
      with_agent,
      walked name (step name tracker (UserAgent value)) (position + 1) lines,
    )
walked name tracker position (line ∷ lines) =
    grind (arith, with_other, walked name (step name tracker line) (position + 1) lines)

kept_groups : (lines : List (ℕ × LineValue))
    → filter (λ (l : ℕ × LineValue). is_member l.1) lines ≡ filter_map member_line lines
kept_groups [] = refl
kept_groups (line ∷ lines) = grind (arith, kept_groups lines)

captured_by_groups : (name : List ℕ) (lines : List LineValue) → list_any is_agent lines ≡ true
    → filter (λ (l : ℕ × LineValue). is_member l.1) (captured_lines name lines)
    ≡ lines_for name (groups lines)
captured_by_groups name lines some =
    grind (arith, and-false, captured_walked, kept_groups, not_joined, walked)

given_members : {X : Type 0} (given : ℕ × LineValue → Option X)
    → ((position : ℕ) (line : LineValue) → is_member line ≡ false → given (position, line) ≡ None)
    → (lines : List (ℕ × LineValue))
    → filter_map given lines ≡ filter_map given (filter (λ (l : ℕ × LineValue). is_member l.1) lines)
given_members given none [] = refl
given_members given none (line ∷ lines) = rw (given_members given none lines) (one (is_member line.1) refl)
  where
    rest : List (ℕ × LineValue)
    rest = filter (λ (l : ℕ × LineValue). is_member l.1) lines

    one : (b : Bool) → is_member line.1 ≡ b
        → cons_option (given line) (filter_map given rest) ≡ filter_map given (cond b (line ∷ rest) rest)
    one true is = refl
    one false isnt = rw (none line.0 line.1 isnt) refl

pub rules_of_groups : (agent : List ℕ) (lines : List LineValue) → list_any is_agent lines ≡ true
    → placed_rules agent lines ≡ filter_map placed_in (lines_for (group_name agent lines) (groups lines))
rules_of_groups agent lines some = grind (arith, captured_by_groups, given_members, rule_of_group)

pub delays_of_groups : (agent : List ℕ) (lines : List LineValue) → list_any is_agent lines ≡ true
    → captured_delays agent lines
    ≡ filter_map (λ (l : ℕ × LineValue). delay_in l.1) (lines_for (group_name agent lines) (groups lines))
delays_of_groups agent lines some = grind (arith, captured_by_groups, delay_of_group, given_members)

same_place : (a b : ℕ × LineValue) → ◌≡◌ {A = Option (ℕ × LineValue)} (Some a) (Some b) → a.0 ≡ b.0
same_place a b is = grind arith

pub captured_in_groups : (name : List ℕ) (lines : List LineValue) (position : ℕ) (line : LineValue)
    → list_any is_agent lines ≡ true → slice_get lines position ≡ Some line → IsTrue (is_member line)
    → IsCaptured name lines position ↔ Contains (lines_for name (groups lines)) (position, line)
captured_in_groups name lines position line some at is =
    let test = is_captured name lines in
    let decides = is_captured_decides name lines position in
    let (to, from) = given_come member_line test 0 lines (position, line) in
    let same = sym (kept_groups (captured_lines name lines)) ∙ captured_by_groups name lines some in
    rw (← same) (
      grind (arith, cond_some_iff, test, decides.1, from),
      grind (arith, cond_some_iff, same_place, to, test, decides.0),
    )
