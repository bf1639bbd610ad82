-- Where the lines of a group begin, and what one more group gives.
use Rattle.std.specs.{Prelude.filter, List.cons_option, List.list_any}
use Rattle.std.proofs.Common.{◌≡◌, ◌≢◌, ℕ, zero, suc, ◌+◌, ◌<◌, ◌≤◌, ◌==◌, Bool, true, false, List, [], ◌∷◌}
use Rattle.std.proofs.Common.{Some, length, drop, refl, sym, arith, cond, not, None, slice_get, subst, ◌&&◌}
use Rattle.std.proofs.lemmas.Bool.{and_parts, ne_eqb, Decides.eqb_tells}
use Rattle.texting_robots.{specs.Line.LineValue, specs.Line.UserAgent, proofs.SiteLemmas.group_ends}
use Rattle.texting_robots.specs.Group.{is_agent, is_agent_named, is_member}
use Rattle.texting_robots.specs.Internal.Site.{Named, Tagged, has_name, in_front, named, named_from, tagged}
use Rattle.texting_robots.specs.Internal.Site.{count_after, group_after, tagged_from}

abbrev pub of_group : ℕ → List Tagged → List Tagged
of_group group tags = filter (λ t. t.group == group) tags

-- no line belongs to an earlier group
abbrev IsAbove : ℕ → List Tagged → Type 0
IsAbove group [] = Unit {0}
IsAbove group (t ∷ tags) = (group ≤ t.group) × IsAbove group tags

abbrev pub Ascends : List Tagged → Type 0
Ascends [] = Unit {0}
Ascends (t ∷ tags) = IsAbove t.group tags × Ascends tags

above_next : (is_member : Bool) (group : ℕ) (tag : Tagged) (tags : List Tagged) → group ≤ tag.group
    → IsAbove group tags → IsAbove group (cons_option (cond is_member (Some tag) None) tags)
above_next is_member group tag tags here later = grind arith

above_from : (r group : ℕ) (joins : Bool) (position : ℕ) (lines : List LineValue) → r ≤ group
    → group ≤ position
    → IsAbove r (tagged_from group joins position lines)
above_from r group joins position [] below within = tt
above_from r group true position (UserAgent value ∷ lines) below within =
    above_from r group true (position + 1) lines below (omega arith)
above_from r group false position (UserAgent value ∷ lines) below within =
    above_from r (position + 1) true (position + 1) lines (omega arith) (omega arith)
above_from r group joins position (line ∷ lines) below within =
    grind (arith, above_next, above_from r group (not (is_member line) && joins) (position + 1) lines below)

le_self : (n : ℕ) → n ≤ n
le_self n = omega arith

ascends_next : (is_member : Bool) (tag : Tagged) (tags : List Tagged) → IsAbove tag.group tags → Ascends tags
    → Ascends (cons_option (cond is_member (Some tag) None) tags)
ascends_next is_member tag tags above later = grind arith

ascends_from : (group : ℕ) (joins : Bool) (position : ℕ) (lines : List LineValue) → group ≤ position
    → Ascends (tagged_from group joins position lines)
ascends_from group joins position [] within = tt
ascends_from group true position (UserAgent value ∷ lines) within =
    ascends_from group true (position + 1) lines (omega arith)
ascends_from group false position (UserAgent value ∷ lines) within =
    ascends_from (position + 1) true (position + 1) lines (omega arith)
ascends_from group joins position (line ∷ lines) within =
    let joined = not (is_member line) && joins in
    ascends_next (is_member line) (record { number = position + 1; line = line; group = group }) _
    (above_from group group joined (position + 1) lines (le_self group) (omega arith))
    (ascends_from group joined (position + 1) lines (omega arith))

pub tagged_ascends : (lines : List LineValue) → Ascends (tagged lines)
tagged_ascends lines = ascends_from 0 false 0 lines (omega arith)

-- ---- If the groups ascend, the lines of a group directly follow those of earlier groups

pub none_above : (r group : ℕ) (tags : List Tagged) → r < group → IsAbove group tags → of_group r tags ≡ []
none_above r group [] less above = refl
none_above r group (t ∷ tags) less (here, later) = grind (arith, ne_eqb, none_above r group tags less later)

front_is_group : (group : ℕ) (tags : List Tagged) → IsAbove group tags → Ascends tags
    → in_front group tags ≡ of_group group tags
front_is_group group [] above ascends = refl
front_is_group group (t ∷ tags) (here, later) (first, rest) =
    grind (arith, eqb_tells, none_above, front_is_group group tags later rest)

names_from : (name : List ℕ) (group : ℕ) (joins : Bool) (position count : ℕ) (lines : List LineValue)
    → list_any (has_name name) (named_from group joins position count lines)
    ≡ list_any (is_agent_named name) lines
names_from name group joins position count [] = refl
names_from name group joins position count (UserAgent value ∷ lines) =
    grind (
      arith,
      names_from name (group_after group joins (position + 1) (UserAgent value)) true (position + 1) count
          lines,
    )
names_from name group joins position count (line ∷ lines) =
    names_from name group (not (is_member line) && joins) (position + 1) (count_after count line) lines

pub names_any : (name : List ℕ) (lines : List LineValue)
    → list_any (has_name name) (named lines) ≡ list_any (is_agent_named name) lines
names_any name lines = names_from name 0 false 0 0 lines

some_from : (group : ℕ) (joins : Bool) (position count : ℕ) (lines : List LineValue)
    → list_any (λ (n : Named). true) (named_from group joins position count lines) ≡ list_any is_agent lines
some_from group joins position count [] = refl
some_from group joins position count (UserAgent value ∷ lines) = refl
some_from group joins position count (line ∷ lines) =
    some_from group (not (is_member line) && joins) (position + 1) (count_after count line) lines

pub no_names : (lines : List LineValue) → named lines ≡ [] → list_any is_agent lines ≡ false
no_names lines none = grind (arith, some_from)

pub some_names : (lines : List LineValue) → named lines ≢ [] → list_any is_agent lines ≡ true
some_names lines some = grind (arith, some_from, filled)
  where
    filled : (ns : List Named) → ns ≢ [] → list_any (λ (n : Named). true) ns ≡ true
    filled [] some = absurd (some refl)
    filled (n ∷ ns) some = refl

pub has_names : (lines : List LineValue) (names : List Named) → names ≡ named lines
    → not (length names == 0) ≡ list_any is_agent lines
has_names lines [] are = sym (no_names lines (sym are))
has_names lines (n ∷ names) are = grind (arith, ne_eqb, some_names)

-- a group below these lines is at least this one, if the current one is, or is closed
named_above : (least group : ℕ) (joins : Bool) (position count : ℕ) (lines : List LineValue)
    → least ≤ position + 1 → (joins ≡ true → least ≤ group) → (i : ℕ) (n : Named)
    → slice_get (named_from group joins position count lines) i ≡ Some n → least ≤ n.group
named_above least group joins position count [] below here i n at = cc
named_above least group true position count (UserAgent value ∷ lines) below here zero n at = grind arith
named_above least group true position count (UserAgent value ∷ lines) below here (suc i) n at =
    named_above least group true (position + 1) count lines (omega arith) here i n at
named_above least group false position count (UserAgent value ∷ lines) below here zero n at = grind arith
named_above least group false position count (UserAgent value ∷ lines) below here (suc i) n at =
    named_above least (position + 1) true (position + 1) count lines (omega arith) (λ _. below) i n at
named_above least group joins position count (line ∷ lines) below here i n at =
    grind (
      arith,
      and_parts,
      named_above least group (not (is_member line) && joins) (position + 1) (count_after count line) lines,
    )

ascend_from : (group : ℕ) (joins : Bool) (position count : ℕ) (lines : List LineValue) → group ≤ position
    → (i j : ℕ) (m n : Named) → i < j
    → slice_get (named_from group joins position count lines) i ≡ Some m
    → slice_get (named_from group joins position count lines) j ≡ Some n → m.group ≤ n.group
ascend_from group joins position count [] within i j m n less here there = cc
ascend_from group joins position count (UserAgent value ∷ lines) within i zero m n less here there =
    absurd (omega arith)
ascend_from group true position count (UserAgent value ∷ lines) within zero (suc j) m n less here there =
    let same : record { name = value; group = group; start = count } ≡ m = cc in
    subst (λ (m : Named). m.group ≤ n.group) same
    (named_above group group true (position + 1) count lines (omega arith) (λ _. le_self group) j n there)
ascend_from group true position count (UserAgent value ∷ lines) within (suc i) (suc j) m n less here there =
    grind (arith, ascend_from group true (position + 1) count lines)
ascend_from group false position count (UserAgent value ∷ lines) within zero (suc j) m n less here there =
    let same : record { name = value; group = position + 1; start = count } ≡ m = cc in
    subst (λ (m : Named). m.group ≤ n.group) same
    (named_above (position + 1) (position + 1) true (position + 1) count lines (omega arith)
    (λ _. le_self (position + 1)) j n there)
ascend_from group false position count (UserAgent value ∷ lines) within (suc i) (suc j) m n less here there =
    grind (arith, ascend_from (position + 1) true (position + 1) count lines)
ascend_from group joins position count (line ∷ lines) within i j m n less here there =
    grind (
      arith,
      ascend_from group (not (is_member line) && joins) (position + 1) (count_after count line) lines,
    )

pub names_ascend : (lines : List LineValue) (i j : ℕ) (m n : Named) → i < j
    → slice_get (named lines) i ≡ Some m → slice_get (named lines) j ≡ Some n → m.group ≤ n.group
names_ascend lines i j m n less here there = grind (arith, ascend_from)

pub record IsStart (tags : List Tagged) (n : Named) : Type 0 where
  pub within : n.start ≤ length tags
  pub lines : in_front n.group (drop n.start tags) ≡ of_group n.group tags

-- the same for the members below `count` others
abbrev IsStartBelow : ℕ → List Tagged → Named → Type 0
IsStartBelow count tags n = (skipped : ℕ) × (n.start ≡ count + skipped) × (skipped ≤ length tags)
    × (in_front n.group (drop skipped tags) ≡ of_group n.group tags)

start_here : (name : List ℕ) (group count : ℕ) (tags : List Tagged) (n : Named)
    → record { name = name; group = group; start = count } ≡ n → IsAbove group tags → Ascends tags
    → IsStartBelow count tags n
start_here name group count tags n same above ascends = grind (arith, front_is_group)

start_next : (is_member : Bool) (count : ℕ) (tag : Tagged) (tags : List Tagged) (n : Named)
    → (is_member ≡ true → tag.group + 1 ≤ n.group) → IsStartBelow (cond is_member (count + 1) count) tags n
    → IsStartBelow count (cons_option (cond is_member (Some tag) None) tags) n
start_next true count tag tags n later (skipped, is, within, same) =
    let less = later refl in
    (suc skipped, omega arith, omega arith, rw (ne_eqb tag.group n.group (λ same. omega arith)) same)
start_next false count tag tags n later below = below

starts_from : (group : ℕ) (joins : Bool) (position count : ℕ) (lines : List LineValue) → group ≤ position
    → (i : ℕ) (n : Named) → slice_get (named_from group joins position count lines) i ≡ Some n
    → IsStartBelow count (tagged_from group joins position lines) n
starts_from group joins position count [] within i n at = cc
starts_from group true position count (UserAgent value ∷ lines) within zero n at =
    let same : record { name = value; group = group; start = count } ≡ n = cc in
    start_here value group count _ n same
    (above_from group group true (position + 1) lines (le_self group) (omega arith))
    (ascends_from group true (position + 1) lines (omega arith))
starts_from group false position count (UserAgent value ∷ lines) within zero n at =
    let same : record { name = value; group = position + 1; start = count } ≡ n = cc in
    start_here value (position + 1) count _ n same
    (grind (arith, above_from, le_self, lines))
    (ascends_from (position + 1) true (position + 1) lines (omega arith))
starts_from group true position count (UserAgent value ∷ lines) within (suc i) n at =
    starts_from group true (position + 1) count lines (omega arith) i n at
starts_from group false position count (UserAgent value ∷ lines) within (suc i) n at =
    starts_from (position + 1) true (position + 1) count lines (omega arith) i n at
starts_from group joins position count (line ∷ lines) within i n at =
    let joined = not (is_member line) && joins in
    let below = count_after count line in
    start_next (is_member line) count (record { number = position + 1; line = line; group = group }) _ n
    (λ member. let ends = group_ends (is_member line) joins member in
    named_above (group + 1) group joined (position + 1) below lines (omega arith) (λ goes_on. cc) i n at)
    (starts_from group joined (position + 1) below lines (omega arith) i n at)

pub starts : (lines : List LineValue) (i : ℕ) (n : Named) → slice_get (named lines) i ≡ Some n
    → IsStart (tagged lines) n
starts lines i n at = grind (arith, starts_from)
