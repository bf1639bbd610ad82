-- The names in a file, and how a site finds them.
use Rattle.std.proofs.Common.{◌≡◌, ◌≢◌, inl, inr, ℕ, zero, suc, ◌+◌, ◌<◌, ◌≤◌, Bool, true, false, List, []}
use Rattle.std.proofs.Common.{◌∷◌, Some, length, drop, refl, ap, sym, ◌∙◌, arith, add-one, drop-cons, get_or}
use Rattle.std.proofs.Common.{ltb, map, replicate, set, slice_get, ◌||◌, ◌==◌, not, cond, ◌++◌, None, filter}
use Rattle.std.proofs.Common.{◌&&◌, take}
use Rattle.std.specs.List.{list_any, position_or_len, cons_option, filter_map}
use Rattle.std.specs.Str.{str_to_ascii_lowercase, is_utf8}
use Rattle.std.proofs.lemmas.Bool.{cases_Bool, eq-eqb, eqb-true, le-ltb, lt-ltb, ltb-false, ltb-true, ne_eqb}
use Rattle.std.proofs.lemmas.{Bool.Decides.eqb_tells, Grind.get_or-set_at, Slice.Eq.bytes_eq-Decides}
use Rattle.std.proofs.lemmas.List.{drop-drop, get_or-replicate, get_or-set_other, length-map, length-set}
use Rattle.std.proofs.lemmas.List.{length-replicate, take-map, take_more}
use Rattle.std.proofs.lemmas.Option.{get_or_from_slice_get, slice_get-get_or, slice_get-map, slice_get_read}
use Rattle.std.proofs.lemmas.Option.{slice_get_within}
use Rattle.texting_robots.specs.Internal.Site.{AreLinked, bucket_of, first_named, is_in, Named, has_name}
use Rattle.texting_robots.specs.Internal.Site.{in_front, is_of, is_group_of, named_of, tag_at, count_after}
use Rattle.texting_robots.specs.Internal.Site.{named, named_from, group_after}
use Rattle.texting_robots.specs.declared.site.lines.{KeptLine.KeptLine, AgentLine.AgentLine}
use Rattle.texting_robots.specs.Agents.{agent_in, agents_in, each_once, is_among}
use Rattle.texting_robots.specs.{Group.is_member, Internal.Group.text_from, Line.LineValue, Line.UserAgent}

-- ---- Lookup by name: the buckets of a hash table, and the lines that iterating over a bucket visits.

pub drop_is : {X : Type 0} (xs : List X) (i : ℕ) (x : X) → slice_get xs i ≡ Some x
    → drop i xs ≡ x ∷ drop (i + 1) xs
drop_is xs i x at =
    rw (add-one, drop-cons xs i x (slice_get_within xs i x at), get_or_from_slice_get xs i x x at) refl

pub first_now : {X : Type 0} (p : X → Bool) (x : X) (xs : List X) → p x ≡ true → position_or_len p (x ∷ xs)
    ≡ 0
first_now p x xs is = rw is refl

pub first_later : {X : Type 0} (p : X → Bool) (x : X) (xs : List X) → p x ≡ false
    → position_or_len p (x ∷ xs) ≡ suc (position_or_len p xs)
first_later p x xs isnt = rw isnt (omega arith)

-- searching by the weaker test `r`, and from there by `p`, finds the first that passes `p`
skip : {X : Type 0} (p r : X → Bool) → ((x : X) → r x ≡ false → p x ≡ false) → (xs : List X)
    → position_or_len r xs + position_or_len p (drop (position_or_len r xs) xs) ≡ position_or_len p xs
skip p r weaker [] = refl
skip p r weaker (x ∷ xs) = grind (arith, cases_Bool, first_later, first_now, skip p r weaker xs)

pub first_here : {X : Type 0} (p : X → Bool) (xs : List X)
    → position_or_len p (drop (position_or_len p xs) xs) ≡ 0
first_here p [] = refl
first_here p (x ∷ xs) = grind (arith, cases_Bool, first_later, first_now, first_here p xs)

pub here : {X : Type 0} (p : X → Bool) (x : X) (xs : List X) → position_or_len p (x ∷ xs) ≡ 0 → p x ≡ true
here p x xs first = grind (arith, cases_Bool)

pub linked_none : (count : ℕ) (names : List Named) (heads nexts : List ℕ) → count ≡ length names
    → heads ≡ replicate count count → length nexts ≡ count → AreLinked count names heads nexts
linked_none count names heads nexts counted are followed =
    grind (arith, get_or-replicate, length-replicate, slice_get_within, all_dropped)
  where
    all_dropped : {X : Type 0} (xs : List X) → drop (length xs) xs ≡ []
    all_dropped [] = refl
    all_dropped (x ∷ xs) = all_dropped xs

pub linked_more : (names : List Named) (position bucket : ℕ) (n : Named) (heads nexts : List ℕ)
    → slice_get names position ≡ Some n → bucket ≡ bucket_of (length names) (str_to_ascii_lowercase n.name)
    → bucket < length names → AreLinked (position + 1) names heads nexts
    → AreLinked position names (set heads bucket position) (set nexts position (get_or heads bucket 0))
linked_more names position bucket n heads nexts at its within linked =
    let N = length names in
    let inside : position < N = slice_get_within names position n at in
    let bucket_is : is_in N bucket n ≡ true = eq-eqb _ bucket (sym its) in record {
      buckets = length-set heads bucket position ∙ linked.buckets;
      followed = length-set nexts position (get_or heads bucket 0) ∙ linked.followed;
      heads_are = λ b below. elim (eqb_tells b bucket) [
        | inl (is, same) ↦ get_or-set_at heads bucket b position 0 same (omega (arith, linked.buckets))
            ∙ rw (drop_is names position n at, same, bucket_is) (omega arith)
        | inr (isnt, other) ↦
            let isnt_in : is_in N b n ≡ false = ne_eqb _ b (λ wrong. other (sym (its ∙ wrong))) in
            get_or-set_other heads bucket b position 0 other ∙ linked.heads_are b below
            ∙ rw (drop_is names position n at, isnt_in) (omega arith)
      ];
      nexts_are = λ i m from there. elim (eqb_tells i position) [
        | inl (is, same) ↦
            let one : Some n ≡ Some m = cc in
            let alike : n ≡ m = cc in
            get_or-set_at nexts position i (get_or heads bucket 0) 0 same (omega (arith, linked.followed))
            ∙ linked.heads_are bucket within
            ∙ rw (its, alike, same) refl
        | inr (isnt, other) ↦ get_or-set_other nexts position i (get_or heads bucket 0) 0 other
            ∙ linked.nexts_are i m (omega arith) there
      ];
    }

pub other_bucket : (name : List ℕ) (count : ℕ) (n : Named) → is_in count (bucket_of count name) n ≡ false
    → has_name name n ≡ false
other_bucket name count n isnt = grind (arith, bytes_eq-Decides, cases_Bool, eq-eqb)

pub from_bucket : (name : List ℕ) (count : ℕ) (names : List Named)
    → let start = position_or_len (is_in count (bucket_of count name)) names in
    start + first_named name (drop start names) ≡ first_named name names
from_bucket name count names = grind (arith, other_bucket, skip)

pub record IsNext (name : List ℕ) (count position next : ℕ) (names : List Named) : Type 0 where
  pub here : position_or_len (is_in count (bucket_of count name)) (drop next names) ≡ 0
  pub rest : next + first_named name (drop next names)
      ≡ position + 1 + first_named name (drop (position + 1) names)

-- the next line in the name's bucket skips no line with the name
pub next_in_bucket : (name : List ℕ) (position next bucket : ℕ) (names : List Named)
    → bucket ≡ bucket_of (length names) name
    → next ≡ position + 1 + position_or_len (is_in (length names) bucket) (drop (position + 1) names)
    → IsNext name (length names) position next names
next_in_bucket name position next bucket names its are =
    grind (arith, drop-drop, first_here, from_bucket, here)

pub agent_at : (lines : List AgentLine) (names : List Named) (position : ℕ) (line : AgentLine)
    → map named_of lines ≡ names → position < length lines → line ≡ get_or lines position line
    → slice_get names position ≡ Some (named_of line)
agent_at lines names position line are within is = grind (arith, slice_get-map, slice_get_read)

pub head_is : (name : List ℕ) (names : List Named) (heads nexts : List ℕ) (count bucket : ℕ)
    → AreLinked 0 names heads nexts → count ≡ length heads → bucket ≡ bucket_of count name → bucket < count
    → get_or heads bucket 0 ≡ position_or_len (is_in (length names) (bucket_of (length names) name)) names
head_is name names heads nexts count bucket linked counted its below = grind arith

next_is : (names : List Named) (heads nexts : List ℕ) (position next : ℕ) (n : Named)
    → AreLinked 0 names heads nexts
    → slice_get names position ≡ Some n → next ≡ get_or nexts position next
    → next ≡ position + 1
    + position_or_len (is_in (length names) (bucket_of (length names) (str_to_ascii_lowercase n.name)))
    (drop (position + 1) names)
next_is names heads nexts position next n linked at is =
    grind (arith, get_or_from_slice_get, slice_get_read, slice_get_within)

pub next_is_after : (names : List Named) (heads nexts : List ℕ) (position next : ℕ) (n : Named)
    → AreLinked 0 names heads nexts → slice_get names position ≡ Some n → next ≡ get_or nexts position next
    → position < next
next_is_after names heads nexts position next n linked at is =
    omega (arith, next_is names heads nexts position next n linked at is)

pub walk_on : (name : List ℕ) (names : List Named) (heads nexts : List ℕ) (position next : ℕ) (n : Named)
    → AreLinked 0 names heads nexts → slice_get names position ≡ Some n → next ≡ get_or nexts position next
    → position_or_len (is_in (length names) (bucket_of (length names) name)) (drop position names) ≡ 0
    → IsNext name (length names) position next names
walk_on name names heads nexts position next n linked at is first =
    let N = length names in
    let p = is_in N (bucket_of N name) in
    let inside : p n ≡ true = grind (arith, drop_is, here) in
    next_in_bucket name position next (bucket_of N (str_to_ascii_lowercase n.name)) names
    (eqb-true _ _ inside) (next_is names heads nexts position next n linked at is)

pub first_named_zero : (name : List ℕ) (names : List Named) (position : ℕ) (n : Named)
    → slice_get names position ≡ Some n
    → has_name name n ≡ true → first_named name (drop position names) ≡ 0
first_named_zero name names position n at is = grind (arith, drop_is, first_now)

pub first_named_next : (name : List ℕ) (names : List Named) (position : ℕ) (n : Named)
    → slice_get names position ≡ Some n
    → has_name name n ≡ false
    → position + 1 + first_named name (drop (position + 1) names)
    ≡ position + first_named name (drop position names)
first_named_next name names position n at isnt =
    omega (
      arith,
      ap (first_named name) (drop_is names position n at),
      first_later (has_name name) n (drop (position + 1) names) isnt,
    )

pub named_bucket : (name : List ℕ) (names : List Named) (position : ℕ) (n : Named) → slice_get names position
    ≡ Some n
    → first_named name (drop position names) ≡ 0
    → position_or_len (is_in (length names) (bucket_of (length names) name)) (drop position names) ≡ 0
named_bucket name names position n at first =
    grind (arith, bytes_eq-Decides, drop_is, eq-eqb, first_now, here)

no_name : Named
no_name = record { name = []; group = 0; start = 0 }

pub some_at : (names : List Named) (position : ℕ) → position < length names
    → (n : Named) × (slice_get names position ≡ Some n)
some_at names position within = (
  get_or names position no_name,
  slice_get-get_or names position no_name within,
)

pub groups_from_first : (name : List ℕ) (names : List Named) (r : ℕ)
    → is_group_of name (drop (first_named name names) names) r ≡ is_group_of name names r
groups_from_first name [] r = refl
groups_from_first name (n ∷ names) r = elim (cases_Bool (has_name name n)) [
  | inl is ↦ grind (arith, first_now)
  | inr isnt ↦
      let other : (is_of name r n || is_group_of name names r) ≡ is_group_of name names r = rw isnt refl in
      cc (first_later (has_name name) n names isnt, groups_from_first name names r)
]

pub later_at : {X : Type 0} (xs : List X) (k j : ℕ) (x : X) → slice_get (drop k xs) j ≡ Some x
    → slice_get xs (k + j) ≡ Some x
later_at xs zero j x at = grind arith
later_at [] (suc k) j x at = cc
later_at (y ∷ xs) (suc k) j x at = grind (arith, later_at xs k j x at)

pub past_end : {X : Type 0} (xs : List X) (i : ℕ) → length xs ≤ i → drop i xs ≡ []
past_end [] zero past = refl
past_end [] (suc i) past = refl
past_end (x ∷ xs) zero past = absurd (omega arith)
past_end (x ∷ xs) (suc i) past = past_end xs i (omega arith)

kept_at : (text : List ℕ) (lines : List KeptLine) (at : ℕ) (line : KeptLine) → at < length lines → line
    ≡ get_or lines at line
    → drop at (map (tag_at text) lines) ≡ tag_at text line ∷ drop (at + 1) (map (tag_at text) lines)
kept_at text lines at line within is =
    drop_is (map (tag_at text) lines) at (tag_at text line) (grind (
      arith,
      slice_get-map,
      slice_get_read,
      within,
    ))

pub front_line : (text : List ℕ) (lines : List KeptLine) (at group : ℕ) (line : KeptLine) → at < length lines
    → line ≡ get_or lines at line → line.group ≡ group
    → in_front group (drop at (map (tag_at text) lines))
    ≡ tag_at text line ∷ in_front group (drop (at + 1) (map (tag_at text) lines))
front_line text lines at group line within is same = grind (arith, eq-eqb, kept_at)

pub front_other : (text : List ℕ) (lines : List KeptLine) (at group : ℕ) (line : KeptLine) → at < length lines
    → line ≡ get_or lines at line → line.group ≢ group → in_front group (drop at (map (tag_at text) lines))
    ≡ []
front_other text lines at group line within is other =
    ap (in_front group) (kept_at text lines at line within is) ∙ rw (ne_eqb line.group group other) refl

pub front_past : (text : List ℕ) (lines : List KeptLine) (at group : ℕ) → length lines ≤ at
    → in_front group (drop at (map (tag_at text) lines)) ≡ []
front_past text lines at group past = grind (arith, length-map, past_end)

pub first_within : (name : List ℕ) (names : List Named)
    → ltb (first_named name names) (length names) ≡ list_any (has_name name) names
first_within name [] = refl
first_within name (n ∷ names) =
    let before = λ (k : ℕ). ltb k (length (n ∷ names)) in elim (cases_Bool (has_name name n)) [
      | inl is ↦ grind (arith, first_now, lt-ltb)
      | inr isnt ↦ ap before (first_later (has_name name) n names isnt)
          ∙ both_more (first_named name names) (length names) ∙ first_within name names ∙ sym (rw isnt refl)
    ]
  where
    both_more : (a b : ℕ) → ltb (suc a) (suc b) ≡ ltb a b
    both_more a b = elim (cases_Bool (ltb a b)) [
      | inl less ↦ lt-ltb (suc a) (suc b) (omega (arith, ltb-true a b less)) ∙ sym less
      | inr least ↦ le-ltb (suc a) (suc b) (omega (arith, ltb-false a b least)) ∙ sym least
    ]

-- ---- The names in a file, each once.

abbrev pub name_of : Named → List ℕ
name_of n = n.name

values_from : (group : ℕ) (joins : Bool) (position count : ℕ) (lines : List LineValue)
    → map name_of (named_from group joins position count lines) ≡ filter_map agent_in lines
values_from group joins position count [] = refl
values_from group joins position count (UserAgent value ∷ lines) =
    grind (
      arith,
      values_from (group_after group joins (position + 1) (UserAgent value)) true (position + 1) count lines,
    )
values_from group joins position count (line ∷ lines) =
    values_from group (not (is_member line) && joins) (position + 1) (count_after count line) lines

pub values_are : (lines : List LineValue) → map name_of (named lines) ≡ filter_map agent_in lines
values_are lines = values_from 0 false 0 0 lines

same_suc : (a b : ℕ) → (suc a == suc b) ≡ (a == b)
same_suc a b = grind (arith, eq-eqb, eqb_tells, ne_eqb)

first_if : (name : List ℕ) (names : List Named) (position : ℕ) (n : Named) → slice_get names position ≡ Some n
    → has_name name n ≡ true
    → (first_named name names == position) ≡ not (list_any (has_name name) (take position names))
first_if name [] position n at has = cc
first_if name (m ∷ names) zero n at has = grind (arith, first_now)
first_if name (m ∷ names) (suc position) n at has = elim (cases_Bool (has_name name m)) [
  | inl is ↦ grind (arith, first_now, ne_eqb)
  | inr isnt ↦ ap (λ k. k == suc position) (first_later (has_name name) m names isnt)
      ∙ same_suc (first_named name names) position ∙ first_if name names position n at has ∙ rw isnt refl
]

any_map : {X Y : Type 0} (p : Y → Bool) (f : X → Y) (xs : List X) → list_any p (map f xs)
    ≡ list_any (λ x. p (f x)) xs
any_map p f [] = refl
any_map p f (x ∷ xs) = cc (any_map p f xs)

among : (names : List Named) (position : ℕ) (n : Named) → slice_get names position ≡ Some n
    → (first_named (str_to_ascii_lowercase n.name) names == position)
    ≡ not (is_among n.name (take position (map name_of names)))
among names position n at =
    let name = str_to_ascii_lowercase n.name in
    first_if name names position n at ((bytes_eq-Decides name name).1 refl)
    ∙ ap not (grind (arith, any_map, take-map, position))

abbrev pub left_at : ℕ → List Named → List (List ℕ)
left_at position names =
    filter is_utf8 (each_once (take position (map name_of names)) (drop position (map name_of names)))

once_next : (names : List (List ℕ)) (position : ℕ) (name : List ℕ) → slice_get names position ≡ Some name
    → each_once (take position names) (drop position names)
    ≡ cond (is_among name (take position names)) (each_once (take (position + 1) names)
    (drop (position + 1) names))
    (name ∷ each_once (take (position + 1) names) (drop (position + 1) names))
once_next names position name at =
    let more : take (position + 1) names ≡ take position names ++ name ∷ [] =
    cc (
      take_more names position name (slice_get_within names position name at),
      get_or_from_slice_get names position name name at,
    ) in
    grind (arith, drop_is)

value_at : (names : List Named) (position : ℕ) (n : Named) → slice_get names position ≡ Some n
    → slice_get (map name_of names) position ≡ Some n.name
value_at names position n at = grind (arith, slice_get-map)

pub left_again : (names : List Named) (position : ℕ) (n : Named) → slice_get names position ≡ Some n
    → first_named (str_to_ascii_lowercase n.name) names ≢ position → left_at (position + 1) names
    ≡ left_at position names
left_again names position n at other =
    let isnt : not (is_among n.name (take position (map name_of names))) ≡ false =
    sym (among names position n at) ∙ ne_eqb _ position other in
    cc (
      once_next (map name_of names) position n.name (value_at names position n at),
      dropped (is_among n.name (take position (map name_of names))) _ _ isnt,
    )
  where
    dropped : {X : Type 0} (b : Bool) (xs ys : List X) → not b ≡ false → cond b xs ys ≡ xs
    dropped true xs ys isnt = refl
    dropped false xs ys isnt = cc

pub left_first : (names : List Named) (position : ℕ) (n : Named) → slice_get names position ≡ Some n
    → first_named (str_to_ascii_lowercase n.name) names ≡ position
    → left_at position names ≡ cons_option (text_from n.name) (left_at (position + 1) names)
left_first names position n at same =
    let is : not (is_among n.name (take position (map name_of names))) ≡ true =
    sym (among names position n at) ∙ eq-eqb _ position same in
    cc (
      once_next (map name_of names) position n.name (value_at names position n at),
      kept (is_among n.name (take position (map name_of names))) _ _ is,
      if_text (is_utf8 n.name) n.name _,
    )
  where
    kept : {X : Type 0} (b : Bool) (xs ys : List X) → not b ≡ true → cond b xs ys ≡ ys
    kept false xs ys is = refl
    kept true xs ys is = cc

    if_text : {X : Type 0} (b : Bool) (x : X) (xs : List X) → cond b (x ∷ xs) xs
        ≡ cons_option (cond b (Some x) None) xs
    if_text true x xs = refl
    if_text false x xs = refl

pub none_left : (names : List Named) (position : ℕ) → length names ≤ position → left_at position names ≡ []
none_left names position past = grind (arith, length-map, past_end)

pub all_left : (lines : List LineValue) → left_at 0 (named lines) ≡ agents_in lines
all_left lines = grind (arith, values_are)
