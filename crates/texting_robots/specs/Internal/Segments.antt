-- How patterns are matched: stars, borders, segments, the prefilter, masks and entries of rules.
use Rattle.std.specs.Prelude.{◌≡◌, ◌+◌, ◌*◌, ◌≤◌, ℕ, List, length, ◌≢◌, Option, Some, None, All, [], ◌∷◌, ◌-◌}
use Rattle.std.specs.Prelude.{◌++◌, ◌<◌, slice_index, ◌↔◌, ◌==◌, true, false, drop, slice_range, take, ◌%◌}
use Rattle.std.specs.Prelude.{◌^◌, IfSome, bit_and, bit_or, min, Bool, EachIndex, map, slice_index_or}
use Rattle.std.specs.Prelude.{string_bytes, if◌then◌else◌}
use Rattle.texting_robots.specs.{View.ViewValue, Rules.PlacedRule}
use Rattle.texting_robots.specs.declared.prefilter.{Prefilter.Prefilter, head.Head.Head}
use Rattle.std.specs.{Borrow.Bor, declared.cmp.Ordering.Ordering, Int.w64, Int.from_le_bytes}
use Rattle.std.specs.List.{position_or_len, prefix_len}
use Rattle.texting_robots.specs.Pattern.{IsSuffix, star, dollar, Matches}
use Rattle.texting_robots.specs.declared.segments.{Span.Span, Segment.Segment, Ending.Ending, Ends.Ends}
use Rattle.texting_robots.specs.declared.segments.Ending.TheVariants.{Open, Closed, Last, Never}
use Rattle.texting_robots.specs.declared.prefilter.bigrams.BigramSet.{BigramSet}
use Rattle.std.specs.Ordering.{flip_args, nat_cmp, on, then_cmp}
use Rattle.texting_robots.specs.declared.rules.{RuleEntry.RuleEntry, RuleTable.RuleTable}
pub use Rattle.texting_robots.specs.Pattern.{is_wildcard}

-- at most two looks were taken for each byte that was left before and no longer is
pub record PassesTo (old new : ViewValue) (before after : List ℕ) : Type 0 where
  pub text : new.text ≡ old.text
  pub looks : old.looks ≤ new.looks
  pub cost : new.looks + 2 * length after ≤ old.looks + 2 * length before

-- the pattern from a star on, given by what follows the star
abbrev pub from_star : Option (Bor (List ℕ)) → List ℕ
from_star None = []
from_star (Some following) = star ∷ following.now

-- the segment precedes the pattern's first star, and the rest follows that star
pub record IsCutAtStar (pattern segment : List ℕ) (rest : Option (Bor (List ℕ))) : Type 0 where
  pub plain : All (λ b. b ≢ star) segment
  pub parts : pattern ≡ segment ++ from_star rest

-- the rest follows the first occurrence of the segment in the text: after any other occurrence less is left
pub record IsRestAfterFirst (segment text rest : List ℕ) : Type 0 where
  pub front : List ℕ
  pub splits : text ≡ front ++ (segment ++ rest)
  pub first : (other after : List ℕ) → text ≡ other ++ (segment ++ after) → IsSuffix after rest

abbrev pub OccursNowhere : List ℕ → List ℕ → Type 0
OccursNowhere segment text = (front rest : List ℕ) → text ≢ front ++ (segment ++ rest)

-- ---- The borders of a segment's prefixes, for the Knuth-Morris-Pratt algorithm. A border of some bytes is a
-- prefix of them, other than all of them, that is also a suffix.

-- the segment at this position has the same bytes as the text, as far as these are before `end`
abbrev pub Agrees : List ℕ → List ℕ → ℕ → ℕ → Type 0
Agrees text segment at end =
    (k : ℕ) → k < length segment → at + k < end → slice_index text (at + k) ≡ slice_index segment k

-- the first `border` bytes of the segment are the longest border of its first `len` bytes
pub record IsLongestBorder (segment : List ℕ) (len border : ℕ) : Type 0 where
  pub proper : border < len
  pub agrees : Agrees segment segment (len - border) len
  pub longest : (longer : ℕ) → border < longer → longer < len
      → ¬ Agrees segment segment (len - longer) len

-- the table has the longest border of the segment's first byte, of its first two bytes, and so on
abbrev pub AreBorders : List ℕ → List ℕ → Type 0
AreBorders segment table =
    (len : ℕ) → 0 < len → len ≤ length table
    → IsLongestBorder segment len (slice_index table (len - 1))

-- for all prefixes of the segment except the empty one and the segment itself
pub record IsTable (segment table : List ℕ) : Type 0 where
  pub long : length table ≡ length segment - 1
  pub borders : AreBorders segment table

-- ---- What the segments of a pattern match.

abbrev pub IsAtWildcard : List ℕ → Type 0
IsAtWildcard [] = Unit {0}
IsAtWildcard (b ∷ q) = is_wildcard b ≡ true

-- the segment precedes the pattern's first wildcard, where the rest begins
pub record IsCutAtWildcard (pattern segment rest : List ℕ) : Type 0 where
  pub plain : All (λ b. is_wildcard b ≡ false) segment
  pub parts : pattern ≡ segment ++ rest
  pub len : length segment ≡ position_or_len is_wildcard pattern
  pub at_wildcard : IsAtWildcard rest

abbrev pub after_stars : List ℕ → List ℕ
after_stars pattern = drop (prefix_len (λ b. b == star) pattern) pattern

-- the pattern is a dollar, followed by a pattern that matches the empty text
pub record Closes (pattern : List ℕ) : Type 0 where
  pub following : List ℕ
  pub dollar : pattern ≡ dollar ∷ following
  pub empty : Matches following []

pub record IsSpan {X : Type 0} (xs : List X) (span : Span) : Type 0 where
  pub ordered : span.start ≤ span.end
  pub within : span.end ≤ length xs

abbrev pub part_of : {X : Type 0} → List X → Span → List X
part_of xs span = slice_range xs span.start span.end

abbrev pub no_segment : Segment
no_segment = record { span = record { start = 0; end = 0 }; table = 0 }

abbrev pub InFront : List ℕ → List ℕ → List ℕ → Type 0
InFront segment rest text = (after : List ℕ) × (text ≡ segment ++ after) × Matches rest after

abbrev pub Somewhere : List ℕ → List ℕ → List ℕ → Type 0
Somewhere segment rest text = (after : List ℕ) × IsSuffix (segment ++ after) text × Matches rest after

abbrev pub Grows : List ℕ → Type 0
Grows pattern = (end text : List ℕ) → IsSuffix end text → Matches pattern end → Matches pattern text

-- the text that is left fits the ending of the pattern
abbrev pub EndsAs : List ℕ → Ending → List ℕ → Type 0
EndsAs pattern Open text = Unit {0}
EndsAs pattern Closed text = text ≡ []
EndsAs pattern (Last span) text = IsSuffix (part_of pattern span) text
EndsAs pattern Never text = ⊥

abbrev pub IsEnding : List ℕ → Ending → Type 0
IsEnding pattern Open = Unit {0}
IsEnding pattern Closed = Unit {0}
IsEnding pattern (Last span) = IsSpan pattern span
IsEnding pattern Never = Unit {0}

-- the failure table for the bytes of the segment is at the position that the segment states
pub record IsSegment (pattern borders : List ℕ) (segment : Segment) : Type 0 where
  pub span : IsSpan pattern segment.span
  pub fits : segment.table + (length (part_of pattern segment.span) - 1) ≤ length borders
  pub table : IsTable (part_of pattern segment.span)
      (slice_range borders segment.table (segment.table + (length (part_of pattern segment.span) - 1)))

-- what is left of the pattern is the segment, which may occur anywhere, and then the rest
pub record IsLeft (left segment rest : List ℕ) : Type 0 where
  pub decides : (text : List ℕ) → Matches left text ↔ Somewhere segment rest text
  pub grows : Grows rest

-- what is left of the pattern is these segments, one after the other, and then the ending
abbrev pub AreLeft : List ℕ → Ending → List Segment → List ℕ → Type 0
AreLeft pattern ending [] left = (text : List ℕ) → Matches left text ↔ EndsAs pattern ending text
AreLeft pattern ending (segment ∷ segments) left =
    (rest : List ℕ) × IsLeft left (part_of pattern segment.span) rest × AreLeft pattern ending segments rest

-- no bytes have to be at the end
abbrev pub IsNotLast : Ending → Type 0
IsNotLast Open = Unit {0}
IsNotLast Closed = Unit {0}
IsNotLast (Last span) = ⊥
IsNotLast Never = Unit {0}

-- nothing but the first segment is compared
abbrev pub IsUnsearched : List Segment → Ending → Type 0
IsUnsearched segments ending = (segments ≡ []) × IsNotLast ending

-- the pattern is its first segment, these segments with their failure tables, and its ending
pub record AreSegments (pattern : List ℕ) (ends : Ends) (segments : List Segment)
    (borders : List ℕ) : Type 0 where
  pub first : ends.first_len ≤ length pattern
  pub plain : ends.first_len ≡ position_or_len is_wildcard pattern
  pub unsearched : slice_index pattern ends.first_len ≢ star → IsUnsearched segments ends.ending
  pub known : All (IsSegment pattern borders) segments
  pub ending : IsEnding pattern ends.ending
  pub rest : List ℕ
  pub decides : (text : List ℕ) → Matches pattern text ↔ InFront (take ends.first_len pattern) rest text
  pub left : AreLeft pattern ends.ending segments rest

-- the segments were appended, and so were their failure tables
pub record AddsSegments (pattern : List ℕ) (ends : Ends) (old_segments new_segments : List Segment)
    (old_borders new_borders : List ℕ) : Type 0 where
  pub segments : List Segment
  pub tables : List ℕ
  pub put_segments : new_segments ≡ old_segments ++ segments
  pub put_tables : new_borders ≡ old_borders ++ tables
  pub are_segments : AreSegments pattern ends segments new_borders

-- ---- The prefilter: conditions on a text without which a pattern can't match it.

-- the first eight bytes as a little-endian number; a shorter text is padded with zeros
abbrev pub first_eight : List ℕ → ℕ
first_eight text = from_le_bytes w64 text

-- ones for the first n bytes of eight
abbrev pub ones_below : ℕ → ℕ
ones_below n = 2 ^ (8 * min n 8) - 1

-- the first bytes of the segment, at most eight, and ones for them
pub record IsHeadOf (segment : List ℕ) (head : Head) : Type 0 where
  pub mask : head.mask ≡ ones_below (length segment)
  pub bytes : head.bytes ≡ bit_and (first_eight segment) head.mask

-- `front`, the first eight bytes of a text, has the bytes of the head where the mask has ones
abbrev pub Fits : Head → ℕ → Type 0
Fits head front = bit_and front head.mask ≡ head.bytes

-- the bit of a bigram (two adjacent bytes) in a set of 64 bits
abbrev pub pair_bit : ℕ → ℕ → ℕ
pair_bit first second = 2 ^ ((first + 2 * second) % 64)

abbrev pub front_bit : ℕ → List ℕ → ℕ
front_bit first [] = 0
front_bit first (second ∷ rest) = pair_bit first second

unfoldable pub pair_set : List ℕ → ℕ
pair_set [] = 0
pair_set (first ∷ rest) = bit_or (front_bit first rest) (pair_set rest)

abbrev pub AreWithin : ℕ → ℕ → Type 0
AreWithin few many = bit_or few many ≡ many

abbrev pub ArePairsOf : List ℕ → Option BigramSet → Type 0
ArePairsOf text pairs = IfSome pairs (λ known. known.bits ≡ pair_set text)

-- the bigrams of the bytes that a text has to end with
abbrev pub ending_pairs : List ℕ → Ending → ℕ
ending_pairs pattern Open = 0
ending_pairs pattern Closed = 0
ending_pairs pattern (Last span) = pair_set (part_of pattern span)
ending_pairs pattern Never = 0

-- ---- Masks: some bigrams without which a rule can't match, by which many rules are skipped at once

-- the masks of this range exist, and none is a subset of the text's bigrams
abbrev pub AreApart : List ℕ → ℕ → ℕ → ℕ → Type 0
AreApart masks text from to =
    (k : ℕ) → from ≤ k → k < to → (k < length masks) × ¬ AreWithin (slice_index masks k) text

pub record Meets (prefilter : Prefilter) (text : List ℕ) : Type 0 where
  pub head : Fits prefilter.head (first_eight text)
  pub pairs : AreWithin prefilter.pairs.bits (pair_set text)

abbrev pub ArePrefilter : List ℕ → Prefilter → Type 0
ArePrefilter pattern prefilter = (text : List ℕ) → Matches pattern text → Meets prefilter text

-- ---- Rules by their ranges of shared vectors.

abbrev pub len_of : RuleEntry → ℕ
len_of entry = entry.pattern.end - entry.pattern.start

abbrev pub rank : ℕ → Bool → ℕ
rank len allows = 2 * len + (if allows then 1 else 0)

-- the ranges contain a pattern, its segments, with failure tables in `borders`, and its prefilter
pub record IsEntry (text : List ℕ) (segments : List Segment) (borders : List ℕ) (entry : RuleEntry)
    : Type 0 where
  pub pattern : IsSpan text entry.pattern
  pub searched : IsSpan segments entry.segments
  pub is_cut : AreSegments (part_of text entry.pattern) entry.ends (part_of segments entry.segments) borders
  pub needed : ArePrefilter (part_of text entry.pattern) entry.prefilter

abbrev pub IsEntryOf : RuleTable → RuleEntry → Type 0
IsEntryOf all entry = IsEntry (string_bytes all.text) all.segments.items all.borders.items entry

-- each entry is one of these vectors, and there are no more masks than entries
pub record AreEntries (all : RuleTable) : Type 0 where
  pub known : All (IsEntryOf all) all.entries.items
  pub masks : length all.masks.items ≤ length all.entries.items

abbrev pub pattern_of : RuleTable → RuleEntry → List ℕ
pattern_of all entry = part_of (string_bytes all.text) entry.pattern

abbrev pub placed_at : List ℕ → RuleEntry → PlacedRule
placed_at text entry = record { rule = (part_of text entry.pattern, entry.is_allow); line = entry.line }

abbrev pub rules_in : RuleTable → List PlacedRule
rules_in all = map (placed_at (string_bytes all.text)) all.entries.items

abbrev pub rank_in : RuleEntry → ℕ
rank_in entry = rank (len_of entry) entry.is_allow

abbrev pub line_in : RuleEntry → ℕ
line_in entry = entry.line

abbrev pub entry_cmp : RuleEntry → RuleEntry → Ordering
entry_cmp = then_cmp (flip_args (on rank_in nat_cmp)) (on line_in nat_cmp)

-- the higher rank is first, and for the same rank the earlier line
pub record GoesBefore (first second : RuleEntry) : Type 0 where
  pub higher : rank_in second ≤ rank_in first
  pub earlier : rank_in second ≡ rank_in first → first.line ≤ second.line

abbrev pub no_entry : RuleEntry
no_entry =
    let none : Span = record { start = 0; end = 0 } in
    record {
      prefilter = record { head = record { bytes = 0; mask = 0 }; pairs = record { bits = 0 } };
      pattern = none;
      segments = none;
      ends = record { first_len = 0; ending = Open };
      line = 0;
      is_allow = false;
    }

-- the bigrams of the prefilter, and those of at most nine bytes before the first wildcard
abbrev pub mask_in : List ℕ → RuleEntry → ℕ
mask_in text entry =
    bit_or entry.prefilter.pairs.bits
    (pair_set (take (min entry.ends.first_len 9) (part_of text entry.pattern)))

abbrev pub HaveMasks : List ℕ → List RuleEntry → List ℕ → Type 0
HaveMasks text entries masks =
    EachIndex masks (λ k. slice_index masks k ≡ mask_in text (slice_index_or entries k no_entry))

abbrev pub MatchesAt : RuleTable → ℕ → List ℕ → Type 0
MatchesAt all at text =
    Matches (pattern_of all (slice_index_or all.entries.items at no_entry)) text

abbrev pub NoneBetween : RuleTable → List ℕ → ℕ → ℕ → Type 0
NoneBetween all text from to = (k : ℕ) → from ≤ k → k < to → ¬ MatchesAt all k text

abbrev pub NoneMatches : RuleTable → List ℕ → Type 0
NoneMatches all text = (k : ℕ) → k < length all.entries.items → ¬ MatchesAt all k text

abbrev pub IsFirstMatch : RuleTable → List ℕ → ℕ → Type 0
IsFirstMatch all text at =
    (at < length all.entries.items) × MatchesAt all at text
    × ((k : ℕ) → k < at → ¬ MatchesAt all k text)
