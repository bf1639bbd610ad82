-- Searching for segments in shared vectors: stars, borders and occurrences.
use Rattle.std.proofs.Common.{◌≡◌, length, slice_range, append_assoc, append-nil, take-append-drop, drop-drop}
use Rattle.std.proofs.Common.{List, [], ◌++◌, drop, take, arith, ⊎_elim, get_or, subst, Option}
use Rattle.std.proofs.Common.{ℕ, ◌+◌, ◌-◌, ◌∷◌, All, map, refl, sym, ap, ◌∙◌, ◌≢◌, ◌↔◌, ◌<◌, ◌≤◌, Some, None}
use Rattle.std.proofs.lemmas.{List.drop-append-le, Bool.cases_eq, Bool.cases_lt, Grind.get_or_default_zero}
use Rattle.std.proofs.lemmas.List.{drop_at, length-append, length-drop, map_push, take-append-le, take_all}
use Rattle.std.proofs.lemmas.List.{get_or_append_left, get_or_push, get_or-append-add, length_push, drop_all}
use Rattle.std.proofs.lemmas.List.Elements.{All-head, All-push, All-tail, All-weaker}
use Rattle.texting_robots.specs.declared.segments.{Ends.Ends, Segment.Segment, Span.Span}
use Rattle.texting_robots.specs.declared.rules.{RuleEntry.RuleEntry}
use Rattle.texting_robots.specs.Internal.Segments.{IsEntry, placed_at, ArePrefilter, AreSegments, IsSegment}
use Rattle.texting_robots.specs.Internal.Segments.{IsSpan, part_of, Agrees, AreBorders, IsLongestBorder}
use Rattle.texting_robots.specs.Internal.Segments.{IsRestAfterFirst, OccursNowhere, from_star, IsCutAtStar}
use Rattle.memchr.specs.Find.{FindsNeedle, Nowhere, OccursAt}
use Rattle.std.proofs.lemmas.List.Prefix.{at_from_reads, at_reads, front_rest}
use Rattle.texting_robots.specs.Pattern.{IsSuffix, MatchesStars, star}
use Rattle.std.specs.{Borrow.Bor}
use Rattle.texting_robots.proofs.SegmentLemmas.{nil_matches, in_front, plain_stars, somewhere, star_grows}

-- ---- What is in shared vectors stays there when more is added.

pub record IsNew {X : Type 0} (old new : List X) (span : Span) : Type 0 where
  pub start : span.start ≡ length old
  pub end : span.end ≡ length new

module _ {X : Type 0} (xs more : List X) (span : Span) where
  part_kept : IsSpan xs span → part_of (xs ++ more) span ≡ part_of xs span
  part_kept h = grind (arith, drop-append-le, length-drop, take-append-le)

  span_kept : IsSpan xs span → IsSpan (xs ++ more) span
  span_kept h = grind (arith, length-append)

  pub part_new : IsNew xs (xs ++ more) span → part_of (xs ++ more) span ≡ more
  part_new h = grind (arith, drop_at, length-append, take_all)

  span_new : IsNew xs (xs ++ more) span → IsSpan (xs ++ more) span
  span_new h = grind (arith, length-append)

pub after_old : {X : Type 0} (xs more : List X) (start : ℕ) → start ≡ length xs
    → slice_range (xs ++ more) start (length (xs ++ more)) ≡ more
after_old xs more start is =
    part_new xs more (record { start = start; end = length (xs ++ more) }) (record { start = is; end = refl })

module _ (p : List ℕ) (ends : Ends) (segments : List Segment) (borders more : List ℕ) where
  segment_kept : (segment : Segment) → IsSegment p borders segment → IsSegment p (borders ++ more) segment
  segment_kept segment is =
      let len = length (part_of p segment.span) - 1 in
      let table : Span = record { start = segment.table; end = segment.table + len } in
      let fits = is.fits in
      let stays = part_kept borders more table (record { ordered = omega arith; within = fits }) in
      grind (arith, length-append)

  tables_kept : AreSegments p ends segments borders → AreSegments p ends segments (borders ++ more)
  tables_kept are = grind (arith, segment_kept)

module _ (text more_text : List ℕ) (segments more_segments : List Segment)
    (borders more_borders : List ℕ) where
  abbrev IsOld : RuleEntry → Type 0
  IsOld = IsEntry text segments borders

  abbrev IsNow : RuleEntry → Type 0
  IsNow = IsEntry (text ++ more_text) (segments ++ more_segments) (borders ++ more_borders)

  entry_kept : (entry : RuleEntry) → IsOld entry → IsNow entry
  entry_kept entry h =
      let one = part_kept text more_text entry.pattern h.pattern in
      let two = part_kept segments more_segments entry.segments h.searched in
      record {
        pattern = span_kept text more_text entry.pattern h.pattern;
        searched = span_kept segments more_segments entry.segments h.searched;
        is_cut = rw (one, two) (tables_kept _ _ _ borders more_borders h.is_cut);
        needed = rw one h.needed;
      }

  pub entries_pushed : (entries : List RuleEntry) (entry : RuleEntry) → All IsOld entries → IsNow entry
      → All IsNow (entries ++ entry ∷ [])
  entries_pushed entries entry known is =
      All-push IsNow entries entry (All-weaker IsOld IsNow entry_kept entries known) is

module _ (text pattern : List ℕ) (segments searched : List Segment) (borders : List ℕ) (entry : RuleEntry)
  where
    pub record IsPushed : Type 0 where
      pub pattern_span : IsNew text (text ++ pattern) entry.pattern
      pub searched_span : IsNew segments (segments ++ searched) entry.segments
      pub is_cut : AreSegments pattern entry.ends searched borders
      pub needed : ArePrefilter pattern entry.prefilter

    pub entry_new : IsPushed → IsEntry (text ++ pattern) (segments ++ searched) borders entry
    entry_new is =
        let one = part_new text pattern entry.pattern is.pattern_span in
        let two = part_new segments searched entry.segments is.searched_span in
        record {
          pattern = span_new text pattern entry.pattern is.pattern_span;
          searched = span_new segments searched entry.segments is.searched_span;
          is_cut = rw (one, two) is.is_cut;
          needed = rw one is.needed;
        }

module _ (text more : List ℕ) (segments : List Segment) (borders : List ℕ) where
  rules_kept : (entries : List RuleEntry) → All (IsEntry text segments borders) entries
      → map (placed_at (text ++ more)) entries ≡ map (placed_at text) entries
  rules_kept [] known = refl
  rules_kept (entry ∷ entries) known =
      let own = All-head (IsEntry text segments borders) entry entries known in
      let one = part_kept text more entry.pattern own.pattern in
      let rest = rules_kept entries (All-tail (IsEntry text segments borders) entry entries known) in
      rw (one, rest) refl

  pub rules_pushed : (entries : List RuleEntry) (entry : RuleEntry)
      → All (IsEntry text segments borders) entries
      → IsNew text (text ++ more) entry.pattern
      → map (placed_at (text ++ more)) (entries ++ entry ∷ [])
      ≡ map (placed_at text) entries ++ record { rule = (more, entry.is_allow); line = entry.line } ∷ []
  rules_pushed entries entry known pattern =
      let pushed = map_push (placed_at (text ++ more)) entries entry in
      rw (pushed, rules_kept entries known, part_new text more entry.pattern pattern) refl

-- ---- The Knuth-Morris-Pratt search, of a segment in a text, and in itself from offset 1 on, which gives the
-- borders of its prefixes. `position` is the next offset of the text to compare; the `matched` bytes before
-- it agree with the segment.

-- From `low` on, the segment may first occur at `position - matched`. There it agrees with the text up to
-- `position`, and at each earlier offset it disagrees with the text before `end`.
pub record IsFirstOpen (text segment : List ℕ) (low end position matched : ℕ) : Type 0 where
  pub following : low + matched ≤ position
  pub agrees : Agrees text segment (position - matched) position
  pub closed : (at : ℕ) → low ≤ at → at < position - matched → ¬ Agrees text segment at end

byte_at : (text : List ℕ) {i j : ℕ} → i ≡ j → get_or text i 0 ≡ get_or text j 0
byte_at text = grind arith

-- Where the text agrees with the segment, it agrees `far` bytes later exactly if the segment agrees with
-- itself there.
module _ (text segment : List ℕ) (at far there len end : ℕ) where
  agrees_farther : there ≡ at + far → end ≡ at + len → len ≤ length segment
      → Agrees text segment at end
      → Agrees text segment there end ↔ Agrees segment segment far len
  agrees_farther ahead last fits here = grind (arith, byte_at)

module _ {text segment : List ℕ} where
  module _ {low end position matched : ℕ} (first : IsFirstOpen text segment low end position matched) where
    pub open_farther : (later : ℕ) → end ≤ later → IsFirstOpen text segment low later position matched
    open_farther later le = record {
      following = first.following;
      agrees = first.agrees;
      closed = grind (arith, first.closed);
    }

    pub open_more : get_or text position 0 ≡ get_or segment matched 0
        → IsFirstOpen text segment low end (position + 1) (matched + 1)
    open_more next = grind (arith, byte_at, cases_eq)

    module _ (within : position < end) (some : matched < length segment)
        (differs : get_or text position 0 ≢ get_or segment matched 0) where
      closed_here : (at : ℕ) → low ≤ at → at ≤ position - matched → ¬ Agrees text segment at end
      closed_here at from upto agrees = grind (arith, byte_at, cases_lt)

      pub open_next : matched ≡ 0 → IsFirstOpen text segment low end (position + 1) matched
      open_next none = grind arith

      -- Falling back to the longest border skips no offset where the segment occurs.
      pub open_back : {border : ℕ} → IsLongestBorder segment matched border
          → IsFirstOpen text segment low end position border
      open_back {border} longest =
          let here = position - matched in
          let farther = λ (at longer : ℕ) (e : at ≡ here + (matched - longer)).
          agrees_farther text segment here (matched - longer) at matched position e
          (omega arith) (omega arith) first.agrees in
          record {
            following = omega arith;
            agrees = grind (arith, farther);
            closed = λ at from before agrees.
                ⊎_elim (λ (skipped : position - matched < at).
                let border = (farther at (position - at) (omega arith)).0
                (λ k l m. agrees k l (omega arith)) in
                longest.longest (position - at) (omega arith) (omega arith) border)
                (λ upto. closed_here at from (omega arith) agrees)
                (cases_lt (position - matched) at);
          }

  module _ {low position matched : ℕ} (first : IsFirstOpen text segment low
      (length text) position matched) where
    open_before : Nowhere (OccursAt text segment) low (position - matched)
    open_before at from before occurs = first.closed at from before (λ k l m. occurs.reads k l)

    pub open_found : matched ≡ length segment → position ≤ length text
        → FindsNeedle text segment low (Some (position - length segment))
    open_found all within =
        rw (← all) (
          record { low = omega arith; high = omega arith; before = open_before },
          grind (arith, first.agrees),
        )

    pub open_none : matched < length segment → position ≡ length text → FindsNeedle text segment low None
    open_none some last at from upto occurs =
        ⊎_elim (λ before. open_before at from before occurs) (λ l. omega arith)
        (cases_lt at (position - matched))

module _ {segment : List ℕ} where
  -- In a search of the segment in itself, the matched bytes are the longest proper border of the bytes read.
  pub longest_border : {len border : ℕ} → IsFirstOpen segment segment 1 len len border
      → IsLongestBorder segment len border
  longest_border {len} {border} first = grind arith

  borders_push : (table : List ℕ) (border : ℕ) → AreBorders segment table
      → IsLongestBorder segment (length table + 1) border → AreBorders segment (table ++ border ∷ [])
  borders_push table border known longest len some upto =
      grind (arith, cases_eq, get_or_append_left, get_or_push, length_push)

-- The longest borders of the segment's prefixes of up to `len` bytes were appended.
pub record AddsBorders (segment old now : List ℕ) (len : ℕ) : Type 0 where
  pub table : List ℕ
  pub added : now ≡ old ++ table
  pub long : length table ≡ len
  pub borders : AreBorders segment table

module _ {segment old now : List ℕ} {len : ℕ} (adds : AddsBorders segment old now len) where
  pub adds_more : {border : ℕ} → IsLongestBorder segment (len + 1) border
      → AddsBorders segment old (now ++ border ∷ []) (len + 1)
  adds_more {border} longest =
      let pushed = length_push adds.table border in
      let long = adds.long in
      record {
        table = adds.table ++ border ∷ [];
        added = grind (arith, append_assoc);
        long = omega arith;
        borders = borders_push adds.table border adds.borders (rw long longest);
      }

  pub adds_entry : (count : ℕ) → 0 < count → count ≤ len → (at : ℕ)
      → at ≡ length old + count - 1
      → (entry : ℕ) → entry ≡ get_or now at entry → IsLongestBorder segment count entry
  adds_entry count some upto at position entry is =
      let there : at ≡ length old + (count - 1) = omega arith in
      let moved = ap (λ k. get_or (old ++ adds.table) k entry) there in
      let read = is ∙ ap (λ items. get_or items at entry) adds.added ∙ moved in
      grind (arith, get_or-append-add, get_or_default_zero, adds.borders)

-- ---- The first occurrence of a segment is enough, and a search finds it.

-- if `R` holds for a text whenever it holds for a suffix of it, the first occurrence of the segment is enough
pub first_is_enough : (R : List ℕ → Type 0) (segment t : List ℕ)
    → ((s t : List ℕ) → IsSuffix s t → R s → R t) → (rest : List ℕ)
    → IsRestAfterFirst segment t rest
    → ((after : List ℕ) × IsSuffix (segment ++ after) t × R after) ↔ R rest
first_is_enough R segment t grows rest following = grind arith

module _ (t : List ℕ) where
  suffix_drop : (i j : ℕ) → i ≤ j → IsSuffix (drop j t) (drop i t)
  suffix_drop i j le =
      let between = take (j - i) (drop i t) in
      let there : i + (j - i) ≡ j = omega arith in
      let rest = drop-drop (j - i) i t ∙ ap (λ n. drop n t) there in
      (between, cc (take-append-drop (j - i) (drop i t)))

  suffix_position : (i : ℕ) (u : List ℕ) → i ≤ length t → IsSuffix u (drop i t)
      → (j : ℕ) × (i ≤ j) × (j + length u ≡ length t) × (drop j t ≡ u)
  suffix_position i u le (front, e) =
      let sizes : length t - i ≡ length front + length u =
      cc (length-drop i t, length-append front u) in
      let is = sym (drop-drop (length front) i t) ∙ front_rest (drop i t) front u e in
      (i + length front, omega arith, omega arith, is)

  module _ (segment : List ℕ) where
    pub occurs_here : (at : ℕ) → OccursAt t segment at → drop at t ≡ segment ++ drop (at + length segment) t
    occurs_here at here = at_from_reads 0 t segment at here.fits here.reads

    pub here_occurs : (rest : List ℕ) (at : ℕ) → at ≤ length t → drop at t ≡ segment ++ rest
        → OccursAt t segment at × (drop (at + length segment) t ≡ rest)
    here_occurs rest at le e =
        let sizes : length t - at ≡ length segment + length rest =
        cc (length-drop at t, length-append segment rest) in
        let following = sym (drop-drop (length segment) at t) ∙ front_rest (drop at t) segment rest e in
        grind (arith, at_reads)

    module _ (from : ℕ) (within : from ≤ length t) where
      pub after_found : (at : ℕ) → FindsNeedle t segment from (Some at)
          → IsRestAfterFirst segment (drop from t) (drop (at + length segment) t)
      after_found at (none, here) =
          let (front, e) = suffix_drop from at none.low in
          record {
            front = front;
            splits = cc (occurs_here at here);
            first = λ other after f.
                let (position, ahead, sizes, is) = suffix_position from (segment ++ after) within
                (other, f) in
                let (occurs, rest) = here_occurs after position (omega arith) is in
                let later : at ≤ position =
                ⊎_elim (λ l. absurd (none.before position ahead l occurs)) (λ l. l) (cases_lt position at) in
                let less = suffix_drop (at + length segment) (position + length segment) (omega arith) in
                grind arith;
          }

      pub found_nowhere : FindsNeedle t segment from None → OccursNowhere segment (drop from t)
      found_nowhere none other after e =
          let (position, ahead, sizes, is) = suffix_position from (segment ++ after) within (other, e) in
          none position ahead (omega arith) (here_occurs after position (omega arith) is).0

    module _ (position : ℕ) where
      pub ends_with : position + length segment ≤ length t
          → IsSuffix segment (drop position t) ↔ OccursAt t segment (length t - length segment)
      ends_with fits =
          let last = length t - length segment in (
            λ i.
                let (at, ahead, size, is) = suffix_position position segment (omega arith) i in
                let there : at ≡ last = omega arith in
                let occurs = here_occurs [] at (omega arith) (is ∙ sym (append-nil segment)) in
                subst (OccursAt t segment) there occurs.0,
            λ here.
                let none : drop (last + length segment) t ≡ [] = drop_all _ t (omega arith) in
                let e = occurs_here last here ∙ ap (λ x. segment ++ x) none ∙ append-nil segment in
                subst (λ x. IsSuffix x (drop position t)) e (suffix_drop position last (omega arith)),
          )

      pub ends_short : position ≤ length t → IsSuffix segment (drop position t)
          → position + length segment ≤ length t
      ends_short le i = let (at, ahead, size, is) = suffix_position position segment le i in omega arith

-- ---- Matching with stars as the only wildcards.

left_grows : (left : Option (Bor (List ℕ))) (s t : List ℕ) → IsSuffix s t
    → MatchesStars (from_star left) s → MatchesStars (from_star left) t
left_grows left s t h h2 = grind (arith, nil_matches, star_grows)

module _ {p segment : List ℕ} {left : Option (Bor (List ℕ))} (t : List ℕ)
    (cut : IsCutAtStar p segment left) where
  abbrev LeftMatches : List ℕ → Type 0
  LeftMatches = MatchesStars (from_star left)

  pub stars_in_front : MatchesStars p t
      ↔ ((after : List ℕ) × (t ≡ segment ++ after) × LeftMatches after)
  stars_in_front = grind (arith, in_front, plain_stars)

  stars_somewhere : MatchesStars (star ∷ p) t
      ↔ ((after : List ℕ) × IsSuffix (segment ++ after) t × LeftMatches after)
  stars_somewhere = grind (arith, plain_stars, somewhere)

  pub stars_here : (rest : List ℕ) → IsRestAfterFirst segment t rest
      → MatchesStars (star ∷ p) t ↔ LeftMatches rest
  stars_here rest following = grind (arith, first_is_enough, left_grows, stars_somewhere)

  pub stars_nowhere : OccursNowhere segment t → ¬ MatchesStars (star ∷ p) t
  stars_nowhere nowhere m = grind (arith, stars_somewhere)
