-- Patterns: cutting them into segments, and what they match.
use Rattle.std.proofs.Common.{◌≡◌, ◌≢◌, ◌↔◌, ℕ, suc, ◌+◌, ◌==◌, ◌&&◌, Bool, true, false, inl, inr, List, []}
use Rattle.std.proofs.Common.{◌∷◌, ◌++◌, All, get_or, refl, sym, ap, ◌∙◌, append_assoc, arith, ◌-◌, not, take}
use Rattle.std.proofs.Common.{length, drop, ◌⊎◌, append-nil, take-append-drop, length-append}
use Rattle.std.specs.List.{list_all, prefix_len, position_or_len}
use Rattle.std.proofs.lemmas.Bool.{cases_Bool, eqb-true, ne_eqb, or_cases, or_parts}
use Rattle.std.proofs.lemmas.List.Elements.{All-head, All-tail, All-weaker, All-cons, All-nil}
use Rattle.texting_robots.specs.Pattern.{dollar, IsSuffix, Matches, MatchesWith, star}
use Rattle.texting_robots.specs.Internal.Segments.{after_stars, is_wildcard, IsAtWildcard, Closes, Grows}
use Rattle.texting_robots.specs.Internal.Segments.{AddsSegments, AreLeft, AreSegments, part_of, EndsAs}
use Rattle.texting_robots.specs.Internal.Segments.{IsCutAtWildcard, IsEnding, IsLeft, IsNotLast, IsSegment}
use Rattle.texting_robots.specs.Internal.Segments.{IsSpan, IsUnsearched, Somewhere, IsTable}
use Rattle.std.proofs.Math.{Seq.get_or-append_seam}
use Rattle.std.proofs.lemmas.List.{drop_at, take_at, Folds.length-prefix_len}
use Rattle.std.proofs.lemmas.List.Prefix.{end_rest, front_rest}
use Rattle.url.proofs.InputLemmas.{All-take-prefix_len, Passes, StopsAt, StopsAt-drop-prefix_len}
use Rattle.texting_robots.specs.declared.segments.{Ends.Ends, Ending.Ending, Segment.Segment, Span.Span}
use Rattle.texting_robots.specs.declared.segments.Ending.TheVariants.{Open, Closed, Last, Never}

-- ---- What a pattern matches, segment by segment.

abbrev pub IsPlain : Bool → ℕ → Type 0
IsPlain anchors b = ((b == star) ≡ false) × ((anchors && (b == dollar)) ≡ false)

pub plain_stars : (segment : List ℕ) → All (λ b. b ≢ star) segment → All (IsPlain false) segment
plain_stars = grind (arith, ne_eqb)

pub plain_segment : (segment : List ℕ) → All (λ b. is_wildcard b ≡ false) segment
    → All (IsPlain true) segment
plain_segment = grind (arith, or_parts)

under : {R : List ℕ → Type 0} (P Q : List ℕ → Type 0) → ((t : List ℕ) → P t ↔ Q t)
    → ((t : List ℕ) × R t × P t) ↔ ((t : List ℕ) × R t × Q t)
under P Q same = grind arith

pub suffix_trans : {a b c : List ℕ} → IsSuffix a b → IsSuffix b c → IsSuffix a c
suffix_trans {a} (f, e) (g, h) = (g ++ f, cc (append_assoc g f a))

module _ (anchors : Bool) where
  pub in_front : (segment q t : List ℕ) → All (IsPlain anchors) segment → MatchesWith anchors (segment ++ q) t
      ↔ ((after : List ℕ) × (t ≡ segment ++ after) × MatchesWith anchors q after)
  unfolding MatchesWith
  in_front [] q t all = grind arith
  in_front (b ∷ segment) q t all =
      let later = λ (s : List ℕ). in_front segment q s (All-tail (IsPlain anchors) b segment all) in
      let (not_star, not_end) = All-head (IsPlain anchors) b segment all in
      rw (not_star, not_end) (
        λ (s, e, m). let (after, f, n) = (later s).0 m in (after, cc, n),
        λ (after, e, n). (segment ++ after, e, (later (segment ++ after)).1 (after, refl, n)),
      )

  pub somewhere : (segment q t : List ℕ) → All (IsPlain anchors) segment
      → MatchesWith anchors (star ∷ (segment ++ q)) t
      ↔ ((after : List ℕ) × IsSuffix (segment ++ after) t × MatchesWith anchors q after)
  unfolding MatchesWith
  somewhere segment q t all = grind (arith, in_front)

  pub star_grows : (q s t : List ℕ) → IsSuffix s t
      → MatchesWith anchors (star ∷ q) s → MatchesWith anchors (star ∷ q) t
  unfolding MatchesWith
  star_grows q s t i (u, j, m) = (u, suffix_trans j i, m)

  pub star_star : (q t : List ℕ) → (get_or q 0 0 == star) ≡ true
      → MatchesWith anchors (star ∷ q) t ↔ MatchesWith anchors q t
  unfolding MatchesWith
  star_star [] t two = cc
  star_star (c ∷ q) t two =
      rw (eqb-true c star two) (λ (s, i, m). star_grows q s t i m, λ m. (t, ([], refl), m))

  pub star_stars : (q t : List ℕ)
      → MatchesWith anchors (star ∷ after_stars q) t ↔ MatchesWith anchors (star ∷ q) t
  star_stars [] t = (λ m. m, λ m. m)
  star_stars (b ∷ q) t = elim (cases_Bool (b == star)) [
    | inl first ↦
        let is = eqb-true b star first in
        let n = prefix_len (λ b. b == star) q in
        let one_more : 1 + n ≡ suc n = omega arith in
        grind (arith, star_star, star_stars q t)
    | inr other ↦ rw other (λ m. m, λ m. m)
  ]

  pub after_byte : (b : ℕ) (p q : List ℕ)
      → ((t : List ℕ) → MatchesWith anchors p t ↔ MatchesWith anchors q t)
      → (t : List ℕ) → MatchesWith anchors (b ∷ p) t ↔ MatchesWith anchors (b ∷ q) t
  unfolding MatchesWith
  after_byte b p q same t = grind (arith, cases_Bool, under)

pub nil_matches : (anchors : Bool) (t : List ℕ) → MatchesWith anchors [] t
unfolding MatchesWith
nil_matches anchors t = tt

pub suffix_of_nil : (front s : List ℕ) → [] ≡ front ++ s → s ≡ []
suffix_of_nil [] s e = sym e
suffix_of_nil (b ∷ front) s e = cc

pub only_wildcards_match : (q : List ℕ) → (list_all is_wildcard q ≡ true) ↔ Matches q []
unfolding MatchesWith
only_wildcards_match [] = (λ _. tt, λ _. refl)
only_wildcards_match (b ∷ q) = grind (arith, cases_Bool, suffix_of_nil, only_wildcards_match q)

pub closes_decides : (q t : List ℕ) → Closes q → Matches q t ↔ (t ≡ [])
unfolding MatchesWith
closes_decides q t c = grind arith

pub dollar_matches_none : (q t : List ℕ) → ¬ Closes (dollar ∷ q) → ¬ Matches (dollar ∷ q) t
unfolding MatchesWith
dollar_matches_none q t other (s, (e, gone), m) = grind arith

pub grows_at_wildcard : (q : List ℕ) → IsAtWildcard q → ¬ Closes q → Grows q
unfolding MatchesWith
grows_at_wildcard [] at_wildcard other = λ s t i m. tt
grows_at_wildcard (b ∷ q) at_wildcard other = elim (or_cases (b == star) (b == dollar) at_wildcard) [
  | inl first ↦ let e = eqb-true b star first in rw e (star_grows true q)
  | inr first ↦
      grind (arith, dollar_matches_none, eqb-true)
]

pub wildcard_matches_none : (q t : List ℕ) → IsAtWildcard q → q ≢ []
    → ((rest : List ℕ) → q ≢ star ∷ rest)
    → ¬ Closes q → ¬ Matches q t
wildcard_matches_none q t at_wildcard some no_star other =
    grind (arith, dollar_matches_none, eqb-true, or_cases)

-- ---- Cutting a pattern into segments from left to right, and what the segments decide.

module _ {p : List ℕ} {ends : Ends} {segments : List Segment} {borders : List ℕ}
    (are : AreSegments p ends segments borders) (t : List ℕ) where
  abbrev first : List ℕ
  first = take ends.first_len p

  pub first_in_front : (following : List ℕ) → t ≡ first ++ following
      → Matches p t ↔ Matches are.rest following
  first_in_front following split =
      let (to, from) = are.decides t in (
        λ m. let (after, e, n) = to m in
            rw (sym (front_rest t first following split) ∙ front_rest t first after e) n,
        λ n. from (following, split, n),
      )

pub cut_at_first : (pattern : List ℕ) (k : ℕ) → k ≡ position_or_len is_wildcard pattern
    → IsCutAtWildcard pattern (take k pattern) (drop k pattern)
cut_at_first pattern k first = record {
  plain = rw first
      (All-weaker (Passes other) (λ b. is_wildcard b ≡ false) (λ b plain. not_true (is_wildcard b) plain) _
      (All-take-prefix_len other pattern));
  parts = sym (take-append-drop k pattern);
  len = rw first (length-prefix_len other pattern);
  at_wildcard = rw first (stops _ (StopsAt-drop-prefix_len other pattern));
}
  where
    other : ℕ → Bool
    other b = not (is_wildcard b)

    not_true : (x : Bool) → not x ≡ true → x ≡ false
    not_true true is = cc
    not_true false is = refl

    stops : (rest : List ℕ) → StopsAt other rest → IsAtWildcard rest
    stops [] at = tt
    stops (b ∷ rest) at = by (is_wildcard b) at
      where
        by : (x : Bool) → not x ≡ false → x ≡ true
        by true is = refl
        by false is = cc

-- the rest of the pattern is a star, more stars, and `next`, which is a segment and the rest after it
pub record IsFromStar (left next segment rest : List ℕ) : Type 0 where
  pub following : List ℕ
  pub star_first : left ≡ star ∷ following
  pub skips : next ≡ after_stars following
  pub cut : IsCutAtWildcard next segment rest

module _ {left next segment rest : List ℕ} (is : IsFromStar left next segment rest) where
  next_in : IsSuffix next left
  next_in =
      let n = prefix_len (λ b. b == star) is.following in
      let split = sym (take-append-drop n is.following) ∙ ap (λ x. take n is.following ++ x) (sym is.skips) in
      (star ∷ take n is.following, cc)

  star_decides : (t : List ℕ) → Matches left t ↔ Somewhere segment rest t
  star_decides t =
      let (to, from) = star_stars true is.following t in
      let (parts, whole) = somewhere true segment rest t (plain_segment segment is.cut.plain) in
      grind (arith, is.cut.parts, is.star_first, parts, from, to, whole)

  star_is_left : ¬ Closes rest → IsLeft left segment rest
  star_is_left other = grind (arith, grows_at_wildcard, star_decides)

  star_is_last : Closes rest → (t : List ℕ) → Matches left t ↔ IsSuffix segment t
  star_is_last closes t = grind (arith, append-nil, closes_decides, star_decides)

abbrev pub between : List ℕ → List ℕ → List ℕ → Span
between p next rest = record { start = length p - length next; end = length p - length rest }

spanned : (p next segment rest : List ℕ) → IsSuffix next p → next ≡ segment ++ rest
    → IsSpan p (between p next rest) × (part_of p (between p next rest) ≡ segment)
spanned p next segment rest (front, e) f = grind (arith, end_rest, length-append, take_at)

segment_put : (p tables table more : List ℕ) (span : Span) → IsSpan p span
    → IsTable (part_of p span) table
    → IsSegment p (tables ++ (table ++ more)) (record { span = span; table = length tables })
segment_put p tables table more span is_span is_table = grind (arith, drop_at, length-append, take_at)

pub record IsRest (pattern borders left : List ℕ) (segments : List Segment) (ending : Ending) : Type 0 where
  pub known : All (IsSegment pattern borders) segments
  pub is_ending : IsEnding pattern ending
  pub in_order : AreLeft pattern ending segments left
  pub searched : IsUnsearched segments ending ⊎ ((following : List ℕ) × (left ≡ star ∷ following))

-- The pattern is cut up to here: any cut of the rest extends to a cut of the complete pattern.
pub record IsCutUpto (pattern : List ℕ) (first_len : ℕ) (old_segments segments : List Segment)
    (old_borders borders left : List ℕ) : Type 0 where
  pub left_in : IsSuffix left pattern
  pub at_wildcard : IsAtWildcard left
  pub completes : (more : List Segment) (table : List ℕ) (ending : Ending)
      → IsRest pattern (borders ++ table) left more ending
      → AddsSegments pattern (record { first_len = first_len; ending = ending }) old_segments
      (segments ++ more)
      old_borders (borders ++ table)

pub cut_first : (p segment left : List ℕ) (segments : List Segment) (borders : List ℕ)
    → IsCutAtWildcard p segment left
    → IsCutUpto p (length segment) segments segments borders borders left
cut_first p segment left segments borders cut =
    let e = cut.parts in
    let sizes = ap length e ∙ length-append segment left in
    let first : take (length segment) p ≡ segment = grind (arith, take_at) in
    record {
      left_in = (segment, e);
      at_wildcard = cut.at_wildcard;
      completes = λ more table ending rest. record {
        segments = more;
        tables = table;
        put_segments = refl;
        put_tables = refl;
        are_segments = record {
          first = omega arith;
          plain = cut.len;
          unsearched = grind (arith, get_or-append_seam);
          known = rest.known;
          ending = rest.is_ending;
          rest = left;
          decides = λ t. rw (first, e) (in_front true segment left t (plain_segment segment cut.plain));
          left = rest.in_order;
        };
      };
    }

module _ {p : List ℕ} {first_len : ℕ} {old_segments segments : List Segment}
    {old_borders borders left : List ℕ}
    (upto : IsCutUpto p first_len old_segments segments old_borders borders left) where
  abbrev AddsWith : Ending → Type 0
  AddsWith ending =
      AddsSegments p (record { first_len = first_len; ending = ending }) old_segments segments
      old_borders borders

  -- if the rest of the pattern matches as this ending does, the cut is complete
  done : (ending : Ending) → IsEnding p ending → ((t : List ℕ) → Matches left t ↔ EndsAs p ending t)
      → IsNotLast ending ⊎ ((following : List ℕ) × (left ≡ star ∷ following)) → AddsWith ending
  done ending is_ending decides last =
      let none = All-nil (IsSegment p (borders ++ [])) in
      let rest : IsRest p (borders ++ []) left [] ending =
      grind arith in
      rw (← append-nil segments, ← append-nil borders) (upto.completes [] [] ending rest)

  pub cut_open : left ≡ [] → AddsWith Open
  cut_open none = grind (arith, done, nil_matches)

  pub cut_closed : Closes left → AddsWith Closed
  cut_closed closes = grind (arith, closes_decides, done)

  pub cut_never : left ≢ [] → ((q : List ℕ) → left ≢ star ∷ q)
      → ¬ Closes left → AddsWith Never
  cut_never some no_star other = grind (arith, done, wildcard_matches_none)

  module _ {next segment rest : List ℕ} (is : IsFromStar left next segment rest) where
    next_in_p : IsSuffix next p
    next_in_p = suffix_trans (next_in is) upto.left_in

    abbrev span : Span
    span = between p next rest

    is_span : IsSpan p span × (part_of p span ≡ segment)
    is_span = spanned p next segment rest next_in_p is.cut.parts

    pub cut_last : Closes rest → AddsWith (Last span)
    cut_last closes = done (Last span) is_span.0 (λ t. rw is_span.1 (star_is_last is closes t))
        (inr (is.following, is.star_first))

    pub cut_more : (at : ℕ) (table : List ℕ) → at ≡ length borders → ¬ Closes rest
        → IsTable segment table
        → IsCutUpto p first_len old_segments (segments ++ record { span = span; table = at } ∷ [])
        old_borders (borders ++ table) rest
    cut_more at table there other is_table =
        let added : Segment = record { span = span; table = at } in
        let (within, bytes) = is_span in
        record {
          left_in = suffix_trans (segment, is.cut.parts) next_in_p;
          at_wildcard = is.cut.at_wildcard;
          completes = λ more tables ending h.
              let all = borders ++ (table ++ tables) in
              let put : IsSegment p all added =
              rw there (segment_put p borders table tables span within (rw bytes is_table)) in
              let known : All (IsSegment p all) more = rw append_assoc at h.known in
              let is_left : IsLeft left (part_of p span) rest = rw bytes (star_is_left is other) in
              let whole : IsRest p all left (added ∷ more) ending = record {
                known = All-cons (IsSegment p all) added more put known;
                is_ending = h.is_ending;
                in_order = (rest, is_left, h.in_order);
                searched = inr (is.following, is.star_first);
              } in
              grind (arith, append_assoc, upto.completes);
        }
