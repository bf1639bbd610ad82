-- Functions decide whether a pattern matches, and which rule is the best that matches.
use Rattle.std.specs.{Prelude.bytes_eq, Bool.Decides, Bool.MatchBool, List.All, List.Contains}
use Rattle.std.proofs.Common.{◌≡◌, ◌≢◌, ◌⊎◌, inl, inr, ℕ, zero, suc, cond, not, nat_lt, ◌≤◌, Bool, true, ◌==◌}
use Rattle.std.proofs.Common.{false, ◌&&◌, ◌||◌, List, [], ◌∷◌, ◌++◌, length, Option, Some, None, option_map}
use Rattle.std.proofs.Common.{refl, sym, ap, subst, ◌∙◌, arith}
use Rattle.std.proofs.lemmas.{Bool.cases_Bool, Bool.cases_lt, Bool.cases_order, Slice.Eq.bytes_eq-Decides}
use Rattle.std.proofs.lemmas.Bool.Decides.{Decides-like, Decides-or, nat_tests, not_from_Decides, when_false}
use Rattle.std.proofs.lemmas.Bool.Decides.{when_true}
use Rattle.std.proofs.lemmas.List.{get_or-map, length-map, Elements.All-cons, Elements.All-contains}
use Rattle.texting_robots.specs.Decision.{IsBetter, IsDecidingRule, IsDecidingLine}
use Rattle.texting_robots.specs.Pattern.{IsSuffix, Matches, MatchesWith, dollar, star}
use Rattle.texting_robots.specs.Rules.{PlacedRule, Rule, unplaced}
use Rattle.texting_robots.{specs.Internal.Segments.rank, proofs.SegmentLemmas.suffix_of_nil}
use Rattle.texting_robots.specs.Verdict.{IsVerdict, robots_file}

abbrev pub Either : Type 0 → Type 0
Either P = P ⊎ (¬ P)

-- some suffix of the text passes
abbrev some_end : (List ℕ → Bool) → List ℕ → Bool
some_end test [] = test []
some_end test (x ∷ t) = test (x ∷ t) || some_end test t

abbrev at_end : Bool → List ℕ → Bool
at_end passes [] = passes
at_end passes (x ∷ t) = false

abbrev following : ℕ → (List ℕ → Bool) → List ℕ → Bool
following b test [] = false
following b test (x ∷ t) = (x == b) && test t

abbrev pub matches : Bool → List ℕ → List ℕ → Bool
matches anchors [] t = true
matches anchors (b ∷ q) t =
    cond (b == star) (some_end (matches anchors q) t)
    (cond (anchors && (b == dollar)) (at_end (matches anchors q []) t) (following b (matches anchors q) t))

module _ (P : List ℕ → Type 0) (test : List ℕ → Bool)
    (each : (t : List ℕ) → Decides (test t) (P t)) where
  some_end_decides : (t : List ℕ) → Decides (some_end test t) ((s : List ℕ) × IsSuffix s t × P s)
  some_end_decides [] = grind (arith, suffix_of_nil)
  some_end_decides (x ∷ t) =
      Decides-like _ there back (Decides-or _ _ (each (x ∷ t)) (some_end_decides t))
    where
      there : P (x ∷ t) ⊎ ((s : List ℕ) × IsSuffix s t × P s)
          → (s : List ℕ) × IsSuffix s (x ∷ t) × P s
      there (inl is) = (x ∷ t, ([], refl), is)
      there (inr (s, (front, whole), is)) = (s, (x ∷ front, ap (λ r. x ∷ r) whole), is)

      back : (s : List ℕ) × IsSuffix s (x ∷ t) × P s
          → P (x ∷ t) ⊎ ((s : List ℕ) × IsSuffix s t × P s)
      back (s, ([], whole), is) = inl (subst P (sym whole) is)
      back (s, (y ∷ front, whole), is) = let later : t ≡ front ++ s = cc in inr (s, (front, later), is)

  at_end_decides : (t : List ℕ)
      → Decides (at_end (test []) t) ((s : List ℕ) × ((t ≡ []) × (s ≡ [])) × P s)
  at_end_decides t = grind arith

  after_decides : (b : ℕ) (t : List ℕ)
      → Decides (following b test t) ((s : List ℕ) × (t ≡ b ∷ s) × P s)
  after_decides b t = grind arith

pub matches_decides : (anchors : Bool) (pattern text : List ℕ)
    → Decides (matches anchors pattern text) (MatchesWith anchors pattern text)
unfolding MatchesWith
matches_decides anchors [] t = (λ _. tt, λ _. refl)
matches_decides anchors (b ∷ q) t = elim (cases_Bool (b == star)) [
  | inl stars ↦ rw stars (some_end_decides _ _ (matches_decides anchors q) t)
  | inr plain ↦ grind (arith, cases_Bool, matches_decides anchors q)
]

-- ---- The best matching rule decides, and is found.

pub placed_of : (rules : List PlacedRule) (rule : Rule) → Contains (unplaced rules) rule
    → (placed : PlacedRule) × Contains rules placed × (placed.rule ≡ rule)
placed_of [] rule (k, below, at) = absurd (omega arith)
placed_of (first ∷ rules) rule (zero, below, at) = (first, (0, omega arith, refl), at)
placed_of (first ∷ rules) rule (suc k, below, at) =
    let (placed, (n, less, here), is) = placed_of rules rule (k, omega arith, at) in
    (placed, (suc n, omega arith, here), is)

unplaced_of : (rules : List PlacedRule) (placed : PlacedRule) → Contains rules placed
    → Contains (unplaced rules) placed.rule
unplaced_of rules placed (k, below, at) =
    let rule = λ (p : PlacedRule). p.rule in
    (k, rw (length-map rules rule) below, get_or-map rule rules k placed placed.rule below ∙ ap rule at)

abbrev pub rank_of : PlacedRule → ℕ
rank_of placed = rank (length placed.rule.0) placed.rule.1

pub record IsPreferred (first second : PlacedRule) : Type 0 where
  pub higher : rank_of second ≤ rank_of first
  pub earlier : rank_of second ≡ rank_of first → first.line ≤ second.line

abbrev prefers : PlacedRule → PlacedRule → Bool
prefers first second =
    cond (rank_of first == rank_of second) (not (nat_lt second.line first.line))
    (nat_lt (rank_of second) (rank_of first))

one_preferred : (first second : PlacedRule)
    → MatchBool (prefers first second) (IsPreferred first second) (IsPreferred second first)
one_preferred first second = grind (arith, cases_Bool)

preferred_trans : (first second third : PlacedRule) → IsPreferred first second
    → IsPreferred second third → IsPreferred first third
preferred_trans first second third one two = grind arith

no_longer : (m n : ℕ) (a b : Bool) → rank n b ≤ rank m a → n ≤ m
no_longer m n a b h = grind (arith, nat_tests)

pub preferred_longer : (first second : PlacedRule) → IsPreferred first second
    → length second.rule.0 ≤ length first.rule.0
preferred_longer first second is = grind (arith, no_longer)

preferred_not_after : (first second : PlacedRule) → IsPreferred first second → ¬ IsBetter second first
preferred_not_after first second is = grind (arith, preferred_longer)

abbrev pub IsAbove : List ℕ → PlacedRule → PlacedRule → Type 0
IsAbove text placed other = Matches other.rule.0 text → IsPreferred placed other

pub record IsBest (rules : List PlacedRule) (text : List ℕ) (placed : PlacedRule) : Type 0 where
  pub listed : Contains rules placed
  pub matches : Matches placed.rule.0 text
  pub best : All (IsAbove text placed) rules

pub best_decides : (rules : List PlacedRule) (text : List ℕ) (placed : PlacedRule)
    → IsBest rules text placed → IsDecidingRule rules text placed
best_decides rules text placed is = grind (arith, preferred_not_after)

pub deciding_longest : (rules : List PlacedRule) (text : List ℕ) (placed other : PlacedRule)
    → IsDecidingRule rules text placed → Contains rules other → Matches other.rule.0 text
    → length other.rule.0 ≤ length placed.rule.0
deciding_longest rules text placed other decides listed matches = grind (arith, cases_lt)

pub verdict_by_rule : (rules : List PlacedRule) (text : List ℕ) (placed : PlacedRule) (answer : Bool)
    → IsDecidingRule rules text placed → placed.rule.1 ≡ answer → text ≢ robots_file
    → IsVerdict (unplaced rules) text answer
verdict_by_rule rules text placed true decides allow other = λ (_, p, splits, matches, longest).
    let (found, listed, rule) = placed_of rules (p, false) splits in
    let less =
    longest placed.rule.0 (rw (sym allow) (unplaced_of rules placed decides.listed)) decides.matches in
    decides.best found listed (rw rule matches) (inl (rw rule less))
verdict_by_rule rules text placed false decides deny other = (
  other,
  placed.rule.0,
  rw (sym deny) (unplaced_of rules placed decides.listed),
  decides.matches,
  λ q splits matches.
      let (found, listed, rule) = placed_of rules (q, true) splits in
      let worse = decides.best found listed (rw rule matches) in
      grind (arith, cases_order, worse),
)

abbrev pub NoMatch : List PlacedRule → List ℕ → Type 0
NoMatch rules text = (placed : PlacedRule) → Contains rules placed → ¬ Matches placed.rule.0 text

pub allowed_if_none : (rules : List PlacedRule) (text : List ℕ) → NoMatch rules text
    → IsVerdict (unplaced rules) text true
allowed_if_none rules text none (other, p, splits, matches, longest) =
    let (found, listed, rule) = placed_of rules (p, false) splits in
    none found listed (rw rule matches)

abbrev before : PlacedRule → Option PlacedRule → PlacedRule
before rule None = rule
before rule (Some placed) = cond (prefers rule placed) rule placed

abbrev best_of : List ℕ → List PlacedRule → Option PlacedRule
best_of text [] = None
best_of text (rule ∷ rules) =
    let best = best_of text rules in cond (matches true rule.rule.0 text) (Some (before rule best)) best

abbrev IsFound : List PlacedRule → List ℕ → Option PlacedRule → Type 0
IsFound rules text None = All (λ placed. ¬ Matches placed.rule.0 text) rules
IsFound rules text (Some placed) = IsBest rules text placed

best_is : (text : List ℕ) (rules : List PlacedRule) → IsFound rules text (best_of text rules)
best_is text [] = grind arith
best_is text (rule ∷ rules) = elim (cases_Bool (matches true rule.rule.0 text)) [
  | inl here ↦ rw here (at ((matches_decides true _ _).0 here) (best_of text rules) (best_is text rules))
  | inr none ↦ grind (arith, matches_decides, not_from_Decides, past, best_is text rules)
]
  where
    first : Matches rule.rule.0 text → All (IsAbove text rule) rules → IsBest (rule ∷ rules) text rule
    first here rest = record {
      listed = (0, omega arith, refl);
      matches = here;
      best = All-cons (IsAbove text rule) rule rules
          (λ _. record { higher = omega arith; earlier = λ _. omega arith }) rest;
    }

    later : (placed : PlacedRule) → IsAbove text placed rule → IsBest rules text placed
        → IsBest (rule ∷ rules) text placed
    later placed above is = record {
      listed = let (k, below, here) = is.listed in (suc k, omega arith, here);
      matches = is.matches;
      best = All-cons (IsAbove text placed) rule rules above is.best;
    }

    past : ¬ Matches rule.rule.0 text → (best : Option PlacedRule) → IsFound rules text best
        → IsFound (rule ∷ rules) text best
    past isnt None none = All-cons (λ placed. ¬ Matches placed.rule.0 text) rule rules isnt none
    past isnt (Some placed) is = later placed (λ here. absurd (isnt here)) is

    at : Matches rule.rule.0 text → (best : Option PlacedRule) → IsFound rules text best
        → IsBest (rule ∷ rules) text (before rule best)
    at here None none = first here (λ k d below fits. absurd (none k d below fits))
    at here (Some placed) is = elim (cases_Bool (prefers rule placed)) [
      | inl sooner ↦
          let above = when_true _ _ sooner (one_preferred rule placed) in
          rw sooner
          (first here (λ k d below fits. preferred_trans rule placed _ above (is.best k d below fits)))
      | inr after ↦ rw after (later placed (λ _. when_false _ _ after (one_preferred rule placed)) is)
    ]

abbrev pub deciding_rule : List PlacedRule → List ℕ → Option PlacedRule
deciding_rule rules text = cond (bytes_eq text robots_file) None (best_of text rules)

abbrev pub allowed_by : Option PlacedRule → Bool
allowed_by None = true
allowed_by (Some placed) = placed.rule.1

abbrev pub line_by : Option PlacedRule → Option ℕ
line_by found = option_map (λ (placed : PlacedRule). placed.line) found

-- the verdict and the deciding line that follow from this rule, or from none
abbrev pub IsAnsweredBy : Option PlacedRule → List PlacedRule → List ℕ → Type 0
IsAnsweredBy found rules text =
    IsVerdict (unplaced rules) text (allowed_by found) × IsDecidingLine rules text (line_by found)

pub rule_answers : (rules : List PlacedRule) (text : List ℕ)
    → IsAnsweredBy (deciding_rule rules text) rules text
rule_answers rules text = grind (arith, best_is, bytes_eq-Decides, cases_Bool, not_from_Decides, by_best)
  where
    by_best : text ≢ robots_file → (best : Option PlacedRule) → IsFound rules text best
        → IsAnsweredBy best rules text
    by_best differs None none =
        let nowhere = λ (placed : PlacedRule) (listed : Contains rules placed).
        All-contains (λ placed. ¬ Matches placed.rule.0 text) rules placed none listed in
        (allowed_if_none rules text nowhere, inr nowhere)
    by_best differs (Some placed) is =
        let decides = best_decides rules text placed is in (
          verdict_by_rule rules text placed placed.rule.1 decides refl differs,
          (differs, placed, decides, refl),
        )

pub record Answered (rules : List PlacedRule) (text : List ℕ) : Type 0 where
  pub allowed : Bool
  pub number : Option ℕ
  pub verdict : IsVerdict (unplaced rules) text allowed
  pub deciding : IsDecidingLine rules text number

pub each_text_answered : (rules : List PlacedRule) (text : List ℕ) → Answered rules text
each_text_answered rules text =
    let is = rule_answers rules text in
    grind arith
