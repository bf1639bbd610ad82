-- Verdicts, and the order of patterns and of entries.
use Rattle.std.specs.Prelude.{if◌then◌else◌}
use Rattle.std.proofs.Common.{◌≡◌, ◌≢◌, ◌<◌, ◌↔◌, ◌⊎◌, inl, inr, ℕ, zero, suc, Bool, true, false, List, []}
use Rattle.std.proofs.Common.{◌∷◌, ◌++◌, length, Option, Some, None, IsPermutation, sym, refl}
use Rattle.std.proofs.Common.{arith, slice_index, take, Less, Equal, Greater, ◌≤◌, AllPairs, Result}
use Rattle.std.specs.Cmp.{IsTotalOrder, nat_cmp_is, Lexicographic.slice_cmp, IsStrictWeakOrder}
use Rattle.std.specs.{List.Contains, declared.cmp.Ordering.Ordering, Result.is_ok, List.Sorted.IsSortedBy}
use Rattle.std.proofs.Common.{get_or, get_or-set_other, get_or-set_same, length-set, set, set-set}
use Rattle.std.proofs.lemmas.Bool.{cases_Bool, cases_eq, cases_order, cases_lt}
use Rattle.std.proofs.lemmas.List.Edits.{swap_is}
use Rattle.std.proofs.lemmas.List.Sorted.{IsPermutation-refl, IsPermutation-swap}
use Rattle.std.proofs.lemmas.List.Sorted.{Contains-permutation, IsPermutation-map, IsPermutation-middle}
use Rattle.std.proofs.lemmas.List.Sorted.{IsPermutation-sym, ranks_by, sorted_far}
use Rattle.texting_robots.specs.Decision.{IsBetter, IsDecidingLine, IsLongestMatch}
use Rattle.texting_robots.specs.{Pattern.Matches, Order.IsBefore, Order.pattern_cmp, Rules.PlacedRule}
use Rattle.texting_robots.specs.{declared.rules.RuleEntry.RuleEntry, Rules.Rule, Rules.unplaced}
use Rattle.texting_robots.specs.Verdict.{IsDenied, IsVerdict, robots_file}
use Rattle.std.specs.Ordering.{MatchOrdering, nat_cmp, ordering_then, is_lt}
use Rattle.std.proofs.lemmas.Cmp.{back_total, by_ranked, nat_cmp_total, nat_list_cmp_total, on_total, ranked}
use Rattle.std.proofs.lemmas.Cmp.{then_total, tied_itself}
use Rattle.texting_robots.specs.Internal.Segments.{GoesBefore, entry_cmp, line_in, rank_in}

-- ---- The verdict depends on which rules are listed, not on their order.

-- if `others` have each Disallow of `rules`, and `rules` each Allow of `others`, then `others` deny what
-- `rules` deny
denied_by : (rules others : List Rule) (text : List ℕ)
    → ((p : List ℕ) → Contains rules (p, false) → Contains others (p, false))
    → ((q : List ℕ) → Contains others (q, true) → Contains rules (q, true))
    → IsDenied rules text → IsDenied others text
denied_by rules others text denies allows (other, p, has, matches, longest) = grind arith

pub same_elements : {X : Type 0} (xs ys : List X) → IsPermutation xs ys → (x : X)
    → Contains xs x ↔ Contains ys x
same_elements xs ys same x =
    (Contains-permutation xs ys x same, Contains-permutation ys xs x (IsPermutation-sym xs ys same))

pub contains_rest : {X : Type 0} (first : X) (rest : List X) (x : X) → ¬ ◌≡◌ {A = X} first x
    → Contains (first ∷ rest) x → Contains rest x
contains_rest first rest x other h2 = grind arith

pub order_changes_nothing : (rules others : List Rule) (text : List ℕ) (answer : Bool)
    → IsPermutation rules others → IsVerdict rules text answer → IsVerdict others text answer
order_changes_nothing rules others text answer same = at answer
  where
    alike : (rule : Rule) → Contains rules rule ↔ Contains others rule
    alike = same_elements rules others same

    at : (answer : Bool) → IsVerdict rules text answer → IsVerdict others text answer
    at true allowed =
        λ denied. allowed (denied_by others rules text (λ p. (alike (p, false)).1)
        (λ q. (alike (q, true)).0) denied)
    at false denied =
        denied_by rules others text (λ p. (alike (p, false)).0) (λ q. (alike (q, true)).1) denied

module _ (front back : List Rule) (added rule : Rule) where
  moved : Contains (front ++ added ∷ back) rule ↔ Contains (added ∷ (front ++ back)) rule
  moved = same_elements _ _ (IsPermutation-middle front added back) rule

  contains_more : Contains (front ++ back) rule → Contains (front ++ added ∷ back) rule
  contains_more (k, below, at) = moved.1 (suc k, omega arith, at)

  contains_less : added ≢ rule → Contains (front ++ added ∷ back) rule → Contains (front ++ back) rule
  contains_less differs has = grind (arith, contains_rest, moved)

kinds_differ : (p q : List ℕ) → ◌≢◌ {A = Rule} (p, false) (q, true)
kinds_differ p q same = grind arith

pub one_more_disallow : (front back : List Rule) (pattern text : List ℕ)
    → IsVerdict (front ++ back) text false → IsVerdict (front ++ (pattern, false) ∷ back) text false
one_more_disallow front back pattern text =
    denied_by _ _ text (λ p. contains_more front back (pattern, false) (p, false))
    (λ q. contains_less front back (pattern, false) (q, true) (kinds_differ pattern q))

pub one_more_allow : (front back : List Rule) (pattern text : List ℕ)
    → IsVerdict (front ++ back) text true → IsVerdict (front ++ (pattern, true) ∷ back) text true
one_more_allow front back pattern text allowed denied =
    allowed (denied_by _ _ text
    (λ p. contains_less front back (pattern, true) (p, false) (λ same. kinds_differ p pattern (sym same)))
    (λ q. contains_more front back (pattern, true) (q, true)) denied)

of_two : (a b x : Rule) → Contains (a ∷ b ∷ []) x → ◌≡◌ {A = Rule} a x
    ⊎ ◌≡◌ {A = Rule} b x
of_two a b x h = grind arith

pub length_decides : (deny allow text : List ℕ) → text ≢ robots_file → Matches deny text
    → Matches allow text
    → IsVerdict ((deny, false) ∷ (allow, true) ∷ []) text false ↔ (length allow < length deny)
length_decides deny allow text other denies allows = grind (arith, kinds_differ, of_two)

pub longest_permuted : (rules others : List PlacedRule) (text : List ℕ) (placed : PlacedRule)
    → IsPermutation rules others
    → IsLongestMatch rules text placed → IsLongestMatch others text placed
longest_permuted rules others text placed same is =
    let alike = same_elements rules others same in record {
      listed = (alike placed).0 is.listed;
      matches = is.matches;
      longest = λ other listed. is.longest other ((alike other).1 listed);
    }

deciding_permuted : (rules others : List PlacedRule) (text : List ℕ) (line : Option ℕ)
    → IsPermutation rules others
    → IsDecidingLine rules text line → IsDecidingLine others text line
deciding_permuted rules others text None same is = elim is [
  | inl file ↦ inl file
  | inr none ↦ inr (λ placed listed. none placed ((same_elements rules others same placed).1 listed))
]
deciding_permuted rules others text (Some line) same (differs, placed, decides, at) =
    let alike = same_elements rules others same in (
      differs,
      placed,
      record {
        listed = (alike placed).0 decides.listed;
        matches = decides.matches;
        best = λ other listed. decides.best other ((alike other).1 listed);
      },
      at,
    )

pub permuted_verdicts : (rules others : List PlacedRule) → IsPermutation rules others
    → (text : List ℕ) (answer : Bool)
    → IsVerdict (unplaced others) text answer ↔ IsVerdict (unplaced rules) text answer
permuted_verdicts rules others same text answer =
    let alike = IsPermutation-map (λ (placed : PlacedRule). placed.rule) rules others same in (
      order_changes_nothing _ _ text answer (IsPermutation-sym (unplaced rules) (unplaced others) alike),
      order_changes_nothing _ _ text answer alike,
    )

pub permuted_lines : (rules others : List PlacedRule) → IsPermutation rules others
    → (text : List ℕ) (line : Option ℕ)
    → IsDecidingLine others text line ↔ IsDecidingLine rules text line
permuted_lines rules others same text line = (
  deciding_permuted others rules text line (IsPermutation-sym rules others same),
  deciding_permuted rules others text line same,
)

kind_not_better : (one other : PlacedRule) → length one.rule.0 ≡ length other.rule.0
    → ¬ IsBetter one other
    → one.rule.1 ≡ true → other.rule.1 ≡ true
kind_not_better one other same not allows = grind (arith, cases_Bool)

same_line : (one other : PlacedRule) → ¬ IsBetter one other → ¬ IsBetter other one
    → one.line ≡ other.line
same_line one other not nor = grind (arith, cases_order, kind_not_better)

none_decides : (rules : List PlacedRule) (text : List ℕ) (line : ℕ) → IsDecidingLine rules text None
    → ¬ (IsDecidingLine rules text (Some line))
none_decides rules text line none (differs, placed, decides, at) = grind arith

pub verdict_unique : (rules : List Rule) (text : List ℕ) (one two : Bool) → IsVerdict rules text one
    → IsVerdict rules text two → one ≡ two
verdict_unique rules text one two is is_too = grind arith

pub one_line_decides : (rules : List PlacedRule) (text : List ℕ) (line other : Option ℕ)
    → IsDecidingLine rules text line → IsDecidingLine rules text other → line ≡ other
one_line_decides rules text line other one two = grind (arith, none_decides, same_line)

pub cmp_less : (x y : ℕ) → x < y → nat_cmp x y ≡ Less
cmp_less x y h = sym (nat_cmp_is x y Less h)

pub cmp_same : (x : ℕ) → nat_cmp x x ≡ Equal
cmp_same x = tied_itself nat_cmp_total x

-- equal up to some index, with a smaller byte there
abbrev IsSmaller : List ℕ → List ℕ → Type 0
IsSmaller p q = (k : ℕ) × (take k p ≡ take k q) × (slice_index p k < slice_index q k)

abbrev Compared : Ordering → List ℕ → List ℕ → Type 0
Compared o p q = MatchOrdering o (IsSmaller p q) (p ≡ q) (IsSmaller q p)

compared : (p q : List ℕ) → length p ≡ length q → Compared (slice_cmp nat_cmp p q) p q
compared [] [] n = refl
compared [] (y ∷ q) n = absurd (omega (arith, n))
compared (x ∷ p) [] n = absurd (omega (arith, n))
compared (x ∷ p) (y ∷ q) n = grind (arith, ranked, first, compared p q)
  where
    first : (o : Ordering) → MatchOrdering o (x < y) (x ≡ y) (y < x)
        → (rest : Ordering) → Compared rest p q → Compared (ordering_then o rest) (x ∷ p) (y ∷ q)
    first Less less rest is = (0, refl, less)
    first Greater more rest is = (0, refl, more)
    first Equal same Less (k, begin, less) = (suc k, cc, less)
    first Equal same Equal is = cc
    first Equal same Greater (k, begin, less) = (suc k, cc, less)

smaller_is_less : (p q : List ℕ) (k : ℕ) → length p ≡ length q → take k p ≡ take k q
    → slice_index p k < slice_index q k → slice_cmp nat_cmp p q ≡ Less
smaller_is_less [] [] k n same less = absurd (omega (arith, less))
smaller_is_less [] (y ∷ q) k n same less = absurd (omega (arith, n))
smaller_is_less (x ∷ p) [] k n same less = absurd (omega (arith, n))
smaller_is_less (x ∷ p) (y ∷ q) zero n same less = rw (cmp_less x y less) refl
smaller_is_less (x ∷ p) (y ∷ q) (suc k) n same less = grind (arith, cmp_same, smaller_is_less p q k)

pattern_total : IsTotalOrder pattern_cmp
pattern_total =
    then_total (back_total (on_total (λ (p : List ℕ). length p) nat_cmp_total)) nat_list_cmp_total

pattern_compared : (p q : List ℕ)
    → MatchOrdering (pattern_cmp p q) (IsBefore p q) (p ≡ q) (IsBefore q p)
pattern_compared p q = grind (arith, ranked, by_length)
  where
    by_bytes : length p ≡ length q → (o : Ordering) → Compared o p q
        → MatchOrdering o (IsBefore p q) (p ≡ q) (IsBefore q p)
    by_bytes same Less (k, begin, less) = inr (same, k, begin, less)
    by_bytes same Equal is = is
    by_bytes same Greater (k, begin, less) = inr (sym same, k, begin, less)

    by_length : (o : Ordering)
        → MatchOrdering o (length q < length p) (length q ≡ length p) (length p < length q)
        → MatchOrdering (ordering_then o (slice_cmp nat_cmp p q)) (IsBefore p q) (p ≡ q) (IsBefore q p)
    by_length Less longer = inl longer
    by_length Equal same = by_bytes (sym same) (slice_cmp nat_cmp p q) (compared p q (sym same))
    by_length Greater shorter = inl shorter

pub less_is_before : (p q : List ℕ) → (pattern_cmp p q ≡ Less) ↔ IsBefore p q
less_is_before p q = (
  λ h. rw h at (pattern_compared p q),
  grind (arith, cmp_less, cmp_same, smaller_is_less),
)

pub equal_is_same : (p q : List ℕ) → (pattern_cmp p q ≡ Equal) ↔ (p ≡ q)
equal_is_same p q = (λ h. rw h at (pattern_compared p q), λ same. rw same (tied_itself pattern_total q))

pub one_holds : (p q : List ℕ) → (p ≡ q) ⊎ (IsBefore p q ⊎ IsBefore q p)
one_holds p q =
    by_ranked _ _ _ (pattern_cmp p q) (pattern_compared p q) (λ _ first. inr (inl first))
    (λ _ same. inl same) (λ _ later. inr (inr later))

pub before_asymmetric : (p q : List ℕ) → IsBefore p q → ¬ IsBefore q p
before_asymmetric p q before after =
    let first = (less_is_before p q).1 before in
    grind (arith, less_is_before, pattern_total)

pub before_irreflexive : (p : List ℕ) → ¬ IsBefore p p
before_irreflexive p before = before_asymmetric p p before before

pub before_transitive : (p q r : List ℕ) → IsBefore p q → IsBefore q r → IsBefore p r
before_transitive p q r first second =
    (less_is_before p r).0
    (pattern_total.trans p q r ((less_is_before p q).1 first) ((less_is_before q r).1 second))

-- ---- The order of sorted entries.

abbrev pub is_before : RuleEntry → RuleEntry → Bool
is_before a b = is_lt (entry_cmp a b)

pub weak : IsStrictWeakOrder is_before
weak =
    let rank = back_total (on_total rank_in nat_cmp_total) in
    ranks_by (then_total rank (on_total line_in nat_cmp_total)) (λ (e : RuleEntry). e)

-- of two entries with ranks `m` and `n` and lines `i` and `j`, the second isn't before the first
abbrev IsNoEarlier : ℕ → ℕ → ℕ → ℕ → Type 0
IsNoEarlier m n i j = is_lt (ordering_then (nat_cmp m n) (nat_cmp j i)) ≡ false

higher : (m n i j : ℕ) → IsNoEarlier m n i j → n ≤ m
higher m n i j h = grind (arith, cases_lt, cmp_less)

earlier : (n i j : ℕ) → IsNoEarlier n n i j → i ≤ j
earlier n i j h = grind (arith, cases_lt, cmp_less, cmp_same)

goes_before : (first second : RuleEntry) → is_before second first ≡ false → GoesBefore first second
goes_before first second h = grind (arith, earlier, higher)

pub pairs_sorted : (entries : List RuleEntry) → IsSortedBy is_before entries → AllPairs GoesBefore entries
pairs_sorted entries sorted i j d before within =
    goes_before _ _ (sorted_far is_before weak entries sorted i j d (omega arith) within)

-- with `held` in the hole, the elements stay the same if the one at `j` moves into the hole and leaves one
pub hole_moves : {X : Type 0} (xs : List X) (hole j : ℕ) (held d : X) → hole < length xs → j < length xs
    → IsPermutation (set xs hole held) (set (set xs hole (get_or xs j d)) j held)
hole_moves xs hole j held d inside from =
    let long = length-set xs hole held in
    let there = get_or-set_same xs hole held d inside in
    let whole = set-set xs hole held (get_or xs j d) in
    let swapped = swap_is (set xs hole held) hole j d (omega (arith, long)) (omega (arith, long)) in
    elim (cases_eq j hole) [
      | inl same ↦ rw (same, set-set) (IsPermutation-refl (set xs hole held))
      | inr apart ↦
          IsPermutation-swap _ _ hole j (omega (arith, long)) (omega (arith, long))
          (rw (get_or-set_other xs hole j held d apart, there, whole) at swapped)
    ]

pub at_most : {X Y : Type 0} (made : Result X Y) (n m : ℕ) → m ≤ n → (if is_ok made then n else m) ≤ n
at_most made n m within = grind arith
