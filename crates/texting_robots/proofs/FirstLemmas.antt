-- Which rule decides, and what is looked at to find it.
use Rattle.std.proofs.Common.{◌≡◌, ℕ, ◌*◌, ◌^◌, ◌%◌, ◌<◌, ◌≤◌, List, [], ◌∷◌, ◌++◌, length, min, get_or, drop}
use Rattle.std.proofs.Common.{take, sym, refl, ap, ◌∙◌, append_assoc, take-append-drop, arith, ◌+◌, ◌-◌, cond}
use Rattle.std.proofs.Common.{leb, string_bytes, suc, ◌≢◌, inl, inr, zero, count_by, Bool, true, All}
use Rattle.std.proofs.Common.{AllPairs, subst}
use Rattle.std.specs.Int.{RustNames.bit_and, RustNames.bit_or, Bits.or_self, Bits.or_zero_l}
use Rattle.std.proofs.lemmas.List.{get_or_default, take-take, get_or-map, length-map, get_or_read}
use Rattle.std.proofs.lemmas.List.{length-drop, length-take, Elements.All-map}
use Rattle.std.proofs.lemmas.List.Sums.{sum_by-take-le, sum_by_more, sum_by-cons, sum_by-take-drop}
use Rattle.std.proofs.lemmas.Nat.{and_mask, or_comm, Bits.bit_at_or, Bits.same_from_bits}
use Rattle.texting_robots.specs.declared.prefilter.{Prefilter.Prefilter, head.Head.Head}
use Rattle.texting_robots.specs.declared.segments.{Ending.Ending, Ends.Ends, Segment.Segment, Span.Span}
use Rattle.texting_robots.specs.Internal.Segments.{ArePrefilter, AreWithin, IsHeadOf, ending_pairs, pair_bit}
use Rattle.texting_robots.specs.Internal.Segments.{first_eight, ones_below, pair_set, AreApart, AreLeft}
use Rattle.texting_robots.specs.Internal.Segments.{AreSegments, IsUnsearched, Fits, EndsAs, part_of, IsSpan}
use Rattle.texting_robots.specs.Internal.Segments.{pattern_of, placed_at, rules_in, AreEntries, HaveMasks}
use Rattle.texting_robots.specs.Internal.Segments.{GoesBefore, IsEntryOf, IsFirstMatch, MatchesAt}
use Rattle.texting_robots.specs.Internal.Segments.{NoneBetween, NoneMatches, no_entry, rank_in, mask_in}
use Rattle.texting_robots.specs.{Pattern.Matches, Cost.cost_of, Cost.looks_of}
use Rattle.texting_robots.specs.{Rules.PlacedRule, Rules.unplaced, View.LooksAtMost, View.ViewValue}
use Rattle.texting_robots.specs.Verdict.{IsVerdict, robots_file}
use Rattle.std.proofs.lemmas.Bool.{cond_both, eqb-false, leb-true, cases_lt, cases_order, le-leb}
use Rattle.texting_robots.specs.declared.rules.{RuleEntry.RuleEntry, RuleTable.RuleTable}
use Rattle.std.proofs.Math.Nat.{mul-le-mul_left}
use Rattle.texting_robots.specs.Decision.{IsDecidingRule, IsLongestMatch, LooksForRules, as_long_as}
use Rattle.texting_robots.proofs.BestLemmas.{IsAbove, IsBest, IsPreferred, NoMatch, best_decides}
use Rattle.texting_robots.proofs.BestLemmas.{preferred_longer, deciding_longest, rank_of, verdict_by_rule}

-- ---- A matched text begins as the first segment does, and has the bigrams of the others.

-- the bytes of the segment are those of the text, as far as both go
same_below : (segment rest : List ℕ) → first_eight (segment ++ rest) % 2 ^ (8 * min (length segment) 8)
    ≡ first_eight segment % 2 ^ (8 * min (length segment) 8)
same_below (a ∷ b ∷ c ∷ d ∷ e ∷ f ∷ g ∷ h ∷ segment) rest = refl
same_below segment rest = omega arith

-- so a mask over the segment hides the bytes after it
pub same_masked : (segment rest : List ℕ)
    → bit_and (first_eight (segment ++ rest)) (ones_below (length segment))
    ≡ bit_and (first_eight segment) (ones_below (length segment))
same_masked segment rest = grind (arith, and_mask, same_below)

beginning_fits : (segment rest : List ℕ) (head : Head) → IsHeadOf segment head
    → Fits head (first_eight (segment ++ rest))
beginning_fits segment rest head is = grind (arith, same_masked)

pub bit_or_assoc : (a b c : ℕ) → bit_or (bit_or a b) c ≡ bit_or a (bit_or b c)
bit_or_assoc a b c =
    same_from_bits _ _ (grind (arith, bit_at_or, b))

within_later : (few more many : ℕ) → AreWithin few many → AreWithin few (bit_or more many)
within_later few more many h = grind (arith, bit_or_assoc, or_comm)

pub within_both : (one other many : ℕ) → AreWithin one many → AreWithin other many
    → AreWithin (bit_or one other) many
within_both one other many h k = rw (bit_or_assoc, k) h

pub within_through : (few some many : ℕ) → AreWithin few some → AreWithin some many → AreWithin few many
within_through few some many h k = grind (arith, bit_or_assoc)

front_within : (front rest : List ℕ) → AreWithin (pair_set front) (pair_set (front ++ rest))
unfolding pair_set
front_within [] rest = or_zero_l (pair_set rest)
front_within (b ∷ []) rest = or_zero_l (pair_set (b ∷ rest))
front_within (b ∷ c ∷ front) rest =
    let bit = pair_bit b c in
    let more = pair_set (c ∷ (front ++ rest)) in
    let first = sym (bit_or_assoc bit bit more) ∙ ap (λ x. bit_or x more) (or_self bit) in
    grind (arith, within_both, within_later, front_within (c ∷ front) rest)

end_within : (front rest : List ℕ) → AreWithin (pair_set rest) (pair_set (front ++ rest))
unfolding pair_set
end_within [] rest = or_self (pair_set rest)
end_within (b ∷ front) rest = grind (arith, within_later, end_within front rest)

-- loop step: some of the bigrams that are left are moved to those so far
pub within_moved : (bits few some left all : ℕ) → AreWithin few some
    → AreWithin (bit_or bits (bit_or some left)) all → AreWithin (bit_or (bit_or bits few) left) all
within_moved bits few some left all h k =
    let more : AreWithin (bit_or (bit_or bits few) left) (bit_or bits (bit_or some left)) =
    within_both (bit_or bits few) left (bit_or bits (bit_or some left))
    (within_both bits few (bit_or bits (bit_or some left))
    (cc (bit_or_assoc bits bits _, or_self bits))
    (grind (arith, bit_or_assoc, within_later, some)))
    (within_later left bits _ (within_later left some left (or_self left))) in
    within_through _ _ all more k

pub pairs_step : (bits bit whole : ℕ) (rest : List ℕ) → 2 ≤ length rest
    → bit ≡ pair_bit (get_or rest 0 0) (get_or rest 1 0) → bit_or bits (pair_set rest) ≡ whole
    → bit_or (bit_or bits bit) (pair_set (drop 1 rest)) ≡ whole
unfolding pair_set
pairs_step bits bit whole rest long is h3 = grind (arith, bit_or_assoc)

pub two_pairs : (bits one two whole : ℕ) (rest : List ℕ) → 3 ≤ length rest
    → one ≡ pair_bit (get_or rest 0 0) (get_or rest 1 0)
    → two ≡ pair_bit (get_or rest 1 0) (get_or rest 2 0)
    → bit_or bits (pair_set rest) ≡ whole
    → bit_or (bit_or (bit_or bits one) two) (pair_set (drop 2 rest)) ≡ whole
two_pairs bits one two whole (b ∷ c ∷ d ∷ rest) long first second h =
    pairs_step _ two whole (c ∷ d ∷ rest) (omega arith) second
    (pairs_step bits one whole (b ∷ c ∷ d ∷ rest) (omega arith) first h)
two_pairs bits one two whole rest long first second h = absurd (omega arith)

pub no_pairs : (rest : List ℕ) → length rest < 2 → pair_set rest ≡ 0
unfolding pair_set
no_pairs [] short = refl
no_pairs (b ∷ []) short = refl
no_pairs (b ∷ c ∷ rest) short = absurd (omega arith)

-- the bigrams of both ends of a text are some of the text's
pub ends_within : (text : List ℕ) (len from : ℕ)
    → AreWithin (bit_or (pair_set (take len text)) (pair_set (drop from text))) (pair_set text)
ends_within text len from = within_both _ _ (pair_set text)
    (subst (λ s. AreWithin (pair_set (take len text)) (pair_set s)) (take-append-drop len text)
    (front_within (take len text) (drop len text)))
    (subst (λ s. AreWithin (pair_set (drop from text)) (pair_set s)) (take-append-drop from text)
    (end_within (take from text) (drop from text)))

abbrev pub segment_pairs : List ℕ → Ending → List Segment → ℕ
segment_pairs pattern ending [] = ending_pairs pattern ending
segment_pairs pattern ending (segment ∷ segments) =
    bit_or (pair_set (part_of pattern segment.span)) (segment_pairs pattern ending segments)

ending_within : (pattern : List ℕ) (ending : Ending) (t : List ℕ) → EndsAs pattern ending t
    → AreWithin (ending_pairs pattern ending) (pair_set t)
ending_within pattern ending t ends = grind (arith, end_within)

left_within : (pattern : List ℕ) (ending : Ending) (segments : List Segment) (left : List ℕ)
    → AreLeft pattern ending segments left → (t : List ℕ) → Matches left t
    → AreWithin (segment_pairs pattern ending segments) (pair_set t)
left_within pattern ending [] left are t m = ending_within pattern ending t ((are t).0 m)
left_within pattern ending (segment ∷ segments) left (rest, is, more) t m =
    let (after, (front, e), n) = (is.decides t).0 m in
    let part = part_of pattern segment.span in
    let here = front_within part after in
    let pairs = segment_pairs pattern ending (segment ∷ segments) in
    let later = segment_pairs pattern ending segments in
    let following = within_through later (pair_set after) (pair_set (part ++ after))
    (left_within pattern ending segments rest more after n) (end_within part after) in
    let both = within_both (pair_set part) later (pair_set (part ++ after)) here following in
    grind (arith, end_within, within_through)

pub are_prefilter : {pattern : List ℕ} {ends : Ends} {segments : List Segment} {borders : List ℕ}
    (prefilter : Prefilter)
    → AreSegments pattern ends segments borders → IsHeadOf (take ends.first_len pattern) prefilter.head
    → AreWithin prefilter.pairs.bits (segment_pairs pattern ends.ending segments)
    → ArePrefilter pattern prefilter
are_prefilter {pattern} {ends} {segments} prefilter are head pairs text m =
    grind (arith, beginning_fits, end_within, left_within, within_through)

pub beginning_within : (pattern rest text : List ℕ) (few first : ℕ) → few ≤ first
    → text ≡ take first pattern ++ rest → AreWithin (pair_set (take few pattern)) (pair_set text)
beginning_within pattern rest text few first less e =
    let front = take first pattern in
    let parts = sym (take-append-drop few front) in
    let same : take few front ≡ take few pattern = take-take few first pattern less in
    grind (arith, append_assoc, front_within)

-- ---- The looks for a pattern, and those for all rules.

pub within_looks : (p : List ℕ) (ends : Ends) (segments : List Segment) (borders : List ℕ)
    → AreSegments p ends segments borders → (n old new : ℕ) → (n < ends.first_len → new ≤ old)
    → new ≤ old + 2 * n → (IsUnsearched segments ends.ending → new ≤ old + ends.first_len)
    → new ≤ old + looks_of p n
within_looks p ends segments borders are n old new short all first =
    grind (arith, cond_both, eqb-false, leb-true)

abbrev pub cost_upto : RuleTable → ℕ → ℕ → ℕ
cost_upto all n at = cost_of (take at (rules_in all)) n

module _ (all : RuleTable) (n at : ℕ) where
  pub cost_more : (entry : RuleEntry) → at < length all.entries.items
      → entry ≡ get_or all.entries.items at entry
      → cost_upto all n (at + 1) ≡ cost_upto all n at + (1 + looks_of (pattern_of all entry) n)
  cost_more entry below is =
      let placed = placed_at (string_bytes all.text) in
      sum_by_more _ (rules_in all) at (placed entry) (rw length-map below)
      ∙ ap (λ (rule : PlacedRule). cost_upto all n at + (1 + looks_of rule.rule.0 n))
      (get_or-map placed all.entries.items at entry (placed entry) below ∙ ap placed (sym is))

  pub cost_within : cost_upto all n at ≤ cost_of (rules_in all) n
  cost_within = sum_by-take-le _ (rules_in all) at

counts : (n : ℕ) (rules : List PlacedRule) → length rules ≤ cost_of rules n
counts n [] = omega arith
counts n (rule ∷ rules) =
    omega (arith, sum_by-cons (λ (r : PlacedRule). 1 + looks_of r.rule.0 n) rule rules, counts n rules)

-- each of the rules from `from` to `to` costs one at least
pub cost_counts : (all : RuleTable) (n from to : ℕ) → from ≤ to → to ≤ length all.entries.items
    → cost_upto all n from + (to - from) ≤ cost_upto all n to
cost_counts all n from to less within =
    let some = take to (rules_in all) in
    let parts = sum_by-take-drop (λ (r : PlacedRule). 1 + looks_of r.rule.0 n) some from in
    let long : length (drop from some) ≡ to - from =
    simp (length-drop, length-take, length-map) (omega arith) in
    grind (arith, counts, take-take)

-- ---- Among sorted rules, the first that matches decides.

count_front : (p : PlacedRule → Bool) (xs : List PlacedRule) (n : ℕ) → n ≤ length xs
    → ((k : ℕ) (d : PlacedRule) → k < n → p (get_or xs k d) ≡ true) → n ≤ count_by p xs
count_front p xs zero within passes = omega arith
count_front p [] (suc n) within passes = absurd (omega arith)
count_front p (x ∷ xs) (suc n) within passes =
    let here : p x ≡ true = passes 0 x (omega arith) in
    let rest : n ≤ count_by p xs =
    count_front p xs n (omega arith) (λ k d below. passes (suc k) d (omega arith)) in
    rw (sum_by-cons (λ (y : PlacedRule). cond (p y) 1 0) x xs, here) (omega arith)

at_most_more : (old new : ViewValue) (few many : ℕ) → few ≤ many → LooksAtMost old new few
    → LooksAtMost old new many
at_most_more old new few many more is = grind arith

-- the rules before this index were tried: none matches, and together they took no more than they cost
pub record AreTried (all : RuleTable) (old new : ViewValue) (at : ℕ) : Type 0 where
  pub text : new.text ≡ old.text
  pub before : (k : ℕ) → k < at → MatchesAt all k old.text → ⊥
  pub grows : old.looks ≤ new.looks
  pub spent : new.looks ≤ old.looks + cost_upto all (length old.text) at

pub mask_within : (all : RuleTable) (entry : RuleEntry) → IsEntryOf all entry → (text : List ℕ)
    → Matches (pattern_of all entry) text
    → AreWithin (mask_in (string_bytes all.text) entry) (pair_set text)
mask_within all entry is text matches = grind (arith, beginning_within, within_both)

-- rules whose masks exclude the text don't match it
pub none_matches : (all : RuleTable) (text : List ℕ) (from to : ℕ) → AreEntries all
    → HaveMasks (string_bytes all.text) all.entries.items all.masks.items
    → AreApart all.masks.items (pair_set text) from to → NoneBetween all text from to
none_matches all text from to are masked apart = λ k above below matches.
    let (here, differs) = apart k above below in
    grind (arith, mask_within, are.known, differs)

pub tried_to : (all : RuleTable) (old now new : ViewValue) (from to : ℕ)
    → NoneBetween all old.text from to → new.text ≡ now.text → now.looks ≤ new.looks
    → new.looks + cost_upto all (length old.text) from ≤ now.looks + cost_upto all (length old.text) to
    → AreTried all old now from → AreTried all old new to
tried_to all old now new from to none same grows spent tried = grind (arith, cases_lt, tried.before, none)

pub tried_more : (all : RuleTable) (old now new : ViewValue) (at : ℕ) (entry : RuleEntry)
    → at < length all.entries.items → entry ≡ get_or all.entries.items at entry
    → ¬ Matches (pattern_of all entry) old.text → new.text ≡ now.text → now.looks ≤ new.looks
    → new.looks ≤ now.looks + (1 + looks_of (pattern_of all entry) (length old.text))
    → AreTried all old now at → AreTried all old new (at + 1)
tried_more all old now new at entry within is other same grows spent tried =
    let more = cost_more all (length old.text) at entry within is in
    tried_to all old now new at (at + 1) (grind (arith, get_or_read, other, is))
    same grows (omega (arith, spent, more)) tried

part_length : {X : Type 0} (xs : List X) (span : Span) → IsSpan xs span
    → length (part_of xs span) ≡ span.end - span.start
part_length xs span h =
    simp (length-take, length-drop) (omega arith)

module _ (all : RuleTable) (known : All (IsEntryOf all) all.entries.items) where
  abbrev entry_at : ℕ → RuleEntry
  entry_at k = get_or all.entries.items k no_entry

  abbrev placed : ℕ → PlacedRule
  placed k = placed_at (string_bytes all.text) (entry_at k)

  rule_is : (k : ℕ) (d : PlacedRule) → k < length all.entries.items
      → get_or (rules_in all) k d ≡ placed k
  rule_is k d below = grind (arith, get_or-map)

  ranked : (k : ℕ) → k < length all.entries.items → rank_of (placed k) ≡ rank_in (entry_at k)
  ranked k below = grind (arith, part_length)

  pub none_occurs : (text : List ℕ) → NoneMatches all text → NoMatch (rules_in all) text
  none_occurs text none rule (k, below, here) fits = grind (arith, length-map, rule_is)

  module _ (sorted : AllPairs GoesBefore all.entries.items) where
    preferred : (i j : ℕ) → i < j → j < length all.entries.items → IsPreferred (placed i) (placed j)
    preferred i j before within = grind (arith, ranked)

    module _ (text : List ℕ) (at : ℕ) (found : IsFirstMatch all text at) where
      first_best : IsBest (rules_in all) text (placed at)
      first_best = record {
        listed = let below = found.0 in (at, rw length-map below, rule_is at (placed at) below);
        matches = found.1;
        best = All-map (IsAbove text (placed at)) (placed_at (string_bytes all.text)) all.entries.items
            (λ k d below. rw (get_or_default all.entries.items k d no_entry below) (above k below));
      }
        where
          above : (k : ℕ) → k < length all.entries.items → IsAbove text (placed at) (placed k)
          above k below fits = elim (cases_order k at) [
            | inl same ↦ rw same (record { higher = omega arith; earlier = λ _. omega arith })
            | inr (inl early) ↦ absurd (found.2 k early fits)
            | inr (inr late) ↦ preferred at k late below
          ]

      pub first_line : IsDecidingRule (rules_in all) text (placed at)
      first_line = best_decides (rules_in all) text (placed at) first_best

      pub first_decides : text ≢ robots_file
          → IsVerdict (unplaced (rules_in all)) text (entry_at at).is_allow
      first_decides = verdict_by_rule (rules_in all) text (placed at) (entry_at at).is_allow first_line refl

      -- each rule up to the first that matches is at least as long as the longest one that matches
      first_tried : (rule : PlacedRule) → IsLongestMatch (rules_in all) text rule
          → 2 * length text * (at + 1) ≤ 2 * length text * as_long_as rule (rules_in all)
      first_tried rule is =
          let best = deciding_longest (rules_in all) text (placed at) rule first_line is.listed is.matches in
          let within = found.0 in
          mul-le-mul_left (2 * length text)
          (count_front (λ (r : PlacedRule). leb (length rule.rule.0) (length r.rule.0)) (rules_in all)
          (at + 1) (rw length-map (omega arith)) (λ k d below. rw (rule_is k d (omega arith))
          (le-leb (length rule.rule.0) (length (placed k).rule.0) (elim (cases_lt k at) [
            | inl early ↦
                let more = preferred_longer (placed k) (placed at) (preferred k at early within) in
                omega arith
            | inr late ↦ let same : k ≡ at = omega arith in rw same best
          ]))))

    pub first_looks : (old new : ViewValue) (at : ℕ) → IsFirstMatch all old.text at
        → LooksAtMost old new (2 * length old.text * (at + 1)) → LooksForRules (rules_in all) old new
    first_looks old new at found looks =
        let below : at + 1 ≤ length (rules_in all) = let within = found.0 in rw length-map (omega arith) in
        record {
          all = at_most_more _ _ _ _ (mul-le-mul_left (2 * length old.text) below) looks;
          tried = λ placed is. at_most_more _ _ _ _ (first_tried old.text at found placed is) looks;
        }
