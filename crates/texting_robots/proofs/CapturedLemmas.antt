-- The code's state machine, `GroupTracker`, agrees with the specification, which uses indices of lines.
use Rattle.std.specs.Prelude.{IsTrue, filter}
use Rattle.std.proofs.Common.{◌≡◌, ◌↔◌, ◌≤◌, ℕ, zero, suc, ◌+◌, ◌<◌, nat_lt, Bool, true, false, not}
use Rattle.std.proofs.Common.{◌&&◌, ◌||◌, List, [], ◌∷◌, Option, Some, None, slice_get, drop, take, cond, ap}
use Rattle.std.proofs.Common.{length, add-one, refl, ◌∙◌, arith}
use Rattle.std.specs.{Bool.Decides, List.list_any, List.cons_option, List.filter_map, List.enumerate_from}
use Rattle.std.proofs.Math.Bool.{and-true, and-false, or_assoc, or_comm, or-false}
use Rattle.std.proofs.lemmas.Bool.{Decides.Decides-below_or, cases_Bool, and_left, and_right, le-ltb, lt-ltb}
use Rattle.std.proofs.lemmas.Bool.Decides.{Decides-and, Decides-or, Decides-not, Decides-ltb, Decides-like}
use Rattle.std.proofs.lemmas.{List.take_all}
use Rattle.texting_robots.specs.{declared.groups.GroupTracker.GroupTracker, Rules.PlacedRule, Rules.Rule}
use Rattle.texting_robots.specs.{Rules.unplaced, Line.LineValue, Line.delay_in}
use Rattle.texting_robots.specs.Group.{IsCaptured, group_name, is_agent, is_agent_named, is_member, passes_at}
use Rattle.texting_robots.specs.Internal.Captured.{is_captured, some_below}
use Rattle.texting_robots.specs.Executable.{captured_delays, captured_lines, placed_in, rule_in, rules_for}
use Rattle.texting_robots.specs.Internal.Group.{from_captured, if_captured, placed, start_of, step}

-- a member is between `j` and `i`
abbrev crossed : (ℕ → Bool) → ℕ → ℕ → Bool
crossed G j i = some_below (λ k. nat_lt j k && G k) i

-- and a user-agent line is between that line and `i`
abbrev broken : (ℕ → Bool) → (ℕ → Bool) → ℕ → ℕ → Bool
broken A G j i = some_below (λ l. A l && crossed G j l) i

-- a line before `i` has the name, and no member follows it
abbrev open_at : (ℕ → Bool) → (ℕ → Bool) → ℕ → Bool
open_at G N i = some_below (λ j. N j && not (crossed G j i)) i

-- a line before `i` has the name, and no other group begins after it
abbrev named_at : (ℕ → Bool) → (ℕ → Bool) → (ℕ → Bool) → ℕ → Bool
named_at A G N i = some_below (λ j. N j && not (broken A G j i)) i

below_decides : (test : ℕ → Bool) (P : ℕ → Type 0) → ((k : ℕ) → Decides (test k) (P k))
    → (n : ℕ) → Decides (some_below test n) ((k : ℕ) × (k < n) × P k)
below_decides test P each n = Decides-below_or test P (some_below test) each refl (λ _. refl) n

pub bool_decides : (b : Bool) → Decides b (b ≡ true)
bool_decides b = (λ h. h, λ h. h)

pub within : (test : LineValue → Bool) (lines : List LineValue) (k : ℕ)
    → passes_at test lines k ≡ true → k < length lines
within test [] k h = cc
within test (line ∷ lines) zero h = omega arith
within test (line ∷ lines) (suc k) h = let less = within test lines k h in omega arith

pub any_next : (test : LineValue → Bool) (lines : List LineValue) (n : ℕ)
    → list_any test (take (suc n) lines) ≡ (passes_at test lines n || list_any test (take n lines))
any_next test [] zero = refl
any_next test [] (suc n) = refl
any_next test (line ∷ lines) zero = refl
any_next test (line ∷ lines) (suc n) = grind (arith, or_assoc, or_comm, any_next test lines n)

pub taken_decides : (test : LineValue → Bool) (lines : List LineValue) (n : ℕ)
    → Decides (list_any test (take n lines)) ((j : ℕ) × (j < n) × (passes_at test lines j ≡ true))
taken_decides test lines n =
    Decides-below_or (passes_at test lines) (λ j. passes_at test lines j ≡ true)
    (λ n. list_any test (take n lines)) (λ j. bool_decides _) refl (any_next test lines) n

pub some_passes : (test : LineValue → Bool) (lines : List LineValue)
    → Decides (list_any test lines) ((k : ℕ) × (passes_at test lines k ≡ true))
some_passes test lines =
    Decides-like _ (λ (k, less, h). (k, h)) (λ (k, h). (k, within test lines k h, h))
    (rw (take_all (length lines) lines (omega arith)) at (taken_decides test lines (length lines)))

no_agent_decides : (lines : List LineValue)
    → Decides (not (list_any is_agent lines)) ((k : ℕ) → ¬ IsTrue (passes_at is_agent lines k))
no_agent_decides lines = grind (arith, some_passes)

abbrev Crossed : (ℕ → Bool) → ℕ → ℕ → Type 0
Crossed G j i = (k : ℕ) × (k < i) × ((j < k) × (G k ≡ true))

abbrev Broken : (ℕ → Bool) → (ℕ → Bool) → ℕ → ℕ → Type 0
Broken A G j i = (l : ℕ) × (l < i) × ((A l ≡ true) × Crossed G j l)

crossed_decides : (G : ℕ → Bool) (j i : ℕ) → Decides (crossed G j i) (Crossed G j i)
crossed_decides G j i =
    below_decides _ (λ k. (j < k) × (G k ≡ true)) (λ k. Decides-and _ _ (Decides-ltb j k) (bool_decides _)) i

broken_decides : (A G : ℕ → Bool) (j i : ℕ) → Decides (broken A G j i) (Broken A G j i)
broken_decides A G j i =
    below_decides _ (λ l. (A l ≡ true) × Crossed G j l)
    (λ l. Decides-and _ _ (bool_decides _) (crossed_decides G j l)) i

named_decides : (A G N : ℕ → Bool) (i : ℕ)
    → Decides (named_at A G N i) ((j : ℕ) × (j < i) × ((N j ≡ true) × ¬ (Broken A G j i)))
named_decides A G N i =
    below_decides _ (λ j. (N j ≡ true) × ¬ (Broken A G j i))
    (λ j. Decides-and _ _ (bool_decides _) (Decides-not _ (broken_decides A G j i))) i

pub is_captured_decides : (name : List ℕ) (lines : List LineValue) (i : ℕ)
    → Decides (is_captured name lines i) (IsCaptured name lines i)
is_captured_decides name lines i =
    Decides-or _ _ (no_agent_decides lines)
    (Decides-like _
    (grind arith)
    (grind arith)
    (named_decides (passes_at is_agent lines) (passes_at is_member lines)
    (passes_at (is_agent_named name) lines) i))

below_same : (f g : ℕ → Bool) (n : ℕ) → ((j : ℕ) → j < n → f j ≡ g j)
    → some_below f n ≡ some_below g n
below_same f g zero same = refl
below_same f g (suc n) same = grind (arith, below_same f g n)

none_below : (f : ℕ → Bool) (n : ℕ) → ((j : ℕ) → j < n → f j ≡ false)
    → some_below f n ≡ false
none_below f zero none = refl
none_below f (suc n) none = grind (arith, none_below f n)

not_crossed : (G : ℕ → Bool) (j i : ℕ) → i ≤ j + 1 → crossed G j i ≡ false
not_crossed G j i near = grind (arith, and_left, le-ltb, none_below)

not_broken : (A G : ℕ → Bool) (j i : ℕ) → i ≤ j + 1 → broken A G j i ≡ false
not_broken A G j i near = grind (arith, and_right, none_below, not_crossed)

-- another group begins only after a member
absorbed : (A G : ℕ → Bool) (j i : ℕ) → (crossed G j i || broken A G j i) ≡ crossed G j i
absorbed A G j zero = refl
absorbed A G j (suc i) = grind (arith, absorbed A G j i)

broken_next : (A G : ℕ → Bool) (j i : ℕ)
    → broken A G j (suc i) ≡ cond (A i) (crossed G j i) (broken A G j i)
broken_next A G j i = grind (arith, absorbed)

here_or_before : (N : ℕ → Bool) (f g : ℕ → Bool) (i : ℕ) → f i ≡ false
    → ((j : ℕ) → j < i → f j ≡ g j)
    → some_below (λ j. N j && not (f j)) (suc i) ≡ (N i || some_below (λ j. N j && not (g j)) i)
here_or_before N f g i none same = grind (arith, and-true, below_same)

named_next : (A G N : ℕ → Bool) (i : ℕ)
    → named_at A G N (suc i) ≡ (N i || cond (A i) (open_at G N i) (named_at A G N i))
named_next A G N i =
    here_or_before N (λ j. broken A G j (suc i)) (λ j. cond (A i) (crossed G j i) (broken A G j i)) i
    (not_broken A G i (suc i) (omega arith)) (λ j less. broken_next A G j i)
    ∙ at (A i)
  where
    at : (a : Bool) → (N i || some_below (λ j. N j && not (cond a (crossed G j i) (broken A G j i))) i)
        ≡ (N i || cond a (open_at G N i) (named_at A G N i))
    at true = refl
    at false = refl

open_next : (G N : ℕ → Bool) (i : ℕ) → open_at G N (suc i) ≡ (N i || (not (G i) && open_at G N i))
open_next G N i =
    here_or_before N (λ j. crossed G j (suc i)) (λ j. G i || crossed G j i) i
    (not_crossed G i (suc i) (omega arith)) (λ j less. rw (lt-ltb j i less) refl)
    ∙ at (G i)
  where
    at : (g : Bool) → (N i || some_below (λ j. N j && not (g || crossed G j i)) i)
        ≡ (N i || (not g && open_at G N i))
    at true = ap (λ b. N i || b) (none_below _ i (λ j less. and-false (N j)))
    at false = refl

-- ---- The tracker line by line.

abbrev pub open_in : List ℕ → List LineValue → ℕ → Bool
open_in name lines i = open_at (passes_at is_member lines) (passes_at (is_agent_named name) lines) i

abbrev named_in : List ℕ → List LineValue → ℕ → Bool
named_in name lines i =
    named_at (passes_at is_agent lines) (passes_at is_member lines) (passes_at (is_agent_named name) lines) i

pub record IsWalkAt (name : List ℕ) (lines : List LineValue) (i : ℕ) (tracker : GroupTracker) : Type 0 where
  pub captured : is_captured name lines i ≡ tracker.captured
  pub named : open_in name lines i ≡ tracker.named

pub walk_first : (name : List ℕ) (lines : List LineValue) → IsWalkAt name lines 0 (start_of lines)
walk_first name lines = record { captured = or-false _; named = refl }

named_on : (name : List ℕ) (lines : List LineValue) (i : ℕ) (line : LineValue)
    → slice_get lines i ≡ Some line
    → is_captured name lines (i + 1) ≡ (not (list_any is_agent lines)
    || (is_agent_named name line || cond (is_agent line) (open_in name lines i) (named_in name lines i)))
named_on name lines i line at =
    ap (is_captured name lines) (add-one i)
    ∙ ap (λ b. not (list_any is_agent lines) || b)
    (named_next (passes_at is_agent lines) (passes_at is_member lines)
    (passes_at (is_agent_named name) lines) i)
    ∙ rw at refl

open_on : (name : List ℕ) (lines : List LineValue) (i : ℕ) (line : LineValue)
    → slice_get lines i ≡ Some line
    → open_in name lines (i + 1)
    ≡ (is_agent_named name line || (not (is_member line) && open_in name lines i))
open_on name lines i line at =
    ap (open_in name lines) (add-one i)
    ∙ open_next (passes_at is_member lines) (passes_at (is_agent_named name) lines) i
    ∙ rw at refl

pub named_is_agent : (name : List ℕ) (line : LineValue) → is_agent line ≡ false
    → is_agent_named name line ≡ false
named_is_agent name line h = grind arith

pub walk_next : (name : List ℕ) (lines : List LineValue) (i : ℕ) (tracker : GroupTracker) (line : LineValue)
    → slice_get lines i ≡ Some line → IsWalkAt name lines i tracker
    → IsWalkAt name lines (i + 1) (step name tracker line)
walk_next name lines i tracker line at splits =
    grind (arith, cases_Bool, named_on, named_is_agent, open_on, some_passes)

pub drop_cons : (lines : List LineValue) (position : ℕ) (line : LineValue) (rest : List LineValue)
    → drop position lines ≡ line ∷ rest → (slice_get lines position ≡ Some line)
    × (drop (position + 1) lines ≡ rest)
drop_cons [] zero line rest h = cc
drop_cons [] (suc n) line rest h = cc
drop_cons (x ∷ lines) zero line rest h = (cc, cc)
drop_cons (x ∷ lines) (suc n) line rest h = grind (arith, drop_cons lines n line rest h)

pub cond_same : {X : Type 0} (b : Bool) (x : X) → cond b x x ≡ x
cond_same true x = refl
cond_same false x = refl

pub cond_some_iff : {X : Type 0} (b : Bool) (o : Option X) (x : X)
    → (cond b o None ≡ Some x) ↔ ((b ≡ true) × (o ≡ Some x))
cond_some_iff b o x = grind arith

pub filter_map_if : {X Y : Type 0} (keeps : Bool) (given : Y → Option X) (y : Y) (ys : List Y)
    → filter_map given (cond keeps (y ∷ ys) ys)
    ≡ cons_option (cond keeps (given y) None) (filter_map given ys)
filter_map_if keeps given y ys = grind arith

-- the state machine finds what the specification's captured lines give
captured_left : {X : Type 0} (given : ℕ × LineValue → Option X) (name : List ℕ) (all : List LineValue)
    (tracker : GroupTracker) (position : ℕ) (lines : List LineValue)
    → IsWalkAt name all position tracker → drop position all ≡ lines
    → filter_map given (filter (λ p. is_captured name all p.0) (enumerate_from position lines))
    ≡ from_captured given name tracker position lines
captured_left given name all tracker position [] splits left = refl
captured_left given name all tracker position (line ∷ lines) splits left =
    let (at, next) = drop_cons all position line lines left in
    rw splits.captured (cc (
      filter_map_if tracker.captured given (position, line) _,
      captured_left given name all (step name tracker line) (position + 1) lines
          (walk_next name all position tracker line at splits) next,
    ))

pub captured_walked : {X : Type 0} (given : ℕ × LineValue → Option X) (name : List ℕ)
    (lines : List LineValue)
    → filter_map given (captured_lines name lines) ≡ from_captured given name (start_of lines) 0 lines
captured_walked given name lines = grind (arith, captured_left, walk_first)

-- ---- What the captured lines give, without the lines' indices.

abbrev pub given_captured : {X : Type 0} → (LineValue → Option X) → List ℕ → GroupTracker → List LineValue
    → List X
given_captured given name tracker [] = []
given_captured given name tracker (line ∷ lines) =
    cons_option (if_captured tracker (given line)) (given_captured given name (step name tracker line) lines)

without_positions : {X : Type 0} (given : LineValue → Option X) (name : List ℕ) (tracker : GroupTracker)
    (position : ℕ)
    (lines : List LineValue)
    → from_captured (λ p. given p.1) name tracker position lines ≡ given_captured given name tracker lines
without_positions given name tracker position [] = refl
without_positions given name tracker position (line ∷ lines) =
    grind (arith, without_positions given name (step name tracker line) (position + 1) lines)

pub delays_walked : (agent : List ℕ) (lines : List LineValue) → captured_delays agent lines
    ≡ given_captured delay_in (group_name agent lines) (start_of lines) lines
delays_walked agent lines =
    let name = group_name agent lines in
    captured_walked (λ p. delay_in p.1) name lines ∙ without_positions delay_in name (start_of lines) 0 lines

unplaced_next : (position : ℕ) (captured : Bool) (found : Option Rule) (rest : List PlacedRule)
    → unplaced (cons_option (cond captured (placed (position + 1) found) None) rest)
    ≡ cons_option (cond captured found None) (unplaced rest)
unplaced_next position captured found rest = grind arith

unplaced_left : (name : List ℕ) (tracker : GroupTracker) (position : ℕ) (lines : List LineValue)
    → unplaced (from_captured placed_in name tracker position lines)
    ≡ given_captured rule_in name tracker lines
unplaced_left name tracker position [] = refl
unplaced_left name tracker position (line ∷ lines) =
    grind (arith, unplaced_next, unplaced_left name (step name tracker line) (position + 1) lines)

pub rules_walked : (agent : List ℕ) (lines : List LineValue)
    → rules_for agent lines ≡ given_captured rule_in (group_name agent lines) (start_of lines) lines
rules_walked agent lines = grind (arith, captured_walked, unplaced_left)
