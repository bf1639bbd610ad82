-- What is computed from lines is what they give: rules, delays and sitemaps.
use Rattle.std.specs.Prelude.{IsTrue, filter}
use Rattle.std.proofs.Common.{◌≡◌, ◌↔◌, inl, inr, ℕ, zero, suc, ◌+◌, ◌<◌, ◌≤◌, Bool, true, false, cond, List}
use Rattle.std.proofs.Common.{[], ◌∷◌, Option, Some, None, refl, sym, ap, ◌∙◌, arith, zero-add, ◌⊎◌}
use Rattle.std.proofs.{Common.slice_get, lemmas.Bool.cases_Bool, lemmas.Option.slice_get_within}
use Rattle.std.specs.{Option.option_or, Str.is_utf8}
use Rattle.std.specs.List.{cons_option, enumerate_from, filter_map, last_or, Contains}
use Rattle.texting_robots.specs.Executable.{captured_delays, delay_before_agents, delay_for, sitemap_in}
use Rattle.texting_robots.specs.Executable.{sitemaps_in, placed_in, placed_rules, rule_in, rule_with}
use Rattle.texting_robots.specs.Group.{group_name, is_agent, passes_at}
use Rattle.texting_robots.specs.Line.{LineValue, CrawlDelay, delay_in, Allow, Disallow}
use Rattle.texting_robots.specs.Rules.{AreSitemapsOf, IsCapturedDelay, IsDelayFor, IsEarlyDelay, IsFirst}
use Rattle.texting_robots.specs.Rules.{IsLast, ListsSitemap, Nowhere, HoldsRule, IsCapturedAt, PlacedRule}
use Rattle.texting_robots.specs.{Internal.Captured.is_captured, Escape.escaped, Internal.Group.placed}
use Rattle.texting_robots.proofs.CapturedLemmas.{cond_some_iff, is_captured_decides, filter_map_if}
use Rattle.texting_robots.proofs.CapturedLemmas.{some_passes}
use Rattle.texting_robots.proofs.RulesLemmas.{before_agent, before_agents, last_or_cons, option_or_none}

-- ---- The computed delay and sitemaps of a crawler are those of the specification.

abbrev FirstAt : (ℕ → ℕ → Type 0) → Option ℕ → Type 0
FirstAt P None = Nowhere P
FirstAt P (Some n) = IsFirst P n

abbrev LastOf : (ℕ → ℕ → Type 0) → Option ℕ → Type 0
LastOf P None = Nowhere P
LastOf P (Some n) = IsLast P n

-- at index 0, `P` finds `here`; at later indices it finds what `Q` finds one index earlier
record Step (P Q : ℕ → ℕ → Type 0) (here : Option ℕ) : Type 0 where
  at : (n : ℕ) → P 0 n ↔ here ≡ Some n
  later : (k n : ℕ) → P (suc k) n ↔ Q k n

nowhere_next : (P Q : ℕ → ℕ → Type 0) → Step P Q None → Nowhere Q → Nowhere P
nowhere_next P Q step none zero n is = let k = (step.at n).0 is in cc
nowhere_next P Q step none (suc k) n is = none k n ((step.later k n).0 is)

first_next : (P Q : ℕ → ℕ → Type 0) (here found : Option ℕ) → Step P Q here → FirstAt Q found
    → FirstAt P (option_or here found)
first_next P Q (Some n) found step is = grind arith
first_next P Q None None step is = nowhere_next P Q step is
first_next P Q None (Some n) step (position, is, least) =
    (suc position, (step.later position n).1 is, sooner)
  where
    sooner : (other m : ℕ) → P other m → suc position ≤ other
    sooner zero m has = let k = (step.at m).0 has in cc
    sooner (suc other) m has = let k = least other m ((step.later other m).0 has) in omega arith

last_next : (P Q : ℕ → ℕ → Type 0) (here found : Option ℕ) → Step P Q here → LastOf Q found
    → LastOf P (option_or found here)
last_next P Q here (Some n) step (position, is, greatest) = (
  suc position,
  (step.later position n).1 is,
  before,
)
  where
    before : (other m : ℕ) → P other m → other ≤ suc position
    before zero m has = omega arith
    before (suc other) m has = let k = greatest other m ((step.later other m).0 has) in omega arith
last_next P Q None None step none = nowhere_next P Q step none
last_next P Q (Some h) None step none = (0, (step.at h).1 refl, first)
  where
    first : (other m : ℕ) → P other m → other ≤ 0
    first zero m has = omega arith
    first (suc other) m has = absurd (none other m ((step.later other m).0 has))

first_same : (P Q : ℕ → ℕ → Type 0) (found : Option ℕ) → ((k n : ℕ) → P k n ↔ Q k n)
    → FirstAt P found
    → FirstAt Q found
first_same P Q found same none = grind arith

a_delay : (line : LineValue) (delay : ℕ) → delay_in line ≡ Some delay
    → line ≡ CrawlDelay (Some delay)
a_delay line delay is = grind arith

abbrev DelayAt : (ℕ → Bool) → ℕ → List LineValue → ℕ → ℕ → Type 0
DelayAt test n lines k delay = (slice_get lines k ≡ Some (CrawlDelay (Some delay)))
    × (test (n + k) ≡ true)

abbrev tested : (ℕ → Bool) → ℕ → LineValue → Option ℕ
tested test n line = cond (test n) (delay_in line) None

delay_step : (test : ℕ → Bool) (n : ℕ) (line : LineValue) (lines : List LineValue)
    → Step (DelayAt test n (line ∷ lines)) (DelayAt test (n + 1) lines) (tested test n line)
delay_step test n line lines = grind (arith, a_delay, cond_some_iff)

first_given : (o : Option ℕ) (rest : List ℕ)
    → slice_get (cons_option o rest) 0 ≡ option_or o (slice_get rest 0)
first_given o rest = grind arith

delays_from : (test : ℕ → Bool) (n : ℕ) (lines : List LineValue) → FirstAt (DelayAt test n lines)
    (slice_get (filter_map (λ p. delay_in p.1) (filter (λ p. test p.0) (enumerate_from n lines))) 0)
delays_from test n [] = grind (arith, slice_get_within)
delays_from test n (line ∷ lines) =
    rw (filter_map_if (test n) (λ (p : ℕ × LineValue). delay_in p.1) (n, line), first_given)
    (first_next _ _ _ _ (delay_step test n line lines) (delays_from test (n + 1) lines))

captured_first : (agent : List ℕ) (lines : List LineValue)
    → FirstAt (IsCapturedDelay agent lines) (slice_get (captured_delays agent lines) 0)
captured_first agent lines =
    let name = group_name agent lines in
    first_same (DelayAt (is_captured name lines) 0 lines) _ _
    (grind (arith, is_captured_decides, zero-add, lines))
    (delays_from (is_captured name lines) 0 lines)

abbrev BeforeAgents : List LineValue → ℕ → ℕ → Type 0
BeforeAgents lines k delay =
    (slice_get lines k ≡ Some (CrawlDelay (Some delay)))
    × ((j : ℕ) → j < k → ¬ IsTrue (passes_at is_agent lines j))

before_step : (line : LineValue) (lines : List LineValue) → is_agent line ≡ false
    → Step (BeforeAgents (line ∷ lines)) (BeforeAgents lines) (delay_in line)
before_step line lines isnt = record {
  at = grind (arith, a_delay);
  later = λ k delay. (
    λ (is, none). (is, λ j less. none (suc j) (omega arith)),
    λ (is, none). (is, following none),
  );
}
  where
    following : {k : ℕ} → ((j : ℕ) → j < k → ¬ IsTrue (passes_at is_agent lines j))
        → (j : ℕ) → j < suc k → ¬ IsTrue (passes_at is_agent (line ∷ lines) j)
    following none zero less is = cc
    following none (suc j) less is = none j (omega arith) is

last_some : (x : ℕ) (xs : List ℕ) → (n : ℕ) × (last_or (Some x) xs ≡ Some n)
last_some x [] = (x, refl)
last_some x (y ∷ xs) = last_some y xs

last_given : (o : Option ℕ) (xs : List ℕ) → last_or o xs ≡ option_or (last_or None xs) o
last_given o [] = refl
last_given o (x ∷ xs) = rw (last_some x xs).1 refl

last_before : (lines : List LineValue)
    → LastOf (BeforeAgents lines) (last_or None (filter_map delay_in (before_agent lines)))
last_before [] = grind (arith, slice_get_within)
last_before (line ∷ lines) = elim (cases_Bool (is_agent line)) [
  | inl agent ↦ rw agent (none agent)
  | inr other ↦ rw (other, last_or_cons, option_or_none, last_given)
      (last_next _ _ _ _ (before_step line lines other) (last_before lines))
]
  where
    none : is_agent line ≡ true → Nowhere (BeforeAgents (line ∷ lines))
    none agent zero delay (is, early) =
        let same : line ≡ CrawlDelay (Some delay) = cc in
        let other = rw same at agent in cc
    none agent (suc k) delay (is, early) = early 0 (omega arith) agent

early : (lines : List LineValue) (at : ℕ) → passes_at is_agent lines at ≡ true → (k delay : ℕ)
    → BeforeAgents lines k delay → IsEarlyDelay lines k delay
early lines at agent k delay (is, none) = grind arith

last_early : (lines : List LineValue) → LastOf (IsEarlyDelay lines) (delay_before_agents lines)
last_early lines = grind (arith, before_agents, cases_Bool, early, last_before, some_passes)

is_delay_for : (agent : List ℕ) (lines : List LineValue) (first last : Option ℕ)
    → FirstAt (IsCapturedDelay agent lines) first → LastOf (IsEarlyDelay lines) last
    → IsDelayFor agent lines (option_or first last)
is_delay_for agent lines first last is early = grind arith

one_delay : (lines : List LineValue) (p q a b : ℕ) → p ≤ q → q ≤ p
    → slice_get lines p ≡ Some (CrawlDelay (Some a)) → slice_get lines q ≡ Some (CrawlDelay (Some b))
    → ◌≡◌ {A = Option ℕ} (Some a) (Some b)
one_delay lines p q a b low high one two = grind arith

one_first : (agent : List ℕ) (lines : List LineValue) (a b : ℕ)
    → IsFirst (IsCapturedDelay agent lines) a → IsFirst (IsCapturedDelay agent lines) b
    → ◌≡◌ {A = Option ℕ} (Some a) (Some b)
one_first agent lines a b (p, is, least) (q, has, lowest) =
    one_delay lines p q a b (least q b has) (lowest p a is) is.0 has.0

one_last : (lines : List LineValue) (a b : ℕ) → IsLast (IsEarlyDelay lines) a
    → IsLast (IsEarlyDelay lines) b → ◌≡◌ {A = Option ℕ} (Some a) (Some b)
one_last lines a b (p, is, greatest) (q, has, highest) =
    one_delay lines p q a b (highest p a is) (greatest q b has) is.0 has.0

one_delay_for : (agent : List ℕ) (lines : List LineValue) (one two : Option ℕ)
    → IsDelayFor agent lines one
    → IsDelayFor agent lines two → one ≡ two
one_delay_for agent lines (Some a) (Some b) (inl one) (inl two) = one_first agent lines a b one two
one_delay_for agent lines (Some a) (Some b) (inl one) (inr two) = absurd (two.0 one.0 a one.1)
one_delay_for agent lines (Some a) (Some b) (inr one) (inl two) = absurd (one.0 two.0 b two.1)
one_delay_for agent lines (Some a) (Some b) (inr one) (inr two) = one_last lines a b one.1 two.1
one_delay_for agent lines (Some a) None (inl one) two = absurd (two.0 one.0 a one.1)
one_delay_for agent lines (Some a) None (inr one) two = absurd (two.1 one.1.0 a one.1.1)
one_delay_for agent lines None (Some b) one (inl two) = absurd (one.0 two.0 b two.1)
one_delay_for agent lines None (Some b) one (inr two) = absurd (one.1 two.1.0 b two.1.1)
one_delay_for agent lines None None one two = refl

pub delay_is_computed : (agent : List ℕ) (lines : List LineValue) (delay : Option ℕ)
    → IsDelayFor agent lines delay ↔ delay ≡ delay_for agent lines
delay_is_computed agent lines delay =
    let is = is_delay_for agent lines _ _ (captured_first agent lines) (last_early lines) in
    grind (arith, one_delay_for)

abbrev Lists : LineValue → Option (List ℕ) → Type 0
Lists line None = (sitemap : List ℕ) → ¬ ListsSitemap line sitemap
Lists line (Some sitemap) = ListsSitemap line sitemap

listed : (line : LineValue) → Lists line (sitemap_in line)
listed line = grind arith

are_sitemaps : (lines : List LineValue) → AreSitemapsOf lines (sitemaps_in lines)
are_sitemaps [] = refl
are_sitemaps (line ∷ lines) = grind (arith, listed, are_sitemaps lines)

one_sitemaps : (lines : List LineValue) (one two : List (List ℕ)) → AreSitemapsOf lines one
    → AreSitemapsOf lines two → one ≡ two
one_sitemaps [] one two is has = is ∙ sym has
one_sitemaps (line ∷ lines) one two (inl (a, later, lists, are, is)) (inl (b, rest, other, have, has)) =
    grind (arith, one_sitemaps lines later rest are have)
one_sitemaps (line ∷ lines) one two (inl (a, later, lists, are, is)) (inr have) = absurd (have.0 a lists)
one_sitemaps (line ∷ lines) one two (inr are) (inl (b, rest, lists, have, has)) = absurd (are.0 b lists)
one_sitemaps (line ∷ lines) one two (inr are) (inr have) = one_sitemaps lines one two are.1 have.1

pub sitemaps_are_computed : (lines : List LineValue) (sitemaps : List (List ℕ))
    → AreSitemapsOf lines sitemaps ↔ sitemaps ≡ sitemaps_in lines
sitemaps_are_computed lines sitemaps = (
  λ are. one_sitemaps lines _ _ are (are_sitemaps lines),
  λ same. rw same (are_sitemaps lines),
)

-- ---- The computed rules are those that the lines hold.

-- what is given by the lines whose index passes a test; the first line has index `n`
abbrev pub given_from : {X : Type 0} → (ℕ × LineValue → Option X) → (ℕ → Bool) → ℕ → List LineValue → List X
given_from given test n lines = filter_map given (filter (λ p. test p.0) (enumerate_from n lines))

abbrev pub Gives : {X : Type 0} → (ℕ × LineValue → Option X) → (ℕ → Bool) → ℕ → List LineValue → X → Type 0
Gives given test n lines found =
    (k : ℕ) × (position : ℕ) × (line : LineValue) × (position ≡ n + k) × (slice_get lines k ≡ Some line)
    × (cond (test position) (given (position, line)) None ≡ Some found)

cons_has : {X : Type 0} (o : Option X) (xs : List X) (x : X)
    → Contains (cons_option o xs) x ↔ ((o ≡ Some x) ⊎ Contains xs x)
cons_has None xs x = grind arith
cons_has {X} (Some y) xs x = (to, from)
  where
    to : Contains (y ∷ xs) x → (Some y ≡ Some x) ⊎ Contains xs x
    to (zero, below, at) = inl (ap (λ z. Some z) at)
    to (suc k, below, at) = inr (k, omega arith, at)

    from : (Some y ≡ Some x) ⊎ Contains xs x → Contains (y ∷ xs) x
    from (inl is) = (0, omega arith, cc)
    from (inr (k, below, at)) = (suc k, omega arith, at)

module _ {X : Type 0} (given : ℕ × LineValue → Option X) (test : ℕ → Bool) (n : ℕ) (line : LineValue)
    (lines : List LineValue) (found : X)
    (later : Contains (given_from given test (n + 1) lines) found
    ↔ Gives given test (n + 1) lines found) where
  abbrev ComesNext : Type 0
  ComesNext = (cond (test n) (given (n, line)) None ≡ Some found)
      ⊎ Contains (given_from given test (n + 1) lines) found

  there : ComesNext → Gives given test n (line ∷ lines) found
  there (inl is) = (0, n, line, omega arith, refl, is)
  there (inr has) =
      let (k, position, other, far, at, is) = later.0 has in (suc k, position, other, omega arith, at, is)

  back : Gives given test n (line ∷ lines) found → ComesNext
  back h = grind arith

pub given_come : {X : Type 0} (given : ℕ × LineValue → Option X) (test : ℕ → Bool) (n : ℕ)
    (lines : List LineValue) (found : X)
    → Contains (given_from given test n lines) found ↔ Gives given test n lines found
given_come given test n [] found = grind arith
given_come given test n (line ∷ lines) found =
    let later = given_come given test (n + 1) lines found in
    let here = cond (test n) (given (n, line)) None in
    let (to, from) = cons_has here (given_from given test (n + 1) lines) found in
    rw (filter_map_if (test n) given (n, line)) (
      λ has. there given test n line lines found later (to has),
      λ gives. from (back given test n line lines found later gives),
    )

module _ (agent : List ℕ) (lines : List LineValue) (position : ℕ) (found : PlacedRule) where
  abbrev IsHeld : Type 0
  IsHeld = (found.line ≡ position + 1) × HoldsRule agent lines position found.rule

  value_holds : (value : List ℕ) (is_allow : Bool)
      → IsCapturedAt agent lines position (cond is_allow (Allow value) (Disallow value))
      → placed (position + 1) (rule_with value is_allow) ≡ Some found → IsHeld
  value_holds value is_allow at is = grind (arith, cases_Bool)

  line_holds : (line : LineValue) → IsCapturedAt agent lines position line
      → placed (position + 1) (rule_in line) ≡ Some found → IsHeld
  line_holds line at is = grind (arith, value_holds)

  rule_given : (value : List ℕ) (is_allow : Bool) → is_utf8 value ≡ true
      → rule_in (cond is_allow (Allow value) (Disallow value)) ≡ Some (escaped value, is_allow)
  rule_given value is_allow text = grind arith

  held_given : (holds : HoldsRule agent lines position found.rule) → found.line ≡ position + 1
      → placed_in (position, cond found.rule.1 (Allow holds.value) (Disallow holds.value)) ≡ Some found
  held_given holds number = grind (arith, rule_given)

pub placed_held : (agent : List ℕ) (lines : List LineValue) (found : PlacedRule)
    → Contains (placed_rules agent lines) found
    ↔ ((position : ℕ) × (found.line ≡ position + 1) × HoldsRule agent lines position found.rule)
placed_held agent lines found =
    let test = is_captured (group_name agent lines) lines in
    let decides = is_captured_decides (group_name agent lines) lines in
    let (to, from) = given_come placed_in test 0 lines found in (
      grind (arith, cond_some_iff, to, test, decides),
      λ (position, number, holds).
          let given = held_given agent lines position found holds number in
          let passes = (decides position).1 holds.line.1 in
          grind (arith, cond_some_iff, test, from),
    )
