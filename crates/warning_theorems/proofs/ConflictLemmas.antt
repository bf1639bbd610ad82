-- Warnings about closed sites and about conflicting rules.
use Rattle.std.specs.{Prelude.is_some, List.list_any, List.starts_with, Str.byte}
use Rattle.std.proofs.lemmas.Slice.Eq.{bytes_eq-Decides}
use Rattle.std.proofs.lemmas.List.Elements.{All-contains}
use Rattle.std.proofs.lemmas.List.Folds.{list_any-from_Any, Any-from_list_any, list_any_at}
use Rattle.std.proofs.Common.{rules, Some, bytes_eq, if◌then◌else◌, ◌∙◌, ◌≡◌, ℕ, ◌&&◌, ◌||◌, [], Bool, true}
use Rattle.std.proofs.Common.{false, List, ◌∷◌, Contains, append-nil, ap, arith, inl, inr, length, not, refl}
use Rattle.std.proofs.Common.{subst, sym, ◌⊎◌, None, Option, ◌≢◌, ◌<◌, ◌++◌, All, nat_eq, nat_le}
use Rattle.std.proofs.lemmas.Bool.{and_parts, not-true, or_cases, eq-eqb, false≢true}
use Rattle.texting_robots.specs.Callers.{AreRulesFor, LineValue, Matches, PlacedRule, Rule, IsDenied}
use Rattle.texting_robots.specs.Callers.{placed_rules, HoldsRule, IsDecidingLine, robots_file, unplaced}
use Rattle.robots_warnings.specs.Closed.{closes, is_exempt, is_literally, is_star_or_dollar, is_whole_site}
use Rattle.robots_warnings.specs.Closed.{is_rival, line_closing_site, matches_no_path, opened_paths}
use Rattle.robots_warnings.specs.Closed.{leaves_closed, opens_little, first_line, first_of, line_if}
use Rattle.robots_warnings.specs.{Conflicts.IsConflict, Conflicts.compared}
use Rattle.texting_robots.proofs.Shared.{placed_are_rules, placed_of, in_front, plain_segment}
use Rattle.audit_core.proofs.ReachLemmas.{whole_site_matches}
use Rattle.robots_rules.proofs.TogetherLemmas.{unplaced_of}
use Rattle.warning_theorems.proofs.WarningLemmas.{without_path}

-- ---- What `hash-in-rule` and `allowed-and-disallowed` imply.

pub also_listed : {agent : List ℕ} {lines : List LineValue} {rules others : List PlacedRule}
    → AreRulesFor agent lines rules → AreRulesFor agent lines others → (placed : PlacedRule)
    → Contains rules placed → Contains others placed
also_listed are also placed has = (also.held placed).1 ((are.held placed).0 has)

pub any_some : {X : Type 0} (f : X → Option ℕ) (xs : List X)
    → list_any (λ x. is_some (f x)) xs ≡ is_some (first_of f xs)
any_some f [] = refl
any_some f (x ∷ xs) = grind (arith, any_some f xs)

-- the second pattern matches what the first one matches, and is as long
pub Wins : (pattern other text : List ℕ) → Type 0
Wins pattern other text = (Matches pattern text → Matches other text) × (length pattern ≡ length other)

pub same_wins : (pattern other text : List ℕ) → other ≡ pattern → Wins pattern other text
unfolding Wins
same_wins pattern other text same = grind arith

root_wins : (pattern other path : List ℕ) → is_whole_site other ≡ true → length pattern ≡ length other
    → Wins pattern other (byte "/" ∷ path)
unfolding Wins
root_wins pattern other path whole long = grind (arith, whole_site_matches)

pub wins_on_paths : (pattern other path : List ℕ) → compared other ≡ compared pattern
    → Wins pattern other (byte "/" ∷ path)
wins_on_paths pattern other path same = search (rules, same_wins, root_wins)

one_rule : (agent : List ℕ) (lines : List LineValue) (place : ℕ) (rule other : Rule)
    → HoldsRule agent lines place rule → HoldsRule agent lines place other → rule ≡ other
one_rule agent lines place rule other one two = grind arith

pub conflict_never_decides : (is_empty : ℕ → Bool) (agent : List ℕ) (lines : List LineValue)
    (rules : List PlacedRule) (number other : ℕ) (text : List ℕ)
    (is : IsConflict is_empty agent lines number other) → Wins is.opposed.pattern is.opposed.allowed text
    → AreRulesFor agent lines rules → ¬ IsDecidingLine rules text (Some number)
unfolding Wins
conflict_never_decides is_empty agent lines rules number other text is wins are (
  differs,
  placed,
  decides,
  at,
) =
    let two = is.opposed in
    let (here, on, holds) = (are.held placed).0 decides.listed in
    let (there, also, denies) = (are.held _).0 (also_listed is.are are _ two.disallow) in
    let place : here ≡ there = omega arith in
    let same = one_rule agent lines there placed.rule (two.pattern, false)
    (subst (λ place. HoldsRule agent lines place placed.rule) place holds) denies in
    decides.best (record { rule = (two.allowed, true); line = other })
    (also_listed is.are are _ two.allow)
    (wins.0 (subst (λ (rule : Rule). Matches rule.0 text) same decides.matches))
    (grind arith)

-- ---- What `closed-site` implies.

line_given : (test : PlacedRule → Bool) (placed : PlacedRule) → is_some (line_if test placed) ≡ test placed
line_given test placed = grind arith

none_at : {X : Type 0} (test : X → Bool) (xs : List X) → list_any test xs ≡ false
    → All (λ x. test x ≡ false) xs
none_at test xs none k d below = grind (arith, list_any_at)

is_shorter : (n m : ℕ) → nat_le n m ≡ false → m < n
is_shorter n m isnt = grind arith

pub closed_denies : (leaves : List ℕ → Bool) (agent : List ℕ) (lines : List LineValue)
    (rules : List PlacedRule) (text : List ℕ)
    → is_some (first_line (closes leaves (placed_rules agent lines)) (placed_rules agent lines))
    ≡ true
    → AreRulesFor agent lines rules
    → byte "/" ∷ text ≢ robots_file
    → ((pattern : List ℕ) → Contains (unplaced rules) (pattern, true) → leaves pattern ≡ true
    → ¬ Matches pattern (byte "/" ∷ text))
    → IsDenied (unplaced rules) (byte "/" ∷ text)
closed_denies leaves agent lines rules text is are differs opens =
    let all = placed_rules agent lines in
    let test = closes leaves all in
    let (k, placed, below, at, some) =
    Any-from_list_any (λ placed. is_some (line_if test placed)) all (any_some (line_if test) all ∙ is) in
    let (closing, alone) = and_parts _ _ (sym (line_given test placed) ∙ some) in
    let (denies, whole) = and_parts _ _ closing in
    let own = placed_are_rules agent lines in (
      differs,
      placed.rule.0,
      subst (λ (b : Bool). Contains (unplaced rules) (placed.rule.0, b)) (not-true _ denies)
          (unplaced_of rules placed (also_listed own are placed (k, below, at))),
      whole_site_matches placed.rule.0 text whole,
      λ pattern has matches.
          let (allow, listed, same) = placed_of rules (pattern, true) has in
          let isnt = All-contains (λ other. is_rival leaves placed.rule.0 other ≡ false) all allow
          (none_at (is_rival leaves placed.rule.0) all (not-true _ alone))
          (also_listed are own allow listed) in
          grind (arith, shorter),
    )
  where
    shorter : (n : ℕ) (pattern : List ℕ) → Contains (unplaced rules) (pattern, true)
        → Matches pattern (byte "/" ∷ text)
        → ((true && not (leaves pattern || matches_no_path pattern)) && nat_le n (length pattern)) ≡ false
        → (leaves pattern ≡ true) ⊎ (leaves pattern ≡ false)
        → (matches_no_path pattern ≡ true) ⊎ (matches_no_path pattern ≡ false) → length pattern < n
    shorter n pattern has matches isnt (inl exempt) _ = absurd (opens pattern has exempt matches)
    shorter n pattern has matches isnt (inr stated) (inl never) =
        absurd (without_path pattern text never matches)
    shorter n pattern has matches isnt (inr stated) (inr may) =
        is_shorter n (length pattern) (rw (stated, may) at isnt)

starts : (path text : List ℕ) → starts_with nat_eq (path ++ text) path ≡ true
starts [] text = refl
starts (b ∷ path) text = rw (eq-eqb b b refl) (starts path text)

literally_starts : (pattern path text : List ℕ) → is_literally pattern path ≡ true → Matches pattern text
    → starts_with nat_eq text path ≡ true
literally_starts pattern path text is matches =
    let (none, same) = and_parts _ _ is in
    elim (or_cases (bytes_eq path pattern) _ same) [
      | inl whole ↦
          by (not-true _ none) []
          (grind (arith, bytes_eq-Decides, append-nil))
      | inr ended ↦
          grind (arith, bytes_eq-Decides, by)
    ]
  where
    by : list_any is_star_or_dollar path ≡ false → (rest : List ℕ) → Matches (path ++ rest) text
        → starts_with nat_eq text path ≡ true
    by none rest matches =
        let all = plain_segment path (none_at is_star_or_dollar path none) in
        let (after, is, _) = (in_front true path rest text all).0 matches in rw is (starts path after)

closed_by : (other : Bool) (line : Option ℕ) {number : ℕ} → (if other then None else line) ≡ Some number
    → line ≡ Some number
closed_by true line is = cc
closed_by false line is = is

pub closed_site : (agent : List ℕ) (lines : List LineValue) (rules : List PlacedRule) (number : ℕ)
    (text : List ℕ) → line_closing_site lines agent ≡ Some number → AreRulesFor agent lines rules
    → list_any (starts_with nat_eq (byte "/" ∷ text)) (opened_paths lines) ≡ false
    → ((pattern : List ℕ) → Contains (unplaced rules) (pattern, true) → opens_little pattern ≡ true
    → ¬ Matches pattern (byte "/" ∷ text))
    → IsDenied (unplaced rules) (byte "/" ∷ text)
closed_site agent lines rules number text is are none opens =
    closed_denies (leaves_closed (is_exempt lines)) agent lines rules text
    (ap is_some (closed_by _ _ is)) are
    (grind arith)
    (λ pattern has exempt matches. elim (or_cases (is_exempt lines pattern) _ exempt) [
      | inl listed ↦
          let (k, path, below, at, literal) =
          Any-from_list_any (is_literally pattern) (opened_paths lines) listed in
          false≢true (sym none ∙ within path (k, below, at) (literally_starts pattern path _ literal matches))
      | inr little ↦ opens pattern has little matches
    ])
  where
    within : (path : List ℕ) → Contains (opened_paths lines) path
        → starts_with nat_eq (byte "/" ∷ text) path ≡ true
        → list_any (starts_with nat_eq (byte "/" ∷ text)) (opened_paths lines) ≡ true
    within path (k, below, at) begins =
        list_any-from_Any (starts_with nat_eq (byte "/" ∷ text)) (opened_paths lines)
        (k, path, below, at, begins)
