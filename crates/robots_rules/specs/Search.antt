-- What the search for needless rules (`needless`, `lines`, `same`) keeps true: it takes rules away from a
-- crawler's, and the verdicts stay. The search for states, in `search`, has its own in `Internal`.
use Rattle.std.specs.Prelude.{◌≡◌, ◌≢◌, ◌+◌, ◌<◌, ◌≤◌, ◌⊎◌, ℕ, All, Bool, List, [], ◌++◌, drop, if◌then◌else◌}
use Rattle.std.specs.Prelude.{Contains, ◌∷◌, codes, length, map, take}
use Rattle.std.specs.{BTreeMap.BTreeMap, BTreeMap.get, Option.is_some, Ordering.nat_cmp}
use Rattle.texting_robots.specs.Callers.{IsRejected, LineValue, Matches, PlacedRule, Rule, file_bodies}
use Rattle.texting_robots.specs.Callers.{agents_in, file_lines, robots_file, rules_for, sitemaps_in, unplaced}
use Rattle.robots_rules.specs.Same.{HaveSameVerdicts}
use Rattle.robots_rules.specs.{Internal.rank_of, Blocks.left_from, Needless.MeanTheSame}
use Rattle.robots_rules.specs.declared.needless.{Reason.Reason, NeedlessRule.NeedlessRule, Outcome.Outcome}
use Rattle.robots_rules.specs.declared.needless.Outcome.TheVariants as outcomes

-- the rules that are left of these have the same verdicts
abbrev pub IsReducedTo : List PlacedRule → List PlacedRule → Type 0
IsReducedTo rules left = HaveSameVerdicts [] (unplaced rules) (unplaced left)

-- the rules but for the one at this place
abbrev pub others : ℕ → List PlacedRule → List PlacedRule
others at rules = take at rules ++ drop (at + 1) rules

-- a rule that goes changes no verdict; nothing is said of one that doesn't
abbrev pub IsOutcome : ℕ → List PlacedRule → Outcome → Type 0
IsOutcome at rules (outcomes.Goes reason) = IsReducedTo rules (others at rules)
IsOutcome at rules outcome = Unit {0}

-- the first pattern matches every text that the second one matches, except perhaps `/robots.txt`, which is
-- always allowed
abbrev pub Covers : List ℕ → List ℕ → Type 0
Covers wide narrow = (text : List ℕ) → text ≢ robots_file → Matches narrow text → Matches wide text

-- no text is matched by both patterns
abbrev pub AreApart : List ℕ → List ℕ → Type 0
AreApart one other = (text : List ℕ) → Matches one text → ¬ Matches other text

-- how many bytes a rival, a rule of the other kind, has to have at least to rank above the replacement
abbrev pub least_rival : Rule → ℕ
least_rival rule = if rule.1 then length rule.0 + 1 else length rule.0

-- The other rule is no rival, which would rank between the rule and its replacement and so have at least
-- `least` bytes: it is of the rule's kind, is shorter, ranks at least as high as the rule, or matches none of
-- its texts.
abbrev pub IsNoRival : ℕ → PlacedRule → PlacedRule → Type 0
IsNoRival least rule other = other.rule.1 ≢ rule.rule.1 → least ≤ length other.rule.0
    → rank_of other.rule < rank_of rule.rule → AreApart other.rule.0 rule.rule.0

-- The other rule ranks at least as high as the rule, or it is of the same kind and no rule of the other kind
-- that could match the same texts ranks between. If it is another one of the rules and covers the rule, the
-- rule changes no verdict.
abbrev pub Replaces : List PlacedRule → PlacedRule → PlacedRule → Type 0
Replaces rules rule other =
    (rank_of rule.rule ≤ rank_of other.rule)
    ⊎ ((other.rule.1 ≡ rule.rule.1) × All (IsNoRival (least_rival other.rule) rule) rules)

-- a reason for each line of a needless rule
abbrev pub Reasons : Type 0
Reasons = BTreeMap ℕ Reason

abbrev pub is_found : Reasons → ℕ → Bool
is_found found number = is_some (get nat_cmp found number)

abbrev pub rule_at : ℕ × Reason → NeedlessRule
rule_at entry = record { line = entry.0; reason = entry.1 }

-- a crawler, and the rules that the search leaves of its own
pub record SettledValue : Type 0 where
  pub agent : List ℕ
  pub rules : List PlacedRule

pub record IsSettled (lines : List LineValue) (settled : SettledValue) : Type 0 where
  pub accepted : ¬ IsRejected settled.agent lines
  pub same : HaveSameVerdicts [] (rules_for settled.agent lines) (unplaced settled.rules)

abbrev pub names_of : List SettledValue → List (List ℕ)
names_of all = map (λ (settled : SettledValue). settled.agent) all

-- what is left of the rules of `*` and of each crawler that the file names
pub record AreSettled (file : List ℕ) (settled : List SettledValue) : Type 0 where
  pub each : All (IsSettled (file_lines file)) settled
  pub names : (agent : List ℕ) → Contains (codes "*" ∷ agents_in (file_lines file)) agent
      → Contains (names_of settled) agent

-- there is a file with exactly the other lines, and it means the same for these crawlers
pub record IsSameWithout (found : Reasons) (settled : List SettledValue) (file : List ℕ) : Type 0 where
  pub left : List ℕ
  pub others : file_bodies left ≡ left_from (is_found found) 0 (file_bodies file)
  pub alike : All (λ one. MeanTheSame one.agent (file_lines file) (file_lines left)) settled
  pub sitemaps : sitemaps_in (file_lines file) ≡ sitemaps_in (file_lines left)
