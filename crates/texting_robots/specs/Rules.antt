-- What applies to a crawler of the lines of a file, by their positions, counted from 0.
use Rattle.std.specs.Prelude.{Bool, Option, AllPairs, Contains, IsTrue, slice_get, if◌then◌else◌, option_map}
use Rattle.std.specs.Prelude.{◌≡◌, ◌≢◌, ◌⊎◌, ◌↔◌, ℕ, ◌+◌, ◌<◌, ◌≤◌, All, List, [], ◌∷◌, ◌++◌, Some, None, map}
use Rattle.std.specs.{Str.is_utf8}
use Rattle.texting_robots.specs.{Escape.escaped, Pattern.IsOverlong}
use Rattle.texting_robots.specs.Group.{IsCaptured, group_name, is_agent, passes_at}
use Rattle.texting_robots.specs.Line.{Allow, CrawlDelay, Disallow, LineValue, Sitemap}

-- the line is at the position, and is captured for the crawler, that is, applies to it
abbrev pub IsCapturedAt : List ℕ → List LineValue → ℕ → LineValue → Type 0
IsCapturedAt agent lines position line =
    (slice_get lines position ≡ Some line) × IsCaptured (group_name agent lines) lines position

-- a pattern, and whether it allows
abbrev pub Rule : Type 0
Rule = List ℕ × Bool

-- a rule, and the number of its line, counted from 1
pub record PlacedRule : Type 0 where
  pub rule : Rule
  pub line : ℕ

abbrev pub placed : ℕ → Option Rule → Option PlacedRule
placed line rule = option_map (λ (r : Rule). record { rule = r; line = line }) rule

abbrev pub unplaced : List PlacedRule → List Rule
unplaced rules = map (λ (placed : PlacedRule). placed.rule) rules

-- the line at the position is captured, and is an Allow or a Disallow, as the rule is; its value is UTF-8,
-- and the pattern of the rule is the escaped value
pub record HoldsRule (agent : List ℕ) (lines : List LineValue) (position : ℕ) (rule : Rule) : Type 0 where
  pub value : List ℕ
  pub line : IsCapturedAt agent lines position (if rule.1 then Allow value else Disallow value)
  pub utf8 : IsTrue (is_utf8 value)
  pub pattern : rule.0 ≡ escaped value

-- these are the rules that the lines hold for the crawler, each with its line, and no line twice
pub record AreRulesFor (agent : List ℕ) (lines : List LineValue) (rules : List PlacedRule) : Type 0 where
  pub held : (placed : PlacedRule) → Contains rules placed
      ↔ ((position : ℕ) × (placed.line ≡ position + 1) × HoldsRule agent lines position placed.rule)
  pub once : AllPairs (λ (one other : PlacedRule). one.line ≢ other.line) rules

-- the first overlong rule is in the line with this number
pub record IsFirstOverlong (rules : List PlacedRule) (number : ℕ) : Type 0 where
  pub front : List PlacedRule
  pub placed : PlacedRule
  pub back : List PlacedRule
  pub whole : rules ≡ front ++ placed ∷ back
  pub accepted : All (λ (other : PlacedRule). ¬ IsOverlong other.rule.0) front
  pub overlong : IsOverlong placed.rule.0
  pub line : placed.line ≡ number

-- some line holds an overlong rule for the crawler
abbrev pub IsRejected : List ℕ → List LineValue → Type 0
IsRejected agent lines =
    (position : ℕ) × (rule : Rule) × HoldsRule agent lines position rule × IsOverlong rule.0

-- P holds for the number at some position, and at no earlier position for any number
abbrev pub IsFirst : (ℕ → ℕ → Type 0) → ℕ → Type 0
IsFirst P number = (position : ℕ) × P position number × ((other n : ℕ) → P other n → position ≤ other)

abbrev pub IsLast : (ℕ → ℕ → Type 0) → ℕ → Type 0
IsLast P number = (position : ℕ) × P position number × ((other n : ℕ) → P other n → other ≤ position)

abbrev pub Nowhere : (ℕ → ℕ → Type 0) → Type 0
Nowhere P = (position n : ℕ) → ¬ P position n

-- a captured delay of this many microseconds
abbrev pub IsCapturedDelay : List ℕ → List LineValue → ℕ → ℕ → Type 0
IsCapturedDelay agent lines position delay = IsCapturedAt agent lines position (CrawlDelay (Some delay))

-- a delay above the first user-agent line, which exists
abbrev pub IsEarlyDelay : List LineValue → ℕ → ℕ → Type 0
IsEarlyDelay lines position delay =
    (slice_get lines position ≡ Some (CrawlDelay (Some delay)))
    × ((k : ℕ) → k < position → ¬ IsTrue (passes_at is_agent lines k))
    × (k : ℕ) × (position < k) × IsTrue (passes_at is_agent lines k)

-- the first captured delay; if there is none, the last one above the first user-agent line
abbrev pub IsDelayFor : List ℕ → List LineValue → Option ℕ → Type 0
IsDelayFor agent lines (Some delay) =
    IsFirst (IsCapturedDelay agent lines) delay
    ⊎ (Nowhere (IsCapturedDelay agent lines) × IsLast (IsEarlyDelay lines) delay)
IsDelayFor agent lines None = Nowhere (IsCapturedDelay agent lines) × Nowhere (IsEarlyDelay lines)

abbrev pub ListsSitemap : LineValue → List ℕ → Type 0
ListsSitemap line sitemap = (line ≡ Sitemap sitemap) × IsTrue (is_utf8 sitemap)

-- these are the sitemaps that the lines list, in order
abbrev pub AreSitemapsOf : List LineValue → List (List ℕ) → Type 0
AreSitemapsOf [] sitemaps = sitemaps ≡ []
AreSitemapsOf (line ∷ lines) sitemaps =
    ((first : List ℕ) × (later : List (List ℕ)) × ListsSitemap line first × AreSitemapsOf lines later
    × (sitemaps ≡ first ∷ later))
    ⊎ (((sitemap : List ℕ) → ¬ ListsSitemap line sitemap) × AreSitemapsOf lines sitemaps)

abbrev pub HasNoRulesOrSitemaps : List ℕ → List LineValue → Type 0
HasNoRulesOrSitemaps agent lines = AreRulesFor agent lines [] × AreSitemapsOf lines []
