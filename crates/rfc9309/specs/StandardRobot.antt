-- What the library makes of a file in the grammar.
use Rattle.std.specs.Prelude.{◌≡◌, ℕ, true, false, List, [], ◌∷◌, codes, Any, Bool, IsPermutation, Some}
use Rattle.std.specs.Prelude.{Option, None, filter, flat_map, map, slice_get}
use Rattle.texting_robots.specs.{Escape.escaped, Rules.Rule, Trim.IsTrimOf, Delay.IsDelay, Pattern.IsOverlong}
use Rattle.texting_robots.specs.{Robot.RobotValue, Rules.PlacedRule, Rules.unplaced}
use Rattle.std.specs.{List.AllZip, List.last_or, Option.option_or}
use Rattle.rfc9309.specs.Rfc9309 as rfc

-- How a rule is read: its pattern is trimmed of Unicode white space and escaped. An empty Disallow becomes an
-- Allow of `/`.
abbrev pub IsReadAs : rfc.Member → Rule → Type 0
IsReadAs (rfc.Allow pattern) rule =
    (value : List ℕ) × IsTrimOf value pattern × (rule ≡ (escaped value, true))
IsReadAs (rfc.Disallow []) rule = rule ≡ (codes "/", true)
IsReadAs (rfc.Disallow (b ∷ pattern)) rule =
    (value : List ℕ) × IsTrimOf value (b ∷ pattern) × (rule ≡ (escaped value, false))
IsReadAs (rfc.Delay number) rule = ⊥

abbrev pub is_delay : rfc.Member → Bool
is_delay (rfc.Delay number) = true
is_delay _ = false

-- the delays of the crawler's groups, in order
abbrev pub delays_for : List ℕ → List rfc.Group → List rfc.Member
delays_for agent groups = filter is_delay (flat_map (λ group. group.members) (rfc.groups_for agent groups))

-- the first delay of the crawler's groups, or else the last one above all groups; in a file without groups
-- the first one
abbrev pub delay_among : List ℕ → List rfc.Group → List rfc.Member → Option rfc.Member
delay_among agent [] above = slice_get above 0
delay_among agent (group ∷ groups) above =
    option_or (slice_get (delays_for agent (group ∷ groups)) 0) (last_or None above)

-- the member is a delay of so many microseconds
abbrev pub IsDelayOf : rfc.Member → ℕ → Type 0
IsDelayOf (rfc.Delay number) micros = IsDelay number (Some micros)
IsDelayOf _ micros = ⊥

-- the delay in microseconds, if there is one, is that of the member
abbrev pub IsDelayAs : Option rfc.Member → Option ℕ → Type 0
IsDelayAs None delay = delay ≡ None
IsDelayAs (Some member) delay = (micros : ℕ) × IsDelayOf member micros × (delay ≡ Some micros)

-- The robot has what the file states for the crawler, where the file has these groups, these delays above
-- them, and these sitemaps.
-- - `rules`: its rules, in some order, are those of the crawler's groups, as `IsReadAs` states;
-- - `delay`: its delay is the one that counts;
-- - `sitemaps`: its sitemaps are the addresses, trimmed, in order.
pub record IsRobotAs (agent : List ℕ) (groups : List rfc.Group) (numbers addresses : List (List ℕ))
    (robot : RobotValue) : Type 0 where
  pub rules : (placed : List PlacedRule) × IsPermutation placed robot.rules
      × AllZip IsReadAs (rfc.rules_for agent groups) (unplaced placed)
  pub delay : IsDelayAs (delay_among agent groups (map rfc.Delay numbers)) robot.delay
  pub sitemaps : AllZip IsTrimOf robot.sitemaps addresses

-- one of the crawler's rules is too long
abbrev pub IsRejectedAs : List ℕ → List rfc.Group → Type 0
IsRejectedAs agent groups = (rules : List Rule) × AllZip IsReadAs (rfc.rules_for agent groups) rules
    × Any (λ (rule : Rule). IsOverlong rule.0) rules
