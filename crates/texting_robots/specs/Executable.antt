-- The relations as functions, for contracts that are equations. Theorems state that both agree, such as
-- `each_text_has_one_cut`. The contracts of a robot depend on none of them but those of `IsRejectionOf`.
use Rattle.std.specs.Prelude.{⊤, ℕ, ◌+◌, Bool, true, false, List, Option, Some, None, filter, map, slice_get}
use Rattle.std.specs.Prelude.{take, if◌then◌else◌}
use Rattle.std.specs.List.{before_first, enumerate_from, filter_map, last_or, list_any}
use Rattle.std.specs.{Option.option_or, Str.is_utf8}
use Rattle.texting_robots.specs.{Group.group_name, Group.is_agent, Escape.escaped, Robot.IsFileRejected}
use Rattle.texting_robots.specs.{Robot.file_limit, declared.error.RobotError.RobotError}
use Rattle.texting_robots.specs.declared.error.RobotError.TheVariants.{Memory, Overlong}
use Rattle.texting_robots.specs.Line.{LineValue, Allow, Disallow, Sitemap, delay_in, nul_as_lf, without_bom}
use Rattle.texting_robots.specs.Rules.{IsFirstOverlong, PlacedRule, Rule, placed, unplaced}
use Rattle.texting_robots.specs.Internal.{Captured.is_captured, Cut.bodies_of, Line.lines_of}
pub use Rattle.texting_robots.specs.Internal.{Cut.cut, Delay.delay_of, Captured.is_captured}

abbrev pub parsed : List ℕ → List LineValue
parsed text = lines_of (without_bom text)

-- the lines of a file, in which each NUL is read as LF
abbrev pub file_lines : List ℕ → List LineValue
file_lines text = parsed (map nul_as_lf text)

abbrev pub file_bodies : List ℕ → List (List ℕ)
file_bodies text = bodies_of (without_bom (map nul_as_lf text))

abbrev pub lines_read : List ℕ → List LineValue
lines_read file = file_lines (take file_limit file)

abbrev pub bodies_read : List ℕ → List (List ℕ)
bodies_read file = file_bodies (take file_limit file)

abbrev pub rule_with : List ℕ → Bool → Option Rule
rule_with value is_allow = if is_utf8 value then Some (escaped value, is_allow) else None

abbrev pub rule_in : LineValue → Option Rule
rule_in (Allow value) = rule_with value true
rule_in (Disallow value) = rule_with value false
rule_in _ = None

-- the captured lines, each with its position, counted from 0; only rules and delays have an effect
abbrev pub captured_lines : List ℕ → List LineValue → List (ℕ × LineValue)
captured_lines name lines = filter (λ p. is_captured name lines p.0) (enumerate_from 0 lines)

abbrev pub placed_in : ℕ × LineValue → Option PlacedRule
placed_in p = placed (p.0 + 1) (rule_in p.1)

-- the captured rules with their lines, in order
abbrev pub placed_rules : List ℕ → List LineValue → List PlacedRule
placed_rules agent lines = filter_map placed_in (captured_lines (group_name agent lines) lines)

abbrev pub rules_for : List ℕ → List LineValue → List Rule
rules_for agent lines = unplaced (placed_rules agent lines)

abbrev pub captured_delays : List ℕ → List LineValue → List ℕ
captured_delays agent lines = filter_map (λ p. delay_in p.1) (captured_lines (group_name agent lines) lines)

-- if there is a user-agent line, the last delay above the first one
abbrev pub delay_before_agents : List LineValue → Option ℕ
delay_before_agents lines =
    if list_any is_agent lines then last_or None (filter_map delay_in (before_first is_agent lines)) else None

-- the first captured delay, else the one above the user-agent lines
abbrev pub delay_for : List ℕ → List LineValue → Option ℕ
delay_for agent lines = option_or (slice_get (captured_delays agent lines) 0) (delay_before_agents lines)

abbrev pub sitemap_in : LineValue → Option (List ℕ)
sitemap_in (Sitemap value) = if is_utf8 value then Some value else None
sitemap_in _ = None

abbrev pub sitemaps_in : List LineValue → List (List ℕ)
sitemaps_in lines = filter_map sitemap_in lines

-- why there is no robot for this crawler and this file; an allocation can fail at any time
abbrev pub IsRejectionOf : List ℕ → List ℕ → RobotError → Type 0
IsRejectionOf agent file (Overlong line) =
    IsFileRejected agent file × IsFirstOverlong (placed_rules agent (file_lines file)) line
IsRejectionOf agent file Memory = ⊤
