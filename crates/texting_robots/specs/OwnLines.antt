-- The members that apply to a crawler, by value.
use Rattle.std.specs.Prelude.{ℕ, Option}
use Rattle.texting_robots.specs.{Executable.rule_in, Rules.PlacedRule, Rules.placed, Line.LineValue}
use Rattle.texting_robots.specs.{Line.by_value, Line.delay_in, declared.site.lines.MemberLine.MemberLine}

-- a member, its number, counted from 1, and the number of the first line of its group, or 0 if there is none
pub record Tagged : Type 0 where
  pub number : ℕ
  pub line : LineValue
  pub group : ℕ

-- a member by value, wherever its bytes are in memory
abbrev pub tag_of : MemberLine → Tagged
tag_of member = record { number = member.number; line = by_value member.line; group = member.group }

abbrev pub rule_of : Tagged → Option PlacedRule
rule_of t = placed t.number (rule_in t.line)

abbrev pub delay_of : Tagged → Option ℕ
delay_of t = delay_in t.line
