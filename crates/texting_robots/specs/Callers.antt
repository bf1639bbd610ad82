-- Exports the predicates that the contracts of public calls use. Declares nothing.

pub use Rattle.texting_robots.specs.Line.{LineValue, UserAgent, Allow, Disallow, Sitemap, CrawlDelay, Raw}
pub use Rattle.texting_robots.specs.Line.{AreFileLinesOf, AreLinesOf, HasLines, HoldRangesOf, by_value}
pub use Rattle.texting_robots.specs.Line.{AreFileBodiesOf, IsLineOf, nul_as_lf}
pub use Rattle.texting_robots.specs.{Line.value_in, Delay.IsDelay}
pub use Rattle.texting_robots.specs.Group.{IsCaptured, group_name, is_agent_named}
pub use Rattle.texting_robots.specs.Rules.{PlacedRule, Rule, unplaced, AreRulesFor, HoldsRule, IsRejected}
pub use Rattle.texting_robots.specs.Rules.{AreSitemapsOf, HasNoRulesOrSitemaps, IsDelayFor, IsFirstOverlong}
pub use Rattle.texting_robots.specs.Robot.{RobotValue, AnswerAlike, IsFileRejected, IsRobotOf, IsRobotOfFile}
pub use Rattle.texting_robots.specs.Robot.{IsRobotWithoutSitemaps, file_limit}
pub use Rattle.texting_robots.specs.Labels.{
  AreLabelsOf,
  Label,
  HasMembership,
  is_named,
  is_own,
  label_by_value,
}
pub use Rattle.texting_robots.specs.Labels.{bodies_in, labels_of, lines_in}
pub use Rattle.texting_robots.specs.Agents.{agents_in, each_once, is_among}
pub use Rattle.texting_robots.specs.Executable.{IsRejectionOf, parsed, placed_rules, sitemaps_in, file_lines}
pub use Rattle.texting_robots.specs.Executable.{lines_read, file_bodies, bodies_read, rules_for, delay_for}
pub use Rattle.texting_robots.specs.Pattern.{Matches, MatchesStars, IsOverlong, collapsed}
pub use Rattle.texting_robots.specs.{Address.robots_address, Address.robots_address_of, Escape.escaped}
pub use Rattle.texting_robots.specs.{Prepared.prepared, Prepared.target_of, Order.IsBefore, Order.pattern_cmp}
pub use Rattle.texting_robots.specs.Verdict.{IsDenied, IsVerdict, robots_file}
pub use Rattle.texting_robots.specs.Decision.{IsBetter, IsDecidingRule, IsDecidingLine, IsLongestMatch}
pub use Rattle.texting_robots.specs.Decision.{LooksForRules, as_long_as, IsDecisionOn}
pub use Rattle.texting_robots.specs.Cost.{cost_of, looks_of}
pub use Rattle.texting_robots.specs.View.{LooksAtMost, ViewValue, seen_of}
pub use Rattle.texting_robots.specs.MainTheorem.{IsAnswerOf}
pub use Rattle.url.specs.Parser.{GivesBy}
pub use Rattle.texting_robots.specs.Error.{IsMemoryErrorOr}
