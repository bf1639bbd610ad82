use Rattle.std.proofs.Common.{◌≡◌, ◌+◌, ◌≤◌, ◌++◌, ◌||◌, ℕ, List, cond, length, map, true}
use Rattle.std.specs.List.{filter_map, list_any}
use Rattle.texting_robots.specs.Executable.{delay_before_agents, file_lines, sitemaps_in}
use Rattle.texting_robots.{specs.Group.is_agent, proofs.RulesLemmas.delay_from}
use Rattle.texting_robots.specs.Internal.{Cut.read_as, Site.listed, Site.named, Site.tag_at, Site.tagged}
use Rattle.texting_robots.specs.Internal.{Line.lines_of, Site.named_from, Site.named_of, Site.tagged_from}
use Rattle.texting_robots.proofs.site.lines.SiteLines.read.Given as goal

-- what was read so far and what the remaining lines give is what the file gives
abbrev pub invariant-loop-rest : goal.invariant-loop-rest
invariant-loop-rest l =
    let lines = file_lines l.text in
    let left = lines_of (read_as true l.rest) in
    let group = l.lines.group in
    let joins = l.lines.joins in
    record {
      end : (front : List ℕ) × (l.text ≡ front ++ l.rest);
      count : l.number + length l.rest ≤ length l.text;
      lines_are : map (tag_at l.text) l.lines.member_lines.items ++ tagged_from group joins l.number left
          ≡ tagged lines;
      names_are : map named_of l.lines.agent_lines.items
          ++ named_from group joins l.number (length l.lines.member_lines.items) left ≡ named lines;
      sitemaps_are : filter_map (listed l.text) l.lines.sitemaps.items ++ sitemaps_in left
          ≡ sitemaps_in lines;
      agents : (l.lines.begun || list_any is_agent left) ≡ list_any is_agent lines;
      early : cond l.lines.begun l.lines.early (delay_from l.lines.early left) ≡ delay_before_agents lines;
    }

abbrev pub decreases-loop-rest : goal.decreases-loop-rest
decreases-loop-rest l = length l.rest
