use Rattle.std.proofs.Common.{ap, ◌∙◌}
use Rattle.texting_robots.specs.Callers.{bodies_in, bodies_read, group_name, lines_read}
use Rattle.texting_robots.proofs.Shared.{labels_hold}
use Rattle.robots_warnings.specs.File.{lines_of}
use Rattle.robots_warnings.proofs.read.FileRead.new.Goals as goal

pub returns-clause-read : goal.returns-clause-read
returns-clause-read c =
    let file = c.args.bytes.now in
    let held = labels_hold (group_name c.args.agent.now (lines_read file)) (bodies_read file) in
    record {
      lines_are = ap lines_of c.in_ok-labels.ensures ∙ held.0;
      bodies_are = ap bodies_in c.in_ok-labels.ensures ∙ held.1;
      size_is = c.facts_of-facts.ensures;
      site_is = c.in_ok-site.ensures;
    }
