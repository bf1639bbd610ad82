use Rattle.std.proofs.Common.{arith}
use Rattle.texting_robots.proofs.SiteNameLemmas.{front_line, front_other, front_past}
use Rattle.texting_robots.proofs.site.own.line_of_group.Goals.{in_default-via-in-Some+else-line-group}
use Rattle.texting_robots.proofs.site.own.line_of_group.Goals.{in_default-via-in_default}
use Rattle.texting_robots.proofs.site.own.line_of_group.Goals as goal

pub returns-in-Some : goal.returns-in-Some
returns-in-Some c = grind (arith, front_line, c.in-Some.ensures.lookup)

pub returns-in_default : goal.returns-in_default
returns-in_default c = elim c.in_default.branch [
  | in_default-via-in-Some+else-line-group w ↦
      grind (arith, front_other, w.in-Some.ensures.lookup)
  | in_default-via-in_default w ↦
      let (_, _, _, past, _) = w.in_default.ensures.lookup in
      front_past c.args.text.now c.args.lines.now c.args.at c.args.group past
]
