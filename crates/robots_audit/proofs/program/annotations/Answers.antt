use Rattle.std.proofs.{Common.rules, Common.arith, lemmas.Grind.common_steps}
use Rattle.robots_audit.proofs.program.annotations.Goals as goal

pub returns : goal.returns
returns c = record {
  file = c.args.file.now;
  found = c.args.findings.now;
  text_is = first_of (search rules, grind (arith, common_steps), cc (c.in_ok-github_text.ensures));
}
