use Rattle.std.proofs.{Common.arith, lemmas.List.get_or_read}
use Rattle.texting_robots.specs.Internal.Segments.{no_entry}
use Rattle.texting_robots.proofs.FirstLemmas.{first_decides, first_line}
use Rattle.texting_robots.proofs.rules.RuleTable.decision_at.Goals as goal

pub returns : goal.returns
returns c = λ text differs found.
    let all = c.args.self.now in
    let sorted = c.requires.sorted in
    let is = get_or_read all.entries.items c.args.at _ found.0 c.index-entry.ensures no_entry in
    record {
      verdict = rw is (first_decides all c.requires.known.known sorted text c.args.at found differs);
      deciding = grind (arith, first_line);
    }
