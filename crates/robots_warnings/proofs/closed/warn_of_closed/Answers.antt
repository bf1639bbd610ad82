use Rattle.std.proofs.lemmas.List.Elements.{Contains-append_right}
use Rattle.texting_robots.specs.Callers.{file_lines}
use Rattle.robots_warnings.specs.Internal.Tells.{agents_in, labels_in}
use Rattle.robots_warnings.specs.Warnings.{ClosesToOne, is_closing_cause}
use Rattle.robots_warnings.proofs.ClosedLemmas.{all_mean, told_of}
use Rattle.robots_warnings.proofs.TellsLemmas.{each_stays, lines_are, tells_added, tells_on}
use Rattle.robots_warnings.proofs.closed.warn_of_closed.Goals as goal

pub returns : goal.returns
returns c =
    let known = c.args.known.now in
    let read = known.read.now in
    let lines = file_lines read.site in
    let kept = c.in_ok-keep.ensures in
    let found = c.in_ok-closed.closed.items in
    let is = rw (c.deref.ensures.value, c.in_ok-sites.ensures) at c.in_ok-closed.ensures in
    let so = rw (lines_are read c.requires.read) at is.so in
    record {
      so = tells_on (tells_added found c.in_ok-append.ensures.items
          (all_mean known.agents.now read.bytes.now (labels_in known) found so)) kept;
      told = each_stays is_closing_cause (ClosesToOne (agents_in known) lines) _ _
          (λ warning _ has. kept.kept warning (rw c.in_ok-append.ensures.items
          (Contains-append_right c.args.found.now.items found warning has)))
          (told_of known.agents.now lines found is.told);
    }
