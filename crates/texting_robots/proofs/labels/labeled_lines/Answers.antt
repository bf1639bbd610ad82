use Rattle.std.proofs.{Common.refl, lemmas.List.length-map, lemmas.List.FromFn.length-enumerate_from}
use Rattle.texting_robots.{specs.Group.group_name, proofs.LabelLemmas.labels_walked}
use Rattle.texting_robots.specs.Executable.{file_bodies, file_lines}
use Rattle.texting_robots.proofs.labels.labeled_lines.Goals as goal

pub returns : goal.returns
returns c =
    let lines = file_lines c.args.txt.now in
    let name = group_name c.args.agent.now lines in
    let read = c.file_bodies.ensures in
    let group =
    rw (c.lazy_file_lines.ensures.value, c.as_bytes.ensures.value) at c.group_for-group.ensures in
    rw (read.value, group.name, group.start, ← labels_walked name (file_bodies c.args.txt.now))
    (record { labels = refl; count = rw (length-map, length-enumerate_from) (rw read.value at read.count) })
