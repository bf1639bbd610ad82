use Rattle.std.proofs.Common.{refl}
use Rattle.texting_robots.specs.Callers.{file_lines}
use Rattle.robots_rules.proofs.SettledLemmas.{means_the_same}
use Rattle.robots_rules.proofs.same.means_the_same.Goals as goal

pub returns : goal.returns
returns c = λ is.
    means_the_same (file_lines c.args.site.now) (file_lines c.args.other.now) c.args.settled.now
    c.settled.inside.agent.now c.settled.inside.rules.items c.in_ok-rules.rules.items c.settled.view_is
    c.requires c.in_ok-accept.ensures (c.if-not-have_same_delay.ensures refl) c.in_ok-rules.ensures
    (rw (c.as_slice.ensures.value, c.as_slice-2.ensures.value) at (c.are_same_rules.ensures is))
