use Rattle.std.proofs.Common.{rules}
use Rattle.robots_rules.specs.Internal.{AreAlike}
use Rattle.robots_rules.proofs.state.State.next_bytes.Goals as goal
use Rattle.robots_rules.proofs.SideLemmas.{alike_kept}

pub returns-clause-old : goal.returns-clause-old
returns-clause-old c =
    let first : AreAlike c.add_next_bytes.new.bytes.items c.args.self.now.old.items = search rules in
    alike_kept c.add_next_bytes.new.bytes.items c.add_next_bytes-2.new.bytes.items c.args.self.now.old.items
    c.in_ok-add_next_bytes-2.ensures.adds first
