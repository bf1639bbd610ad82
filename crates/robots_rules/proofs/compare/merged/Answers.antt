use Rattle.std.proofs.Common.{◌∙◌, arith, false, true}
use Rattle.robots_rules.specs.Internal.{robots_rule}
use Rattle.robots_rules.proofs.compare.merged.Goals as goal
use Rattle.robots_rules.proofs.PoolLemmas.{last_added, one_room, one_taken}

pub loop-i-preserved : goal.loop-i-preserved
loop-i-preserved c =
    let is = c.loop-i.invariant in
    let entry = c.next_entry-entry.result in
    let next = c.next_entry-entry.ensures in
    let pool = c.loop-i.pool.items in
    let more = c.push.new.self.items in
    let added = c.in_ok-push.ensures.items in record {
      old_room = rw c.one_if-i.ensures (one_room entry.old c.loop-i.i _ is.old_room (λ own. (next.old
          own).0));
      new_room = rw c.one_if-j.ensures (one_room entry.new c.loop-i.j _ is.new_room (λ own. (next.new
          own).0));
      old = rw c.one_if-i.ensures (one_taken false pool more entry added c.args.old.now c.loop-i.i next.old
          is.old);
      new = rw c.one_if-j.ensures (one_taken true pool more entry added c.args.new.now c.loop-i.j next.new
          is.new);
    }

pub returns-clause-old : goal.returns-clause-old
returns-clause-old c =
    last_added false c.loop-i.pool.items c.push-2.new.self.items c.entry_of-last.result
    c.in_ok-push-2.ensures.items
    c.args.old.now c.loop-i.i robots_rule c.entry_of-last.ensures.old
    (c.entry_of-last.ensures.item ∙ c.new-robots_file.ensures) (omega arith) c.loop-i.invariant.old

pub returns-clause-new : goal.returns-clause-new
returns-clause-new c =
    last_added true c.loop-i.pool.items c.push-2.new.self.items c.entry_of-last.result
    c.in_ok-push-2.ensures.items
    c.args.new.now c.loop-i.j robots_rule c.entry_of-last.ensures.new
    (c.entry_of-last.ensures.item ∙ c.new-robots_file.ensures) (omega arith) c.loop-i.invariant.new
