use Rattle.std.proofs.Common.{rules}
use Rattle.robots_rules.proofs.SettledLemmas.{are_deletable, are_found_in}
use Rattle.robots_rules.proofs.lines.checked.Goals as goal

pub is_same_without-requires : goal.is_same_without-requires
is_same_without-requires c = c.requires.settled.each

pub is_same_without-requires-2 : goal.is_same_without-requires-2
is_same_without-requires-2 c = c.requires.others.each

pub returns-clause-found : goal.returns-clause-found
returns-clause-found c =
    are_found_in c.args.progress.now.found c.args.rules.items c.requires.rules c.args.site.now
    c.args.settled.now (c.in_ok-is_same_without.ensures (search rules)) c.requires.settled.names
    c.requires.blocks c.requires.front

pub returns-clause-other : goal.returns-clause-other
returns-clause-other c = λ some.
    are_deletable c.args.progress.now.found c.args.rules.items c.requires.rules c.args.other.now
    c.args.others.now (c.in_ok-is_same_without-2.ensures (search rules)) c.requires.others.names
