use Rattle.std.proofs.{Common.rules, lemmas.List.take_rest}
use Rattle.url.proofs.InputLemmas.{rsplit_once_none, rsplit_once_at_last}
use Rattle.texting_robots.proofs.normalized.last_label.Goals as goal

pub returns-in-Some : goal.returns-in-Some
returns-in-Some c =
    let host = c.args.host.now in
    let found = rsplit_once_at_last 46 host c.in-Some.dot (search rules) (search rules) (search rules) in
    rw (found, take_rest)

pub returns-in-None : goal.returns-in-None
returns-in-None c = rw (rsplit_once_none 46 c.args.host.now (search rules))
