use Rattle.std.proofs.Common.{◌≡◌, drop, length, take, take-append-drop, arith}
use Rattle.std.proofs.lemmas.List.{length-take-le}
use Rattle.texting_robots.proofs.FirstLemmas.{same_masked}
use Rattle.texting_robots.proofs.prefilter.head.Head.of.Goals as goal

pub returns : goal.returns
returns c =
    let pattern = c.args.pattern.now in
    let len = c.args.len in
    let long : length (take len pattern) ≡ len = length-take-le len pattern c.requires in
    let masked =
    rw (take-append-drop len pattern, long) at (same_masked (take len pattern) (drop len pattern)) in
    grind arith
