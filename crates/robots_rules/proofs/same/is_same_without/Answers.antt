use Rattle.std.proofs.Common.{All, IsTrue, refl, rules}
use Rattle.std.proofs.lemmas.Result.{IfOk-weaker}
use Rattle.texting_robots.specs.Callers.{file_lines}
use Rattle.robots_rules.specs.{Search.IsSameWithout, Search.SettledValue, Needless.MeanTheSame}
use Rattle.robots_rules.proofs.SettledLemmas.{same_without}
use Rattle.robots_rules.proofs.same.is_same_without.Goals as goal

pub returns : goal.returns
returns c =
    let file = c.args.site.now in
    let found = c.args.found.now in
    let settled = c.args.settled.now in
    let left = c.in_ok-left.left.items in
    let other = c.in_ok-other.other in
    let others = rw (c.as_slice.ensures.value, c.text-2.ensures) at (c.if-not-has_others.ensures refl) in
    let read = rw (c.as_slice-2.ensures.value) at c.in_ok-other.ensures in
    IfOk-weaker c.mean_the_same.result (λ are. IsTrue are
    → All (λ (s : SettledValue). MeanTheSame s.agent (file_lines file) (file_lines other)) settled)
    (λ is. IsTrue is → IsSameWithout found settled file)
    (λ is all true. same_without found settled file left other c.len.result (search rules) read others
    (search rules) (all true)) c.mean_the_same.ensures
