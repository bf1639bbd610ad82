use Rattle.std.proofs.Common.{rules}
use Rattle.robots_warnings.proofs.ClosedLemmas.{closes_if}
use Rattle.robots_warnings.proofs.closed.closes.Goals as goal

pub returns-then-is_closing : goal.returns-then-is_closing
returns-then-is_closing c = λ is_exempt others is.
    closes_if is_exempt others c.args.needed c.args.rule.now c.rule.inside.value.now
    (search rules) (search rules) is
