use Rattle.std.proofs.Common.{rules}
use Rattle.robots_examples.proofs.cache.forget_oldest.Goals as goal

pub returns : goal.returns
returns c = search rules
