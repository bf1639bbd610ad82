use Rattle.std.proofs.Common.{◌≡◌, ◌∙◌, ap, arith}
use Rattle.std.proofs.lemmas.List.{take_all}
use Rattle.texting_robots.specs.Callers.{unplaced}
use Rattle.robots_rules.proofs.compare.sorted.Goals as goal
use Rattle.robots_rules.proofs.VerdictLemmas.{decide}

pub returns : goal.returns
returns c = λ up.
    let all : c.loop-rule.items.items ≡ unplaced c.args.rules.now =
    c.loop-rule.invariant ∙ ap unplaced (take_all c.loop-rule.rule-index c.args.rules.now (omega arith)) in
    decide (unplaced c.args.rules.now) c.sort_unstable_by.new.self.items (rw all at
    c.sort_unstable_by.ensures.permutation) up
