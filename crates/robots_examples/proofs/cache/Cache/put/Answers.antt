use Rattle.std.proofs.Common.{rules, take}
use Rattle.texting_robots.{specs.Callers.file_limit, proofs.Shared.not_rejected}
use Rattle.robots_examples.proofs.cache.Cache.put.Goals as goal

pub returns-clause-entries : goal.returns-clause-entries
returns-clause-entries c = (
  c.in_ok-address.address,
  c.in_ok-robot.robot,
  c.in_ok-address.ensures,
  c.in_ok-robot.ensures.robot,
  search rules,
)

pub returns-in_err-robot-clause-left : goal.returns-in_err-robot-clause-left
returns-in_err-robot-clause-left c = search rules

pub returns-in_err-add-clause-rejected : goal.returns-in_err-add-clause-rejected
returns-in_err-add-clause-rejected c =
    let accepted =
    not_rejected c.args.agent.now (take file_limit c.args.file.now) _ c.in_ok-robot.ensures.robot in
    search rules
