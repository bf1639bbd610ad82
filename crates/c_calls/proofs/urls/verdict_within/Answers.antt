use Rattle.std.proofs.Common.{rules, ◌≡◌}
use Rattle.c_calls.specs.File.{target_in}
use Rattle.c_calls.proofs.NumberLemmas.{line_below, lines_fit, written_says}
use Rattle.c_calls.proofs.urls.verdict_within.Goals as goal

pub number_of-requires : goal.number_of-requires
number_of-requires c =
    line_below c.args.robot.now.robot.rules _ c.in-Ok.decision.line
    (lines_fit _ c.requires) c.in-Ok.ensures.decision.deciding

pub returns-in-Ok-clause-ok : goal.returns-in-Ok-clause-ok
returns-in-Ok-clause-ok c =
    let robot = c.args.robot.now in
    let target = target_in robot.by_rfc9309 c.args.url.now in
    let same : c.as_str-text.result.now ≡ target = search rules in
    let is = rw same at c.in-Ok.ensures.decision in (
      search rules,
      written_says robot.robot.rules target _ _ (lines_fit _ c.requires) is.verdict is.deciding _
          c.number_of.ensures (search rules),
    )
