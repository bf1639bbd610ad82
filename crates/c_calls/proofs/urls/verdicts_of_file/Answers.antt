use Rattle.std.proofs.Common.{false}
use Rattle.c_calls.proofs.Borrowing.{calls_take_it}
use Rattle.c_calls.proofs.urls.verdicts_of_file.Goals as goal

pub verdicts_for-requires : goal.verdicts_for-requires
verdicts_for-requires c = calls_take_it false _ _ _ c.in_ok-robot.ensures.ok
