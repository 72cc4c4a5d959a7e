-- Its refusals are those of the personality, and 14 at 0.
use Rattle.board_answers.proofs.Answers.{near_read, near_if, near_or, near_outcome}
use Rattle.board_waits.specs.WaitsCall.{waits_verdict}
use Rattle.board_waits.proofs.waits.Goals as goal

pub answer-requires : goal.answer-requires
unfolding waits_verdict
answer-requires c = near_outcome _ _ c.tried.ensures.answer (near_or _ _ (near_read _) (near_if _ 14))
