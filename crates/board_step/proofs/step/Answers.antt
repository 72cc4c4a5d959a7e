-- Its refusals are those of the personality, and 13, 15 and 14 at 0.
use Rattle.board_answers.proofs.Answers.{near_read, near_if, near_or, near_outcome}
use Rattle.rules.specs.Call.{step_verdict}
use Rattle.board_step.specs.StepCall.{step_checks}
use Rattle.board_step.proofs.step.Goals as goal

pub answer-requires : goal.answer-requires
unfolding step_checks step_verdict
answer-requires c =
    near_outcome _ _ c.tried.ensures.0
    (near_or _ _ (near_read _) (near_or _ _ (near_if _ 13) (near_or _ _ (near_if _ 15) (near_if _ 14))))
