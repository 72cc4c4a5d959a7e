-- Its refusals are those of either personality, and 13 and 26 at 0.
use Rattle.board_answers.proofs.Answers.{near_read, near_if, near_or, near_outcome}
use Rattle.board_retime.specs.RetimeCall.{retime_checks}
use Rattle.board_retime.proofs.retime.Goals as goal

pub answer-requires : goal.answer-requires
unfolding retime_checks
answer-requires c =
    near_outcome _ _ c.tried.ensures.answer
    (near_or _ _ (near_read _) (near_or _ _ (near_if _ 13) (near_or _ _ (near_read _) (near_if _ 26))))
