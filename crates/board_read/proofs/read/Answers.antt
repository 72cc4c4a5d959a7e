-- Its refusals are those of the personality.
use Rattle.board_answers.proofs.Answers.{near_read, near_outcome}
use Rattle.board_read.proofs.read.Goals as goal

pub answer-requires : goal.answer-requires
answer-requires c = near_outcome _ _ c.tried_read.ensures (near_read _)
