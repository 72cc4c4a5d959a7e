-- Its refusals are those of the personality.
use Rattle.rules.specs.Call.{bound_of}
use Rattle.board_answers.proofs.Answers.{near_read, near_outcome}
use Rattle.board_read.proofs.wait_bound.Goals as goal

pub answer-requires : goal.answer-requires
unfolding bound_of
answer-requires c = near_outcome _ _ c.tried_wait_bound.ensures (near_read _)
