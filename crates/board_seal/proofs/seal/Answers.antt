-- Its refusals are those of the personality, and 13 and 14 at 0.
use Rattle.board_answers.proofs.Answers.{near_read, near_if, near_or, near_outcome}
use Rattle.board_seal.specs.SealCall.{seal_verdict}
use Rattle.board_seal.proofs.seal.Goals as goal

pub answer-requires : goal.answer-requires
unfolding seal_verdict
answer-requires c =
    near_outcome _ _ c.tried_seal.ensures.answer (near_or _ _ (near_read _) (near_or _ _ (near_if _ _) (near_if _ _)))
