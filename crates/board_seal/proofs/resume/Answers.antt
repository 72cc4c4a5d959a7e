-- Its refusals are those of the personality, 13 at 0, and those of the record.
use Rattle.board_answers.proofs.Answers.{near_read, near_if, near_or, near_outcome}
use Rattle.board_seal.specs.SealCall.{resume_verdict}
use Rattle.board_seal.proofs.SealCalls.{near_record}
use Rattle.board_seal.proofs.resume.Goals as goal

pub answer-requires : goal.answer-requires
unfolding resume_verdict
answer-requires c =
    near_outcome _ _ c.tried_resume.ensures.answer (near_or _ _ (near_read _) (near_or _ _ (near_if _ _) (near_record _ _)))
