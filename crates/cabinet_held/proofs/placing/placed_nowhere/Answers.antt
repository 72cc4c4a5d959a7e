-- Its refusals are those of the personality, and 24 at 0.
use Rattle.std.proofs.Common.{true}
use Rattle.rules.specs.Verdicts.{refuse_if}
use Rattle.board_answers.proofs.Answers.{near_read, near_if, near_or, near_outcome}
use Rattle.cabinet_held.proofs.placing.placed_nowhere.Goals as goal

pub answer-requires : goal.answer-requires
unfolding refuse_if
answer-requires c = near_outcome _ _ c.nowhere.ensures (near_or _ _ (near_read _) (near_if true 24))
