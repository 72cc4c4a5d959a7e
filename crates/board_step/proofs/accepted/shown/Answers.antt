-- Colours and wait are those that its calls give.
use Rattle.rules.specs.Call.{buffer_for}
use Rattle.board_step.proofs.accepted.shown.Goals as goal

pub returns : goal.returns
unfolding buffer_for
returns c = (c.wait_bound.ensures, c.buffer_for.ensures)
