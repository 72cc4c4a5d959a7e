-- The buttons that are taken have their demands and their phases in the sets, and the bits of the rest are those that are left. The measure is
-- the rest, which loses a bit a turn.
use Rattle.step_demands_buttons.proofs.Presses.{Pressed}
use Rattle.step_demands_buttons.proofs.buttons.press.Given as goal

abbrev pub invariant-loop-rest : goal.invariant-loop-rest
invariant-loop-rest l = Pressed l.fn.buttons l.fn.movements l.fn.crossings l.fn.inputs l.rest l.out.buttons l.out.phases

abbrev pub decreases-loop-rest : goal.decreases-loop-rest
decreases-loop-rest l = l.rest
