-- The detectors that are taken have their cells in the table, and the bits of the rest are those that are left. The measure is the rest, which
-- loses a bit a turn.
use Rattle.step_demands_detectors.proofs.Cells.{Entered}
use Rattle.step_demands_detectors.proofs.table.Given as goal

abbrev pub invariant-loop-rest : goal.invariant-loop-rest
invariant-loop-rest l = Entered l.fn.detectors l.fn.inputs l.rest l.set

abbrev pub decreases-loop-rest : goal.decreases-loop-rest
decreases-loop-rest l = l.rest
