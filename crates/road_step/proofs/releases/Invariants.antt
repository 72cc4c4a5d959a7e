-- The streams passed are released.
use Rattle.road_step.proofs.Cells.{Passed}
use Rattle.road_step.proofs.Passes.{releasing}
use Rattle.road_step.proofs.releases.Given as goal

abbrev pub invariant-loop-i : goal.invariant-loop-i
invariant-loop-i l = Passed (releasing l.fn.streams l.fn.greens) l.fn.cells l.cells l.i
