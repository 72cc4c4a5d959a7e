-- The streams passed have their arrivals, and the bits are those of their detectors.
use Rattle.road_step.proofs.Passes.{ArrivedTo}
use Rattle.road_step.proofs.arrivals.Given as goal

abbrev pub invariant-loop-i : goal.invariant-loop-i
invariant-loop-i l = ArrivedTo l.fn.streams l.fn.cells l.cells l.inputs l.i
