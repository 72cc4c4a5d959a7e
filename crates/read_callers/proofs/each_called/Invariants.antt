-- The set has the phases that the detectors before d and the pedestrian groups call.
use Rattle.read_callers.proofs.Called.{Called}
use Rattle.read_callers.proofs.each_called.Given as goal

abbrev pub invariant-loop-d : goal.invariant-loop-d
invariant-loop-d l = Called l.c l.called l.d
