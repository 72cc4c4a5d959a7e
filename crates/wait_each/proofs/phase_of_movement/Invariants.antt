-- The greatest so far is that of the phases passed.
use Rattle.std.proofs.Common.{◌≡◌}
use Rattle.laws.specs.Folds.{greatest_of}
use Rattle.wait_each.proofs.Waits.{phase_in}
use Rattle.wait_each.proofs.phase_of_movement.Given as goal

abbrev pub invariant-loop-p : goal.invariant-loop-p
invariant-loop-p l = l.most ≡ greatest_of (phase_in l.set) l.p
