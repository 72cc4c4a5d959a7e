-- The movements passed are a step on, and the others are as they were.
use Rattle.laws.proofs.Arrays.{Filled}
use Rattle.step_movements.proofs.Idle.{after}
use Rattle.step_movements.proofs.movements_after.Given as goal

abbrev pub invariant-loop-k : goal.invariant-loop-k
invariant-loop-k l = Filled (after l.times.walks l.may_end l.fn.movements) l.initial.movement-items l.movement-items l.k
