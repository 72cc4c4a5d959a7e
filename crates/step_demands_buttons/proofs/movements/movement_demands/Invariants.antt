-- The phases of the movements that are taken are in the set, and the bits of the rest are those that are left. The measure is the rest, which
-- loses a bit a turn.
use Rattle.std.proofs.Common.{length}
use Rattle.laws.proofs.BitRanges.{firsts}
use Rattle.step_demands_buttons.proofs.Crossed.{Crossed, every}
use Rattle.step_demands_buttons.proofs.movements.movement_demands.Given as goal

abbrev pub invariant-loop-rest : goal.invariant-loop-rest
invariant-loop-rest l = Crossed l.fn.crossings (firsts (length l.fn.crossings) l.fn.buttons) (length l.fn.crossings) every l.rest l.set

abbrev pub decreases-loop-rest : goal.decreases-loop-rest
decreases-loop-rest l = l.rest
