-- The set has the phases that the entries before list.
use Rattle.read_order.proofs.Ninth.{Listed}
use Rattle.read_order.proofs.each_once.Given as goal

abbrev pub invariant-loop-phase : goal.invariant-loop-phase
invariant-loop-phase l = Listed l.fn.c l.listed l.phase-index
