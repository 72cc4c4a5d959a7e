-- The demanded movements that are taken and may begin walk have begun it, with their demands cleared, and the others are as they were. The
-- measure is the rest, which loses a bit a turn.
use Rattle.step_walks.proofs.Walking.{Walking, may}
use Rattle.step_walks.proofs.begun_by.Given as goal

abbrev pub invariant-loop-rest : goal.invariant-loop-rest
invariant-loop-rest l =
    Walking l.fn.buttons l.fn.movements (may l.fn.crossings l.fn.starts l.fn.another l.fn.now l.fn.movements) l.rest l.begun.buttons l.begun.movements

abbrev pub decreases-loop-rest : goal.decreases-loop-rest
decreases-loop-rest l = l.rest
