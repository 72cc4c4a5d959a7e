use Rattle.read_conflicts_matrix.proofs.TileBits.{Found}
use Rattle.read_conflicts_matrix.proofs.barred.Given as goal

-- the bits of the phases passed are found
abbrev pub invariant-loop : goal.invariant-loop
invariant-loop l = Found l.given l.sets l.members l.found l.left l.right l.counter
