use Rattle.read_conflicts_matrix.proofs.Kept.{Kept}
use Rattle.read_conflicts_turned.specs.Turned.{RowOf}
use Rattle.read_conflicts_turned.proofs.rows_of.Given as goal

-- the numbers of the rows before r are in place
abbrev pub invariant-loop-r : goal.invariant-loop-r
invariant-loop-r l = Kept (RowOf l.tiles) 8 l.rows l.r
