use Rattle.read_conflicts_matrix.proofs.TileBits.{Stacked}
use Rattle.read_conflicts_matrix.proofs.tile.Given as goal

-- the tile has the rows from r on, the first of them lowest
abbrev pub invariant-loop-r : goal.invariant-loop-r
invariant-loop-r l = Stacked l.s l.at l.stride l.rows l.r l.t
