use Rattle.read_conflicts_matrix.specs.Matrix.{SetRows}
use Rattle.read_conflicts_matrix.proofs.Kept.{Kept}
use Rattle.read_conflicts_matrix.proofs.set_tiles.Given as goal

-- the tiles of the bands before a are in place
abbrev pub invariant-loop-a : goal.invariant-loop-a
invariant-loop-a l = Kept (SetRows l.m) 4 l.tiles l.a
