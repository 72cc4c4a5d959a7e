use Rattle.read_conflicts_matrix.proofs.Kept.{Kept}
use Rattle.read_conflicts_turned.specs.Turned.{TurnedTile, names}
use Rattle.read_conflicts_turned.proofs.naming.Given as goal

-- the tiles of the bands before k are in place
abbrev pub invariant-loop-k : goal.invariant-loop-k
invariant-loop-k l = Kept (TurnedTile l.m (names l.m l.a)) 4 l.tiles l.k
