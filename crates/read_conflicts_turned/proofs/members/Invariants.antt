use Rattle.read_conflicts_matrix.proofs.Kept.{Kept}
use Rattle.read_conflicts_turned.specs.Turned.{TurnedTile, is_in}
use Rattle.read_conflicts_turned.proofs.members.Given as goal

-- the tiles of the bands before k are in place
abbrev pub invariant-loop-k : goal.invariant-loop-k
invariant-loop-k l = Kept (TurnedTile l.m (is_in l.m)) 4 l.tiles l.k
