use Rattle.read_conflicts_matrix.proofs.MatrixRows.{set-rows}
use Rattle.read_conflicts_matrix.proofs.set_tile.Goals as goal

pub returns : goal.returns
returns c = set-rows _ (rw (c.groups.ensures.0, c.m.invariant.laid.groups, c.m.view_is) at c.band_tile.ensures.0)
