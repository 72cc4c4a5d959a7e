use Rattle.read_conflicts_matrix.proofs.MatrixRows.{conflict-rows}
use Rattle.read_conflicts_matrix.proofs.conflict_tile.Goals as goal

pub returns : goal.returns
returns c =
    let told = rw (c.groups.ensures.0, c.m.invariant.laid.conflicts, c.m.view_is) at c.band_tile.ensures in
    conflict-rows _ _ told.1 c.requires.1 told.0
