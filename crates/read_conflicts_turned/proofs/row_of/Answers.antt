use Rattle.read_conflicts_turned.proofs.TurnedBits.{row_told}
use Rattle.read_conflicts_turned.proofs.row_of.Goals as goal

pub returns : goal.returns
returns c = row_told _ _ (rw (c.tile_row.ensures, c.tile_row-2.ensures, c.tile_row-3.ensures, c.tile_row-4.ensures))
