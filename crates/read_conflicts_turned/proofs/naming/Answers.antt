use Rattle.std.proofs.Common.{arith}
use Rattle.read_conflicts_matrix.proofs.Kept.{kept_more}
use Rattle.read_conflicts_turned.proofs.TurnedBits.{conflicts-turned, rows-turned}
use Rattle.read_conflicts_turned.proofs.naming.Goals as goal

pub loop-k-preserved : goal.loop-k-preserved
loop-k-preserved c = kept_more c.loop-k.invariant (omega arith) (conflicts-turned _ _ c.conflict_tile.ensures c.mirrored.ensures)

pub returns : goal.returns
returns c =
    let bands = c.bands-k-end.ensures in
    rows-turned (omega (arith, bands)) (λ k l. c.loop-k.invariant.told k (omega (arith, bands, l))) c.rows_of.ensures
