use Rattle.std.proofs.Common.{arith}
use Rattle.read_conflicts_quick.proofs.Pairs.{member-rows, single-sound}
use Rattle.read_conflicts_quick.proofs.single_band.Goals as goal

pub own_block-requires : goal.own_block-requires
own_block-requires c =
    let sets = c.set_tile-sets.ensures in (omega arith, sets, member-rows sets c.mirrored.ensures)

-- all groups are in band 0
pub returns : goal.returns
returns c e = single-sound _ (c.own_block.ensures e) c.requires.1
