-- Both bits of a pair change where they differ.
use Rattle.read_conflicts_tiles.proofs.TilePlaces.{swapped-from}
use Rattle.read_conflicts_tiles.proofs.swapped.Goals as goal

pub returns : goal.returns
returns c = swapped-from c.args.x c.args.low c.args.shift c.requires.1
