-- Computed for all 64 places: the place that a bit comes from through all three swaps is the one mirrored at the diagonal.
use mathlib.Core.Path.{refl}
use Rattle.laws.specs.Bytes.{bit}
use Rattle.laws.specs.Folds.{all_of}
use Rattle.read_conflicts_tiles.specs.Swaps.{upper, source}
use Rattle.read_conflicts_tiles.proofs.TilePlaces.{mirrors, mirrored-bit}
use Rattle.read_conflicts_tiles.proofs.mirrored.Goals as goal

pub returns : goal.returns
unfolding bit all_of upper source mirrors
returns c =
    mirrored-bit c.args.tile c.swapped-singles.result c.swapped-twos.result c.swapped.result c.swapped-singles.ensures c.swapped-twos.ensures
    c.swapped.ensures
    refl
