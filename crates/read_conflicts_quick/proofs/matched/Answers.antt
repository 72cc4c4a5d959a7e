use Rattle.read_conflicts_quick.proofs.Pairs.{tile-matched}
use Rattle.read_conflicts_quick.proofs.matched.Goals as goal

pub returns-then-mirrored-back : goal.returns-then-mirrored-back
returns-then-mirrored-back c free =
    tile-matched c.mirrored.result c.barred.result c.mirrored.ensures c.barred.ensures.0 c.barred.ensures.1 c.if-mirrored-back.true free
