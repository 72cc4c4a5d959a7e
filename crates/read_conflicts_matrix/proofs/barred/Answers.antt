use Rattle.std.proofs.Common.{arith}
use Rattle.read_conflicts_matrix.proofs.TileBits.{found_none, found-more, product-room}
use Rattle.read_conflicts_matrix.proofs.barred.Goals as goal

pub loop-init : goal.loop-init
loop-init c = found_none

pub overflow_mul-found : goal.overflow_mul-found
overflow_mul-found c = omega (arith, product-room)

pub loop-preserved : goal.loop-preserved
loop-preserved c = found-more c.loop.invariant

pub returns : goal.returns
returns c =
    let found = c.loop.invariant in
    (found.kept, λ r n p h l m. found.told r n p h l (omega arith))
