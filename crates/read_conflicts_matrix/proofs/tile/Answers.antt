use Rattle.std.proofs.Common.{arith, ◌∙◌}
use Rattle.read_conflicts_matrix.proofs.TileBits.{stacked-more, stacked-room}
use Rattle.read_conflicts_matrix.proofs.tile.Goals as goal

pub overflow_mul-t : goal.overflow_mul-t
overflow_mul-t c = omega (arith, stacked-room c.loop-r.invariant c.requires.2 c.loop-r-test.true)

pub overflow_add-t : goal.overflow_add-t
overflow_add-t c = omega (arith, stacked-room c.loop-r.invariant c.requires.2 c.loop-r-test.true)

pub loop-r-preserved : goal.loop-r-preserved
loop-r-preserved c = stacked-more c.loop-r.invariant c.loop-r-test.true (omega arith) (c.from.ensures ∙ c.byte_in.ensures)
