use Rattle.std.proofs.Common.{arith}
use Rattle.read_conflicts_quick.proofs.Pairs.{block-sound, diagonal-bit}
use Rattle.read_conflicts_quick.proofs.own_block.Goals as goal

pub conflict_tile-t-requires : goal.conflict_tile-t-requires
conflict_tile-t-requires c = let few = rw (c.m.invariant.laid.groupcount, c.m.view_is) at c.m.invariant.few_groups in (c.requires.0, omega (arith, few))

-- the tile is its own mirror image and has no bit of the diagonal
pub returns : goal.returns
returns c e =
    let pre = c.requires in
    let tile = c.conflict_tile-t.ensures in
    block-sound (rw (c.m.invariant.laid.phasecount, c.m.view_is) at c.m.invariant.few_phases) tile tile pre.1 pre.2
    (λ r n h l same. diagonal-bit r n h (omega (arith, same)))
    (rw (c.from-phases.ensures, c.m.invariant.laid.phasecount, c.m.view_is) at (c.matched.ensures e))
