use Rattle.std.proofs.Common.{arith}
use Rattle.read_conflicts_quick.proofs.Pairs.{block-sound}
use Rattle.read_conflicts_quick.proofs.block.Goals as goal

pub conflict_tile-t-requires : goal.conflict_tile-t-requires
conflict_tile-t-requires c = let few = rw (c.m.invariant.laid.groupcount, c.m.view_is) at c.m.invariant.few_groups in (c.requires.0, omega (arith, few))

pub conflict_tile-back-requires : goal.conflict_tile-back-requires
conflict_tile-back-requires c =
    let few = rw (c.m.invariant.laid.groupcount, c.m.view_is) at c.m.invariant.few_groups in (omega arith, omega (arith, few))

-- the one tile is the mirror image of the other, and no group is in both bands
pub returns : goal.returns
returns c e =
    let pre = c.requires in
    block-sound (rw (c.m.invariant.laid.phasecount, c.m.view_is) at c.m.invariant.few_phases) c.conflict_tile-t.ensures c.conflict_tile-back.ensures pre.2 pre.3
    (λ r n h l same. absurd (omega (arith, h, l, same, pre.1)))
    (rw (c.from-phases.ensures, c.m.invariant.laid.phasecount, c.m.view_is) at (c.matched.ensures e))
