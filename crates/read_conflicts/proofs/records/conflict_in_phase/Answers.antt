use Rattle.std.proofs.Common.{arith}
use Rattle.read_conflicts.proofs.ComparedSets.{members-tested}
use Rattle.read_conflicts.proofs.records.conflict_in_phase.Goals as goal

-- the set is tested against the groups that share a phase with g as a whole
pub returns : goal.returns
returns c =
    let pre = c.requires in
    let fits = c.m.invariant in
    rw c.conflict_set.ensures
    (members-tested _ _ (rw (fits.laid.groupcount, c.m.view_is) at fits.few_groups) (rw (fits.laid.phasecount, c.m.view_is) at fits.few_phases) pre.2
    (omega (arith, c.conflict_set.ensures))
    (omega arith)
    pre.1
    (rw (c.from-set.ensures, c.group_set.ensures, c.from.ensures, fits.laid.phasecount, c.m.view_is) at c.sharing-shared.ensures))
