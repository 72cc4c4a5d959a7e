use Rattle.read_conflicts.proofs.ComparedSets.{United}
use Rattle.read_conflicts.proofs.records.sharing.Given as goal

-- the union so far has the groups of the set's phases before p
abbrev pub invariant-loop-p : goal.invariant-loop-p
invariant-loop-p l = United l.members l.set l.all l.p
