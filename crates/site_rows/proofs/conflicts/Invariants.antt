-- Before group g the records of the groups below g are in place, the rest is blank.
use Rattle.rules.specs.Personality.{group_count, conflict_set}
use Rattle.laws.proofs.Rows.{Filled}
use Rattle.site_rows.proofs.conflicts.Given as goal

abbrev pub invariant-loop-g : goal.invariant-loop-g
invariant-loop-g l = Filled (conflict_set l.f) (group_count l.f) 32 0 l.g l.rows
