-- Before group g the records of the groups below g are in place, the rest is blank, and the pedestrian ones among them have been found.
use Rattle.rules.specs.Personality.{group_count, group_set, group_mark}
use Rattle.rules.specs.Site.{no_group}
use Rattle.laws.proofs.Rows.{Filled}
use Rattle.site_rows.proofs.Pedestrians.{Passed}
use Rattle.site_rows.proofs.rows_of.Given as goal

abbrev pub invariant-loop-g : goal.invariant-loop-g
invariant-loop-g l = record {
  filled : Filled (λ i. record { phases = group_set l.bytes i; mark = group_mark l.bytes i }) (group_count l.bytes) 32 no_group l.g l.groups;
  passed : Passed l.bytes l.g l.movements l.crossings;
}
