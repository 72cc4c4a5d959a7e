-- Every record before g has passed, the running count is how many pedestrian groups stand before g and the set crossed has their phases, early
-- says whether a group stops early, and the union so far is that of all sets.
use Rattle.std.proofs.Common.{◌≡◌}
use Rattle.laws.specs.Folds.{any_of, count_of}
use Rattle.rules.specs.Personality.{pedestrian, group_record, stops_early}
use Rattle.rules.specs.Verdicts.{Accepted, first_of}
use Rattle.read_groups.specs.GroupsRead.{CrossedPhases}
use Rattle.read_groups.proofs.PhaseSets.{Gathered}
use Rattle.read_groups.proofs.records.group_records.Given as goal

abbrev pub invariant-loop-g : goal.invariant-loop-g
invariant-loop-g l = record {
  counted : l.movements ≡ count_of (pedestrian l.s) l.g;
  passed : first_of (group_record l.s) l.g ≡ Accepted;
  gathered : Gathered l.s l.served l.g;
  stopping : l.early ≡ any_of (stops_early l.s) l.g;
  crossing : CrossedPhases l.s l.crossed l.g;
}
