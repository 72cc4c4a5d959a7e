-- The group's mark, if there is such a group.
use Rattle.std.proofs.Common.{arith}
use Rattle.std.proofs.lemmas.Bool.Decides.{nat_tests}
use Rattle.rules.specs.Site.{is_pedestrian, group_of}
use Rattle.road_streams.specs.Road.{vehicle_group}
use Rattle.road_streams.proofs.vehicle_group.Goals as goal

pub returns-then-g-own : goal.returns-then-g-own
unfolding vehicle_group is_pedestrian group_of
returns-then-g-own c = rw (← c.site.view_is) (grind (arith, nat_tests))

pub returns-else-g-own : goal.returns-else-g-own
unfolding vehicle_group
returns-else-g-own c = rw (← c.site.view_is) (grind (arith, nat_tests))
