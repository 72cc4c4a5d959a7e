-- By whether the step is counted.
use Rattle.std.proofs.Common.{arith}
use Rattle.std.proofs.lemmas.Bool.Decides.{nat_tests}
use Rattle.road_streams.specs.Road.{queues}
use Rattle.road_streams.proofs.count_after.Goals.{else-shows_green-via-then-shows_green+else-traffic-gt0, else-shows_green-via-else-shows_green}
use Rattle.road_streams.proofs.count_after.Goals as goal

pub returns-then-traffic-gt0 : goal.returns-then-traffic-gt0
unfolding queues
returns-then-traffic-gt0 c = grind (arith, nat_tests)

pub returns-else-shows_green : goal.returns-else-shows_green
unfolding queues
returns-else-shows_green c =
    elim c.else-shows_green.branch [
      | else-shows_green-via-then-shows_green+else-traffic-gt0 w ↦ grind (arith, nat_tests)
      | else-shows_green-via-else-shows_green w ↦ grind (arith, nat_tests)
    ]
