-- A pedestrian group shows its movement's stage, a vehicle group what its record says, and the byte is stored at the group's own place.
use Rattle.std.proofs.Common.{refl}
use Rattle.step_colours.proofs.Shown.{pedestrian-passed, vehicle-passed}
use Rattle.step_colours.proofs.pass_group.Goals as goal

pub returns-then-group-eq2 : goal.returns-then-group-eq2
returns-then-group-eq2 c =
    let a = c.args in
    pedestrian-passed a.g c.requires.0 refl a.group a.stage a.closes a.position c.if-group-eq2.true c.movement_colour.ensures refl

pub returns-else-group-eq2 : goal.returns-else-group-eq2
returns-else-group-eq2 c =
    let a = c.args in
    vehicle-passed a.g c.requires.0 refl a.group a.stage a.closes a.position c.if-group-eq2.false c.vehicle_shown.ensures refl
