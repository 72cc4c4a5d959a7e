-- The shifted set's lowest bit is the group's.
use Rattle.std.proofs.Common.{refl}
use Rattle.laws.specs.Bytes.{bit}
use Rattle.road_step.proofs.greens.is_green.Goals as goal

pub returns : goal.returns
unfolding bit
returns c = refl
