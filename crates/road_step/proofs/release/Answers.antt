-- In any other colour the count is 0.
use Rattle.std.proofs.Common.{refl, ◌∙◌}
use Rattle.road_streams.specs.Road.{released}
use Rattle.road_step.proofs.release.Goals as goal

pub returns-else-shows_green : goal.returns-else-shows_green
unfolding released
returns-else-shows_green c = λ colour e. rw (e ∙ c.if-shows_green.false) refl
