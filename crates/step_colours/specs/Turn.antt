-- One turn of the pass, stated by a group's record and its movement's stage: in every list of groups with that record at g, and with that
-- stage of the group's movement if it is a pedestrian one, it leads from the point where the first g groups are passed to the next.
use Rattle.std.specs.Prelude.{ℕ, Bool, true, List, ◌≡◌, get_or}
use Rattle.rules.specs.declared.site.Group.{Group}
use Rattle.rules.specs.declared.state.Movement.{Movement}
use Rattle.rules.specs.declared.state.Position.{Position}
use Rattle.rules.specs.declared.state.Stage.{Stage}
use Rattle.rules.specs.Site.{group_of, is_pedestrian, movement_of}
use Rattle.rules.specs.State.{idle}
use Rattle.rules.specs.Colours.{colour_of, Turn}

abbrev pub TurnOf : Group → Stage → Bool → Position → ℕ → List ℕ → ℕ → List ℕ → ℕ → Type 0
TurnOf group stage closes position g buffer pedestrians after more =
    (groups : List Group) (movements : List Movement) →
    group_of groups g ≡ group →
    (is_pedestrian groups g ≡ true → (get_or movements (movement_of groups g) idle).stage ≡ stage) →
    Turn groups (colour_of groups closes position movements) g buffer pedestrians after more
