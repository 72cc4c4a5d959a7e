-- Internal: no promise cites this file. What a pass over the site's own movements requires: there is room for them, and every record past
-- them is idle.
use Rattle.std.specs.Prelude.{ℕ, ◌≤◌, ◌<◌, List, ◌≡◌, get_or}
use Rattle.rules.specs.declared.state.Movement.{Movement}
use Rattle.rules.specs.declared.state.Stage.TheVariants.{Idle}
use Rattle.rules.specs.State.{idle}

pub record IdlePast (count : ℕ) (movements : List Movement) : Type 0 where
  pub room : count ≤ 8
  pub past : (k : ℕ) → count ≤ k → k < 8 → (get_or movements k idle).stage ≡ Idle
