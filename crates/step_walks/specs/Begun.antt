-- Internal: no promise cites this file. What part 5 hands on.
use Rattle.std.specs.Prelude.{ℕ, Bool, List}
use Rattle.rules.specs.declared.state.Movement.{Movement}
use Rattle.rules.specs.Walks.{walks_begun, buttons_left}
use Rattle.step_walks.specs.declared.Begun.{Begun}

-- by which movements begin walk
unfoldable pub begun_by : (ℕ → Bool) → ℕ → List Movement → Begun
begun_by begun buttons movements = record { buttons = buttons_left begun buttons; movements = walks_begun begun movements }
