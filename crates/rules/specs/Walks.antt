-- Part 5 of a step: walks.
use Rattle.std.specs.Prelude.{ℕ, Bool, not, ◌&&◌, ◌||◌, List, get_or, if◌then◌else◌}
use Rattle.rules.specs.Types.{Movement, Position, Walk}
use Rattle.laws.specs.Bytes.{bit}
use Rattle.laws.specs.Folds.{list_of, set_of}
use Rattle.rules.specs.Site.{crosses}
use Rattle.rules.specs.IntervalTable.{is_idle, is_running}
use Rattle.rules.specs.State.{idle}

-- A demanded movement of the phase begins its walk if the phase starts in this step. It also begins it in running, if it is idle and no
-- other phase is demanded.
unfoldable pub begins : List ℕ → Bool → Bool → Position → ℕ → List Movement → ℕ → Bool
begins crossings started another now buttons movements k =
    bit k buttons
    && crosses crossings k now.phase
    && (started || (is_running now.interval && not another && is_idle (get_or movements k idle).stage))

-- a walk that begins has age 1
unfoldable pub walks_begun : (ℕ → Bool) → List Movement → List Movement
walks_begun begun movements = list_of (λ k. if begun k then record { stage = Walk; age = 1 } else get_or movements k idle) 8

-- a walk that begins clears its demand
unfoldable pub buttons_left : (ℕ → Bool) → ℕ → ℕ
buttons_left begun buttons = set_of (λ k. bit k buttons && not (begun k))
