-- Internal: no promise cites this file. The vehicle groups that show green, as a set of bits.
use Rattle.std.specs.Prelude.{ℕ, ◌^◌, ◌<◌, Bool, false, ◌&&◌, ◌||◌, ◌⊎◌, ◌≡◌, eqb}
use Rattle.laws.specs.Bytes.{bit}
use Rattle.rules.specs.declared.site.Site.{Site}
use Rattle.rules.specs.declared.state.Position.{Position}
use Rattle.rules.specs.declared.state.State.{State}
use Rattle.rules.specs.Site.{is_pedestrian}
use Rattle.rules.specs.Colours.{green, shown_in}

-- the old bits and, if it is to be set, bit k
pub record WithBit (old k : ℕ) (on : Bool) (new : ℕ) : Type 0 where
  pub bits : (d : ℕ) → bit d new ≡ (bit d old || (eqb k d && on))
  pub below : old < 2 ^ 48 → new < 2 ^ 48

-- the bit of each vehicle group says whether the group is green in the state
abbrev pub GreenIn : Site → State → ℕ → Type 0
GreenIn site s greens = (g : ℕ) → g < site.size.groups → is_pedestrian site.groups g ≡ false → bit g greens ≡ eqb (shown_in site s g) green

-- an interval begins, or the position is the old one at another age
abbrev pub Follows : Position → Position → Type 0
Follows old new =
    (new.age ≡ 1)
    ⊎ ((new.phase ≡ old.phase) × (new.interval ≡ old.interval) × (new.previous ≡ old.previous) × (new.target ≡ old.target))

-- whatever state came before, the set of the old state gives the set of the new one
abbrev pub GreenAfter : Site → State → ℕ → ℕ → Type 0
GreenAfter site new before greens = (old : State) → Follows old.position new.position → GreenIn site old before → GreenIn site new greens
