-- What a run says a step registers is what part 1 of the step registers: the same tests, of which "minimum green or running" is put
-- together from two.
use Prim.Native.Nat.{ℕ}
use mathlib.Core.Bool.{Bool, not, ◌&&◌, ◌||◌, and-or_distrib_left}
use mathlib.Core.Path.{◌≡◌, refl, sym, ap}
use lib.Dec.{eqb}
use Rattle.rules.specs.declared.site.Site.{Site}
use Rattle.rules.specs.declared.state.State.{State}
use Rattle.rules.specs.State.{movement}
use Rattle.rules.specs.IntervalTable.{is_minimum_green, is_running}
use Rattle.rules.specs.Demands.{locking, detected, in_green, registers_lock, registers_button}
use Rattle.rules.specs.Runs.{Step}
use Rattle.rules.specs.DemandThree.{in_minimum_green, in_running, in_walk, registers_locked, registers_pressed}
use Rattle.laws.proofs.Indices.{eqb-turned}
use Rattle.rules.proofs.IntervalTests.{green-either}

pub green-same : (s : State) (p : ℕ) → in_green s.position p ≡ (in_minimum_green s p || in_running s p)
unfolding in_green in_minimum_green in_running
green-same s p =
    rw (eqb-turned p s.position.phase, green-either s.position.interval)
    (and-or_distrib_left (eqb s.position.phase p) (is_minimum_green s.position.interval) (is_running s.position.interval))

pub lock-same : (site : Site) (step : Step) (p : ℕ) → registers_locked site step p ≡ registers_lock site step.before step.inputs p
unfolding registers_locked registers_lock
lock-same site step p =
    ap (λ (t : Bool). detected locking site step.inputs p && not t) (sym (green-same step.before p))

pub button-same : (step : Step) (k : ℕ) → registers_pressed step k ≡ registers_button step.before.movements step.inputs k
unfolding registers_pressed registers_button in_walk movement
button-same step k = refl
