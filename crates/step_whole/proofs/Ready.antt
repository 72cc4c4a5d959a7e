-- What the parts of a step ask of a site and a state holds in a valid state of an accepted site: the phase exists before and after part 4,
-- and the records past the movements that the site has are idle.
use Rattle.std.specs.Prelude.{Option}
use Prim.Native.Nat.{ℕ, ◌<◌}
use mathlib.Core.Bool.{Bool, true, false}
use mathlib.Core.Logic.{⊎_elim}
use mathlib.Core.Path.{◌≡◌, refl}
use native.Mathlib.Omega.{arith}
use lib.ListN.{get_or}
use Rattle.rules.specs.declared.site.Site.{Site}
use Rattle.rules.specs.declared.site.Times.{Times}
use Rattle.rules.specs.declared.state.Interval.{Interval}
use Rattle.rules.specs.declared.state.Interval.TheVariants.{StartRed, LateStart, MinimumGreen, Running, EarlyCutOff, Yellow, AllRed}
use Rattle.rules.specs.declared.state.KeptState.{KeptState}
use Rattle.rules.specs.declared.state.Position.{Position}
use Rattle.rules.specs.IntervalTable.{is_idle, is_leaving, phase_held}
use Rattle.rules.specs.State.{idle, movement, valid}
use Rattle.rules.specs.Interval.{entering, starting, leaving, following, staying, position_after}
use Rattle.rules.specs.Kept.{kept_valid}
use Rattle.rules.specs.Laws.{Sound}
use Rattle.laws.proofs.Booleans.{decided, and_left}
use Rattle.rules.proofs.IntervalTests.{idle-only}
use Rattle.proof_runs.proofs.ValidStates.{ValidState, state-told, target_below}
use Rattle.step_movements.specs.IdlePast.{IdlePast}

-- a change of interval stays in its phase, or goes to the target where the phase is left
followed-below :
    (n : ℕ) (interval : Interval) (times : Times) (next : Option ℕ) (position : Position) →
    position.phase < n →
    (is_leaving interval ≡ true → phase_held position.target < n) →
    (following interval times next position).phase < n
unfolding following starting entering leaving
followed-below n StartRed times next position on to = on
followed-below n LateStart times next position on to = on
followed-below n MinimumGreen times next position on to = on
followed-below n Running times next position on to = on
followed-below n EarlyCutOff times next position on to = on
followed-below n Yellow times next position on to = on
followed-below n AllRed times next position on to = to refl

module _ (site : Site) (s : KeptState) (ready : Sound site × (kept_valid site s ≡ true)) where
  known : ValidState site s.core
  unfolding kept_valid
  known = state-told site s.core (and_left (valid site s.core) _ ready.1)

  pub on : s.core.position.phase < site.size.phases
  on = known.phase

  pub now_on : (ended : Bool) (next : Option ℕ) → (position_after ended site.times next s.core.position).phase < 8
  unfolding position_after staying
  now_on true next =
      let position = s.core.position in
      omega (
        arith,
        ready.0.phases.1,
        followed-below site.size.phases position.interval site.times next position on
            (λ leaves. target_below site.size.phases position.phase position.target (rw leaves at known.target)),
      )
  now_on false next = omega (arith, on, ready.0.phases.1)

  pub idle-past : IdlePast site.size.movements s.core.movements
  unfolding movement
  idle-past =
      record {
        room = ready.0.movements;
        past = λ k a b.
            let stage = (get_or s.core.movements k idle).stage in
            idle-only stage
            (⊎_elim
            (λ (e : is_idle stage ≡ true). e)
            (λ (e : is_idle stage ≡ false). absurd (let below = ((known.movements k b).of_phase e).0 in omega arith))
            (decided (is_idle stage)));
      }
