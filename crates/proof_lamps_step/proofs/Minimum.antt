-- Minimum green in one step: it begins at age 1, it grows by one step while its age is below M, and at age M running follows.
use Prim.Native.Nat.{ℕ, ◌+◌, ◌≤◌, ◌<◌}
use native.Mathlib.Omega.{arith}
use mathlib.Core.Bool.{Bool, true, false, ◌&&◌, false≢true}
use mathlib.Core.Path.{◌≡◌, refl, ap, ◌∙◌}
use lib.Dec.{eqb, leb}
use borrow.Author.Tests.{eqb-true, eq-eqb, lt-leb, le-leb}
use Rattle.rules.specs.declared.site.Site.{Site}
use Rattle.rules.specs.declared.site.Times.{Times}
use Rattle.rules.specs.declared.state.Interval.{Interval}
use Rattle.rules.specs.declared.state.Interval.TheVariants.{StartRed, LateStart, MinimumGreen, Running, EarlyCutOff, Yellow, AllRed}
use Rattle.rules.specs.declared.state.Position.{Position}
use Rattle.rules.specs.declared.state.State.{State}
use Rattle.std.specs.Prelude.{if◌then◌else◌, Option, None}
use Rattle.rules.specs.Site.{phase_times}
use Rattle.rules.specs.IntervalTable.{is_minimum_green}
use Rattle.rules.specs.State.{highest_age}
use Rattle.rules.specs.Movements.{older}
use Rattle.rules.specs.Interval.{ends, entering, starting, leaving, following, staying}
use Rattle.rules.specs.Runs.{Step}
use Rattle.rules.specs.DemandThree.{in_minimum_green, in_running}
use Rattle.laws.proofs.Booleans.{and_left, and_right, and_both, never_both}
use Rattle.rules.proofs.Settings.{phase-timed}
use Rattle.proof_runs.proofs.Chains.{ValidLink}
use Rattle.proof_runs.proofs.Steps.{position-of}
use Rattle.proof_runs.proofs.Ends.{by_end, ended-in, next-in}

-- the state is in minimum green of phase p, after so many steps of it
pub record InMinimum (p steps : ℕ) (s : State) : Type 0 where
  pub phase : s.position.phase ≡ p
  pub interval : s.position.interval ≡ MinimumGreen
  pub age : s.position.age ≡ steps

is-minimum : (i : Interval) → is_minimum_green i ≡ true → i ≡ MinimumGreen
is-minimum StartRed h = absurd (false≢true h)
is-minimum LateStart h = absurd (false≢true h)
is-minimum MinimumGreen h = refl
is-minimum Running h = absurd (false≢true h)
is-minimum EarlyCutOff h = absurd (false≢true h)
is-minimum Yellow h = absurd (false≢true h)
is-minimum AllRed h = absurd (false≢true h)

pub in-minimum : (p steps : ℕ) (s : State) → InMinimum p steps s → in_minimum_green s p ≡ true
unfolding in_minimum_green
in-minimum p steps s here = and_both (eq-eqb s.position.phase p here.phase) (ap is_minimum_green here.interval)

-- what follows an interval has age 1
follows-young : (i : Interval) (times : Times) (next : Option ℕ) (position : Position) → (following i times next position).age ≡ 1
unfolding following starting entering leaving
follows-young StartRed times next position = refl
follows-young LateStart times next position = refl
follows-young MinimumGreen times next position = refl
follows-young Running times next position = refl
follows-young EarlyCutOff times next position = refl
follows-young Yellow times next position = refl
follows-young AllRed times next position = refl

module _ (site : Site) (s : State) (step : Step) (link : ValidLink site s step) (p : ℕ) where
  at-age : in_minimum_green step.after p ≡ true → in_minimum_green s p ≡ false → step.after.position.age ≡ 1
  unfolding in_minimum_green staying
  at-age h was =
      let at = ap (λ (t : State). t.position) link.taken.after ∙ position-of site s step.inputs in
      rw at
      (by_end site s step.inputs (λ (q : Position). (eqb q.phase p && is_minimum_green q.interval) ≡ true → q.age ≡ 1)
      (λ over seen. follows-young s.position.interval site.times _ s.position)
      (λ still seen. absurd (never_both seen was))
      (rw at at h))

  -- an interval that was another one before has age 1
  pub begins : in_minimum_green step.after p ≡ true → in_minimum_green s p ≡ false → InMinimum p 1 step.after
  unfolding in_minimum_green
  begins h was =
      let position = step.after.position in
      record {
        phase = eqb-true position.phase p (and_left (eqb position.phase p) _ h);
        interval = is-minimum position.interval (and_right (eqb position.phase p) _ h);
        age = at-age h was;
      }

  module _ (steps : ℕ) (here : InMinimum p steps s) where
    abbrev minimum : ℕ
    minimum = (phase_times site.times p).minimum

    reached : minimum ≤ highest_age
    reached = (phase-timed site link.sound p (rw here.phase at link.here.phase)).minimum.1

    position-after :
        (t : Bool) → leb minimum steps ≡ t → step.after.position ≡ (if t then entering Running None s.position else staying s.position)
    unfolding ends following
    position-after t e =
        ap (λ (t : State). t.position) link.taken.after
        ∙ next-in site s step.inputs MinimumGreen here.interval t
        (ended-in site s step.inputs MinimumGreen here.interval ∙ (rw (here.phase, here.age) e))

    pub goes_on : steps < minimum → InMinimum p (steps + 1) step.after
    unfolding staying older
    goes_on l =
        rw (position-after false (lt-leb minimum steps l))
        (record { phase = here.phase; interval = here.interval; age = rw here.age (omega (arith, reached)) })

    pub runs : steps ≡ minimum → in_running step.after p ≡ true
    unfolding in_running entering
    runs e = rw (position-after true (le-leb minimum steps (omega arith))) (and_both (eq-eqb s.position.phase p here.phase) refl)
