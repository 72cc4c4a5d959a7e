-- Minimum green lasts: no times take over in it, so it is in each step of M what it is in a plain step under the times of its first.
use Prim.Native.Nat.{ℕ, zero, suc, ◌+◌, ◌<◌}
use native.Mathlib.Omega.{arith}
use mathlib.Core.Bool.{Bool, true, false}
use mathlib.Core.List.{List, [], ◌∷◌}
use mathlib.Core.Logic.{⊎_elim}
use mathlib.Core.Path.{◌≡◌, refl, sym, ap, ◌∙◌}
use lib.ListN.{take, drop}
use borrow.Author.Tests.{not-true}
use Rattle.rules.specs.declared.site.Site.{Site}
use Rattle.rules.specs.declared.site.Times.{Times}
use Rattle.rules.specs.declared.state.State.{State}
use Rattle.rules.specs.Site.{phase_times}
use Rattle.rules.specs.IntervalTable.{is_before_start}
use Rattle.rules.specs.SiteTimes.{under}
use Rattle.rules.specs.Runs.{Step}
use Rattle.rules.specs.DemandThree.{in_minimum_green, in_running, minimum_green_begins}
use Rattle.rules.specs.PhaseWaits.{every_step}
use Rattle.laws.proofs.Booleans.{and_left, and_right, and_both, decided, never_both}
use Rattle.rules.proofs.Settings.{Timed, phase-timed}
use Rattle.proof_runs.proofs.Chains.{ValidLink}
use Rattle.proof_change.proofs.Starts.{starts-before}
use Rattle.proof_timed.proofs.Induction.{viewed, plain_from, TimedLink, TimedRun}
use Rattle.proof_timed.proofs.Countdowns.{plain-link}
use Rattle.proof_lamps_step.proofs.Minimum.{InMinimum, in-minimum, begins, goes_on, runs}

-- in the first n steps minimum green, and in the next one running
abbrev pub Lasts : ℕ → ℕ → List Step → Type 0
Lasts p n steps =
    (every_step (λ step. in_minimum_green step.after p) (take n steps) ≡ true)
    × (every_step (λ step. in_running step.after p) (take 1 (drop n steps)) ≡ true)

module _ (site : Site) (p : ℕ) where
  -- in the step in which it begins
  first :
      (s : State) (ruling : Times) (step : Step) → TimedLink site s ruling step → minimum_green_begins p step ≡ true → InMinimum p 1 step.after
  unfolding minimum_green_begins in_minimum_green
  first s ruling step link h =
      let from = plain_from step.changed s in
      let was = not-true (in_minimum_green step.before p) (and_right (in_minimum_green step.after p) _ h) in
      begins (under site step.ruling) from (viewed from step) link.plain p (and_left (in_minimum_green step.after p) _ h)
      (by step.changed (rw link.before at was))
    where
      by : (c : Bool) → in_minimum_green s p ≡ false → in_minimum_green (plain_from c s) p ≡ false
      by true was = was
      by false was = was

  -- under the times of that step
  module _ (r0 : Times) where
    module _ (s : State) (ruling : Times) (step : Step) (link : TimedLink site s ruling step) (same : ruling ≡ r0) (age : ℕ) (here : InMinimum p age s) where
      unchanged : step.changed ≡ false
      unchanged =
          ⊎_elim
          (λ (e : step.changed ≡ true).
          absurd (never_both (ap is_before_start (sym here.interval) ∙ starts-before (under site ruling) s (link.over e)) refl))
          (λ (e : step.changed ≡ false). e)
          (decided step.changed)

      plain : ValidLink (under site r0) s (viewed s step)
      plain = plain-link site r0 s ruling step link same unchanged

      still-rules : step.ruling ≡ r0
      still-rules = link.kept unchanged ∙ same

    lasts :
        (n : ℕ) (later : List Step) (s : State) (ruling : Times) (age : ℕ) →
        ruling ≡ r0 →
        TimedRun site s ruling later →
        InMinimum p age s →
        age + n ≡ (phase_times r0 p).minimum →
        Lasts p n later
    unfolding every_step
    lasts zero [] s ruling age same run here e = (refl, refl)
    lasts zero (step ∷ later) s ruling age same run here e = (
      refl,
      and_both (runs (under site r0) s (viewed s step) (plain s ruling step run.0 same age here) p age here (omega arith)) refl,
    )
    lasts (suc n) [] s ruling age same run here e = (refl, refl)
    lasts (suc n) (step ∷ later) s ruling age same run here e =
        let next = goes_on (under site r0) s (viewed s step) (plain s ruling step run.0 same age here) p age here (omega arith) in
        let rest = lasts n later step.after step.ruling (age + 1) (still-rules s ruling step run.0 same age here) run.1 next (omega arith) in
        (and_both (in-minimum p (age + 1) step.after next) rest.0, rest.1)

  -- from the step in which it begins on
  pub minimum-lasts :
      (s : State) (ruling : Times) (step : Step) (later : List Step) →
      TimedRun site s ruling (step ∷ later) →
      minimum_green_begins p step ≡ true →
      Lasts p (phase_times step.ruling p).minimum (step ∷ later)
  unfolding every_step
  minimum-lasts s ruling step later run h = by (phase_times step.ruling p).minimum refl counted.minimum.0
    where
      begun : InMinimum p 1 step.after
      begun = first s ruling step run.0 h

      counted : Timed (phase_times step.ruling p)
      counted = phase-timed (under site step.ruling) run.0.plain.sound p (rw begun.phase at run.0.plain.there.phase)

      by : (m : ℕ) → (phase_times step.ruling p).minimum ≡ m → 0 < m → Lasts p m (step ∷ later)
      by zero e l = absurd (omega arith)
      by (suc n) e l =
          let rest = lasts step.ruling n later step.after step.ruling 1 refl run.1 begun (omega arith) in
          (and_both (in-minimum p 1 step.after begun) rest.0, rest.1)
