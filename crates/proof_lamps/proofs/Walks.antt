-- A walk lasts: no times take over in it, so it is in each step of W what it is in a plain step under the times of its first.
use Prim.Native.Nat.{ℕ, zero, suc, ◌+◌, ◌≤◌, ◌<◌}
use native.Mathlib.Omega.{arith}
use mathlib.Core.Bool.{Bool, true, false}
use mathlib.Core.List.{List, [], ◌∷◌}
use mathlib.Core.Logic.{⊎_elim}
use mathlib.Core.Path.{◌≡◌, refl, ◌∙◌}
use lib.ListN.{take}
use borrow.Author.Tests.{not-true}
use Rattle.rules.specs.declared.site.Site.{Site}
use Rattle.rules.specs.declared.site.Times.{Times}
use Rattle.rules.specs.declared.state.State.{State}
use Rattle.rules.specs.Site.{walk_times}
use Rattle.rules.specs.State.{movement}
use Rattle.rules.specs.SiteTimes.{under}
use Rattle.rules.specs.Runs.{Step}
use Rattle.rules.specs.DemandThree.{in_walk, walk_begins}
use Rattle.rules.specs.PhaseWaits.{every_step}
use Rattle.laws.proofs.Booleans.{and_left, and_right, and_both, decided, never_both}
use Rattle.proof_timed.proofs.Induction.{viewed, plain_from, TimedLink, TimedRun}
use Rattle.proof_timed.proofs.Across.{ready-idle}
use Rattle.proof_timed.proofs.Countdowns.{plain-link}
use Rattle.proof_lamps_step.proofs.Walks.{Walking, in-walk, begins, goes_on}

module _ (site : Site) (k : ℕ) (room : k < 8) where
  -- in the step in which it begins
  first :
      (s : State) (ruling : Times) (step : Step) → TimedLink site s ruling step → walk_begins k step ≡ true → Walking 1 (movement step.after k)
  unfolding walk_begins in_walk
  first s ruling step link h =
      let from = plain_from step.changed s in
      let was = not-true (in_walk step.before k) (and_right (in_walk step.after k) _ h) in
      begins (under site step.ruling) from (viewed from step) link.plain k room (and_left (in_walk step.after k) _ h)
      (by step.changed (rw link.before at was))
    where
      by : (c : Bool) → in_walk s k ≡ false → in_walk (plain_from c s) k ≡ false
      by true was = rw (ready-idle k room s)
      by false was = was

  -- under the times of that step
  lasts :
      (r0 : Times) (n : ℕ) (later : List Step) (s : State) (ruling : Times) (age : ℕ) →
      ruling ≡ r0 →
      TimedRun site s ruling later →
      Walking age (movement s k) →
      age + n ≤ (walk_times r0 k).walk →
      every_step (λ step. in_walk step.after k) (take n later) ≡ true
  unfolding every_step
  lasts r0 zero [] s ruling age same run here l = refl
  lasts r0 zero (step ∷ later) s ruling age same run here l = refl
  lasts r0 (suc n) [] s ruling age same run here l = refl
  lasts r0 (suc n) (step ∷ later) s ruling age same run here l =
      let unchanged =
      ⊎_elim
      (λ (e : step.changed ≡ true). absurd (never_both (in-walk k age s here) (run.0.still e k room)))
      (λ (e : step.changed ≡ false). e)
      (decided step.changed) in
      let plain = plain-link site r0 s ruling step run.0 same unchanged in
      let next = goes_on (under site r0) s (viewed s step) plain k room age here (omega arith) in
      and_both (in-walk k (age + 1) step.after next)
      (lasts r0 n later step.after step.ruling (age + 1) (run.0.kept unchanged ∙ same) run.1 next (omega arith))

  -- from the step in which it begins on
  pub walk-lasts :
      (s : State) (ruling : Times) (step : Step) (later : List Step) →
      TimedRun site s ruling (step ∷ later) →
      walk_begins k step ≡ true →
      every_step (λ step. in_walk step.after k) (take (walk_times step.ruling k).walk (step ∷ later)) ≡ true
  unfolding every_step
  walk-lasts s ruling step later run h = by (walk_times step.ruling k).walk refl
    where
      begun : Walking 1 (movement step.after k)
      begun = first s ruling step run.0 h

      by : (w : ℕ) → (walk_times step.ruling k).walk ≡ w → every_step (λ step. in_walk step.after k) (take w (step ∷ later)) ≡ true
      by zero e = refl
      by (suc n) e =
          and_both (in-walk k 1 step.after begun)
          (lasts step.ruling n later step.after step.ruling 1 refl run.1 begun (omega arith))
