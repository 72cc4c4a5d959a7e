-- A locked demand, for any measure of what is left: while it stands, its phase is not in minimum green or running, and a step begins the minimum
-- green or leaves the demand standing.
use Prim.Native.Nat.{ℕ, suc, ◌<◌}
use mathlib.Core.Bool.{true, not, ◌&&◌}
use mathlib.Core.Logic.{◌⊎◌, inl, inr, ⊎_elim}
use mathlib.Core.Path.{◌≡◌, sym, ap, ◌∙◌}
use native.Mathlib.Omega.{arith}
use lib.Dec.{eqb}
use borrow.Author.Tests.{eqb-true, not-true}
use Rattle.rules.specs.declared.site.Site.{Site}
use Rattle.rules.specs.declared.state.State.{State}
use Rattle.rules.specs.IntervalTable.{is_minimum_green}
use Rattle.rules.specs.State.{locked}
use Rattle.rules.specs.Demands.{detected, locking, demanded, in_green, registers_lock}
use Rattle.rules.specs.Interval.{clears_lock}
use Rattle.rules.specs.Step.{stepped}
use Rattle.rules.specs.Laws.{Sound}
use Rattle.rules.specs.Runs.{Step}
use Rattle.rules.specs.DemandThree.{minimum_green_begins}
use Rattle.laws.proofs.Booleans.{and_left, and_right, and_both, or_left, or_right, never_both, not-true-false}
use Rattle.proof_runs.proofs.Steps.{ended, now, locked_now, position-of, locked-of}
use Rattle.proof_runs.proofs.Demanded.{lock-demands}
use Rattle.proof_runs.proofs.Chains.{ValidLink}
use Rattle.proof_waits.proofs.Away.{AwayAt, NotBegun, away-told}
use Rattle.proof_waits.proofs.Own.{away-kept, begins-or-not}
use Rattle.proof_waits.proofs.Demand.{Waits}

-- the lock is set, and the phase is not in minimum green or running
pub record LockStands (q : ℕ) (s : State) : Type 0 where
  pub locked : locked s q ≡ true
  pub away : AwayAt q s.position

-- a phase whose lock a step registers is away
pub registers-away : (site : Site) (q : ℕ) (s : State) (inputs : ℕ) → registers_lock site s inputs q ≡ true → AwayAt q s.position
unfolding registers_lock
registers-away site q s inputs r =
    away-told s q (not-true (in_green s.position q) (and_right (detected locking site inputs q) (not (in_green s.position q)) r))

module _ (site : Site) (sound : Sound site) (q : ℕ) (below : q < site.size.phases) where
  lock-room : q < 8
  lock-room = omega (arith, sound.phases)

  -- it stays set in a step in which the minimum green does not begin
  lock-kept : (s : State) (inputs : ℕ) → locked_now site s inputs q ≡ true → NotBegun q (stepped site s inputs).position → locked (stepped site s inputs) q ≡ true
  unfolding clears_lock
  lock-kept s inputs standing none =
      locked-of site s inputs q lock-room
      ∙ and_both standing
      (ap not
      (not-true-false (clears_lock (ended site s inputs) (now site s inputs) q)
      (λ h.
      let both = ended site s inputs && is_minimum_green (now site s inputs).interval in
      never_both (and_right (ended site s inputs) _ (and_left both (eqb q (now site s inputs).phase) h))
      ((rw (position-of site s inputs) at none) (sym (eqb-true q (now site s inputs).phase (and_right both _ h)))))))

  module _
      (Left : ℕ → State → Type 0)
      (s : State)
      (step : Step)
      (link : ValidLink site s step)
      (falls :
      demanded site s step.inputs q ≡ true →
      AwayAt q s.position →
      NotBegun q (stepped site s step.inputs).position →
      (n : ℕ) →
      Left (suc n) s →
      Left n (stepped site s step.inputs))
    where
      -- the step begins the minimum green, or the demand waits on
      lock-step :
          locked_now site s step.inputs q ≡ true →
          AwayAt q s.position →
          (minimum_green_begins q step ≡ true) ⊎ Waits (LockStands q) Left s step
      lock-step standing away =
          ⊎_elim
          (λ (e : minimum_green_begins q step ≡ true). inl e)
          (λ (none : NotBegun q (stepped site s step.inputs).position).
          inr (record {
            stands =
                rw link.taken.after (record {
                  locked = lock-kept s step.inputs standing none;
                  away = away-kept site sound q below s step.inputs none away;
                });
            falls = λ n left.
                rw link.taken.after (falls (lock-demands site s step.inputs q lock-room standing) away none n left);
          }))
          (begins-or-not site q s step link away)

      pub lock-registers-by :
          registers_lock site s step.inputs q ≡ true →
          (minimum_green_begins q step ≡ true) ⊎ Waits (LockStands q) Left s step
      unfolding locked_now
      lock-registers-by r = lock-step (or_right (locked s q) r) (registers-away site q s step.inputs r)

      pub lock-goes-by : LockStands q s → (minimum_green_begins q step ≡ true) ⊎ Waits (LockStands q) Left s step
      unfolding locked_now
      lock-goes-by stands = lock-step (or_left (registers_lock site s step.inputs q) stands.locked) stands.away
