-- Part 1 of a step: what is detected is a phase that exists, and a lock or a demanded movement demands its phase.
use Prim.Native.Nat.{ℕ, ◌<◌}
use mathlib.Core.Bool.{Bool, true, ◌&&◌}
use mathlib.Core.Path.{◌≡◌, ◌∙◌}
use borrow.Author.Tests.{eqb-true}
use Rattle.rules.specs.declared.site.Site.{Site}
use Rattle.rules.specs.declared.state.State.{State}
use Rattle.laws.specs.Bytes.{bit}
use Rattle.rules.specs.Site.{detector_of, crosses}
use Rattle.rules.specs.Demands.{occupied, locking, detected_among, detected, registers_lock, calls, demands_after, movement_demands, stands, demanded}
use Rattle.rules.specs.Laws.{Sound}
use Rattle.laws.proofs.Booleans.{and_left, and_right, and_both, or_left, or_right}
use Rattle.laws.proofs.Folds.{any_found, any_at}
use Rattle.proof_runs.proofs.Steps.{asked_now, locked_now, asked-at, locked-at}

-- a phase of which a detector is occupied exists
pub detected-below :
    (site : Site) → Sound site → (kind : ℕ → Bool) (inputs p : ℕ) → detected kind site inputs p ≡ true → p < site.size.phases
unfolding detected detected_among
detected-below site sound kind inputs p h =
    let found = any_found _ _ h in
    let d = found.0 in
    let of_phase = and_right (occupied inputs d) _ (and_left _ (kind (detector_of site.detectors d).mode) found.2) in
    rw (eqb-true (detector_of site.detectors d).phase p of_phase) at (sound.detector_phase d found.1)

-- so a phase whose lock is registered exists
pub lock-below :
    (site : Site) → Sound site → (s : State) (inputs p : ℕ) → registers_lock site s inputs p ≡ true → p < site.size.phases
unfolding registers_lock
lock-below site sound s inputs p h = detected-below site sound locking inputs p (and_left (detected locking site inputs p) _ h)

module _ (site : Site) (s : State) (inputs : ℕ) where
  pub lock-demands : (p : ℕ) → p < 8 → locked_now site s inputs p ≡ true → demanded site s inputs p ≡ true
  unfolding demanded stands
  lock-demands p room h = or_left (calls site s inputs p) (or_left _ (locked-at site s inputs p room ∙ h))

  pub button-demands :
      (k p : ℕ) →
      k < 8 →
      k < site.size.movements →
      crosses site.crossings k p ≡ true →
      asked_now site s inputs k ≡ true →
      demanded site s inputs p ≡ true
  unfolding demanded stands movement_demands
  button-demands k p room exists crossing h =
      or_left (calls site s inputs p)
      (or_right (bit p (demands_after site s inputs).locks)
      (any_at (λ (k : ℕ). bit k (demands_after site s inputs).buttons && crosses site.crossings k p) site.size.movements k exists
      (and_both (asked-at site s inputs k room ∙ h) crossing)))
