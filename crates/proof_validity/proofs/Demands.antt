-- Demands after a step are of phases and movements that exist: a lock comes from a detector, whose phase exists, and a button that
-- is pressed in an accepted step is wired, so that its movement exists.
use Prim.Native.Nat.{ℕ, ◌+◌, ◌<◌}
use mathlib.Core.Bool.{true, false, not, ◌&&◌}
use mathlib.Core.Logic.{⊎_elim}
use mathlib.Core.Path.{◌≡◌, sym, ◌∙◌}
use native.Mathlib.Omega.{arith}
use lib.Dec.{leb, ltb}
use borrow.Author.Tests.{ltb-true, not-false}
use Rattle.rules.specs.declared.site.Site.{Site}
use Rattle.rules.specs.declared.state.State.{State}
use Rattle.laws.specs.Bytes.{bit}
use Rattle.rules.specs.IntervalTable.{is_walk}
use Rattle.rules.specs.State.{locked, asked, movement}
use Rattle.rules.specs.Demands.{pressed, locking, detected, in_green, registers_lock, registers_button}
use Rattle.rules.specs.Interval.{clears_lock}
use Rattle.rules.specs.Step.{stepped}
use Rattle.rules.specs.Call.{wired, stray_input}
use Rattle.rules.specs.Laws.{Sound}
use Rattle.laws.proofs.Booleans.{and_left, and_right, and-false-cases, or_cases, never_both}
use Rattle.laws.proofs.Folds.{any_false}
use Rattle.proof_runs.proofs.ValidStates.{ValidState}
use Rattle.proof_runs.proofs.Steps.{ended, now, asked_now, locked_now, begun, locked-of, asked_of}
use Rattle.proof_runs.proofs.Demanded.{detected-below}

module _ (site : Site) (sound : Sound site) where
  -- ── Locks ──

  -- a phase that is locked after part 1 exists
  locked-below : (s : State) (inputs p : ℕ) → ValidState site s → p < 8 → locked_now site s inputs p ≡ true → p < site.size.phases
  unfolding locked_now registers_lock
  locked-below s inputs p v l h =
      let seen = detected locking site inputs p in
      let free = not (in_green s.position p) in
      ⊎_elim
      (λ (e : locked s p ≡ true). v.locks p l e)
      (λ (e : (seen && free) ≡ true). detected-below site sound locking inputs p (and_left seen free e))
      (or_cases (locked s p) (seen && free) h)

  pub next-locks :
      (s : State) (inputs p : ℕ) → ValidState site s → p < 8 → locked (stepped site s inputs) p ≡ true → p < site.size.phases
  next-locks s inputs p v l h =
      locked-below s inputs p v l
      (and_left (locked_now site s inputs p) (not (clears_lock (ended site s inputs) (now site s inputs) p)) (sym (locked-of site s inputs p l) ∙ h))

  -- ── Buttons ──

  -- a button that is wired is one of a movement of the site
  wired-below : (k : ℕ) → wired site (48 + k) ≡ true → k < site.size.movements
  unfolding wired
  wired-below k h =
      let detector = ltb (48 + k) site.size.detectors in
      let button = ltb (48 + k) (48 + site.size.movements) in
      ⊎_elim
      (λ (e : detector ≡ true). omega (arith, ltb-true (48 + k) site.size.detectors e, sound.detectors))
      (λ (e : (leb 48 (48 + k) && button) ≡ true).
      omega (arith, ltb-true (48 + k) (48 + site.size.movements) (and_right (leb 48 (48 + k)) button e)))
      (or_cases detector (leb 48 (48 + k) && button) h)

  -- an input bit that is set is wired where no input is stray
  set-is-wired : (inputs i : ℕ) → stray_input site inputs ≡ false → i < 64 → bit i inputs ≡ true → wired site i ≡ true
  unfolding stray_input
  set-is-wired inputs i stray l h =
      ⊎_elim
      (λ (e : bit i inputs ≡ false). absurd (never_both h e))
      (λ (e : not (wired site i) ≡ false). not-false (wired site i) e)
      (and-false-cases (bit i inputs) (not (wired site i)) (any_false _ 64 i stray l))

  -- a movement that is demanded after part 1 exists
  asked-below :
      (s : State) (inputs k : ℕ) →
      ValidState site s →
      stray_input site inputs ≡ false →
      k < 8 →
      asked_now site s inputs k ≡ true →
      k < site.size.movements
  unfolding asked_now registers_button pressed movement
  asked-below s inputs k v stray l h =
      let press = bit (48 + k) inputs in
      let free = not (is_walk (movement s k).stage) in
      ⊎_elim
      (λ (e : asked s k ≡ true). v.buttons k l e)
      (λ (e : (press && free) ≡ true). wired-below k (set-is-wired inputs (48 + k) stray (omega arith) (and_left press free e)))
      (or_cases (asked s k) (press && free) h)

  pub next-buttons :
      (s : State) (inputs k : ℕ) →
      ValidState site s →
      stray_input site inputs ≡ false →
      k < 8 →
      asked (stepped site s inputs) k ≡ true →
      k < site.size.movements
  next-buttons s inputs k v stray l h =
      asked-below s inputs k v stray l
      (and_left (asked_now site s inputs k) (not (begun site s inputs k)) (sym (asked_of site s inputs k l) ∙ h))
