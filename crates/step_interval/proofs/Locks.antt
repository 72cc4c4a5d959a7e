-- The locks that a change of interval leaves: that of the phase is cleared where minimum green is entered, and every other one stands.
use Prim.Native.Nat.{ℕ, ◌<◌}
use mathlib.Core.Bool.{Bool, true, false, not, ◌&&◌, and-true}
use mathlib.Core.Path.{◌≡◌, sym}
use lib.Dec.{eqb}
use Rattle.rules.specs.declared.state.Position.{Position}
use Rattle.laws.specs.Bytes.{bit}
use Rattle.laws.specs.Folds.{set_of}
use Rattle.rules.specs.IntervalTable.{is_minimum_green}
use Rattle.rules.specs.Interval.{clears_lock, locks_left}
use Rattle.laws.proofs.ByteSets.{set_told}

module _ (ended : Bool) (now : Position) (locks : ℕ) where
  pub lock_cleared :
      (ended && is_minimum_green now.interval) ≡ true → set_of (λ q. bit q locks && not (eqb q now.phase)) ≡ locks_left ended now locks
  unfolding locks_left clears_lock
  lock_cleared entered = rw entered

  -- without such an entry the byte is the set of its own bits
  pub locks_stand : (ended && is_minimum_green now.interval) ≡ false → locks < 256 → locks ≡ locks_left ended now locks
  unfolding locks_left clears_lock
  locks_stand e small =
      set_told (λ q. bit q locks && not (clears_lock ended now q)) locks small (λ q l. rw e (sym (and-true (bit q locks))))
