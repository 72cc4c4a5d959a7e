-- One step lowers what is left of the wait by one, on bare numbers: where the interval ends, and where it stays.
use Prim.Native.Nat.{ℕ, suc, ◌+◌, ◌-◌, ◌≤◌, ◌<◌}
use native.Mathlib.Omega.{arith}
use Rattle.rules.specs.State.{highest_age}
use Rattle.rules.specs.Movements.{older}
use Rattle.proof_waits.proofs.Left.{Each}

-- ── Timers and counts ──

-- a timer that has not run out falls by one
pub timer-falls :
    (setting age more more' n : ℕ) →
    setting ≤ highest_age →
    age < setting →
    more' ≤ more →
    setting - age + 1 + more ≤ suc n →
    setting - older age + 1 + more' ≤ n
unfolding older
timer-falls setting age more more' n most running less h = omega arith

-- a timer that has run out stays at one step
pub timer-waits :
    (setting age more n : ℕ) →
    setting ≤ highest_age →
    1 + more ≤ n →
    setting - age + 1 + more ≤ suc n →
    setting - older age + 1 + more ≤ n
unfolding older
timer-waits setting age more n most some h = omega arith

-- each count falls by one, and none that is 0 stands in the way
pub each-falls :
    (timer timer' more n : ℕ) (count count' : ℕ → ℕ) →
    (timer' + more ≤ n) →
    more ≤ n →
    ((k : ℕ) → k < 8 → count' k ≤ count k - 1) →
    Each timer more count (suc n) →
    Each timer' more count' n
each-falls timer timer' more n count count' first some falls h = (first, λ k l. omega (arith, falls k l, h.1 k l))
