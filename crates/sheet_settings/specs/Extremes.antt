-- The largest and the smallest whole number that passes a test: what they are, and how they are found.
use Rattle.std.specs.Prelude.{ℕ, zero, suc, ◌<◌, Bool, true, false, ◌≡◌, if◌then◌else◌}

-- ── What they are ──

-- n passes, and no greater number does
pub record Largest (passes : ℕ → Bool) (n : ℕ) : Type 0 where
  pub passed : passes n ≡ true
  pub none-greater : (k : ℕ) → n < k → passes k ≡ false

-- t passes, and no smaller number does
pub record Smallest (passes : ℕ → Bool) (t : ℕ) : Type 0 where
  pub passed : passes t ≡ true
  pub none-smaller : (k : ℕ) → k < t → passes k ≡ false

-- ── How they are found ──

-- downwards from top
unfoldable pub largest_to : ℕ → (ℕ → Bool) → ℕ
largest_to zero passes = 0
largest_to (suc top) passes = if passes (suc top) then suc top else largest_to top passes

-- upwards from a first number, trying as many as are given
unfoldable pub smallest_from : ℕ → ℕ → (ℕ → Bool) → ℕ
smallest_from first zero passes = first
smallest_from first (suc tries) passes = if passes first then first else smallest_from (suc first) tries passes
