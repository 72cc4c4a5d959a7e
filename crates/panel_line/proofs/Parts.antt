-- The reasons of movements that are tested in two ways.
use Prim.Native.Nat.{ℕ, ◌<◌}
use mathlib.Core.Bool.{Bool}
use mathlib.Core.Path.{◌≡◌, refl}
use Rattle.laws.proofs.Folds.{fold_same}
use Rattle.panel_line.specs.Reasons.{walks, reasons_by}

walks_same : (f g : ℕ → Bool) (n : ℕ) → ((k : ℕ) → k < n → f k ≡ g k) → walks f n ≡ walks g n
unfolding walks
walks_same = fold_same walks (λ f g. refl) (λ f g n front last. rw (front, last))

-- tests that agree on the eight movements give the same reasons
pub reasons-same :
    (alone : Bool) (gap left : ℕ) (f g : ℕ → Bool) →
    ((k : ℕ) → k < 8 → f k ≡ g k) →
    reasons_by alone gap left f ≡ reasons_by alone gap left g
unfolding reasons_by
reasons-same alone gap left f g h = rw (walks_same f g 8 h)
