-- A setting outside a table admits 0 alone.
use Prim.Native.Nat.{ℕ, zero, suc, ◌≤◌}
use mathlib.Core.Bool.{◌&&◌}
use mathlib.Core.List.{List}
use mathlib.Core.Path.{◌≡◌, refl, subst⁻¹}
use lib.Dec.{leb, eqb, leb-zero, leb-suc-zero, eqb-suc-zero}
use lib.ListN.{length, get_or-eq_default}
use Rattle.rules.specs.declared.site.Range.{Range}
use Rattle.rules.specs.Limits.{limit_of, within}

zero-alone : (v : ℕ) → eqb v 0 ≡ (leb 0 v && leb v 0)
zero-alone zero = refl
zero-alone (suc v) = rw (leb-zero, leb-suc-zero, eqb-suc-zero)

pub past-the-table : (table : List Range) (k v : ℕ) → length table ≤ k → eqb v 0 ≡ within table k v
unfolding within limit_of
past-the-table table k v h =
    subst⁻¹ (λ (r : Range). eqb v 0 ≡ (leb r.low v && leb v r.high))
    (get_or-eq_default table (record { low = 0; high = 0 }) h)
    (zero-alone v)
