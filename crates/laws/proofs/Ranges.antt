-- What `all` and `any` over the range 0 to n - 1 found.
use Prim.Native.Nat.{ℕ, ◌<◌}
use mathlib.Core.Bool.{Bool, true, false}
use mathlib.Core.Path.{◌≡◌, sym, ap, ◌∙◌}
use native.Mathlib.Omega.{arith}
use lib.ListN.{length, get_or}
use Rattle.std.specs.Bool.{MatchBool}
use Rattle.std.specs.List.{AllWithin, HoldsAt, range_with_len}
use Rattle.std.proofs.lemmas.List.FromFn.{length-range_with_len, get_or-range_with_len}
use Rattle.laws.specs.Folds.{any_of, all_of}
use Rattle.laws.proofs.Folds.{any_at, any_none, all-each, all-fails}

-- entry i of the range is i
in-range-at : (n i : ℕ) → i < n → get_or (range_with_len 0 n) i 0 ≡ i
in-range-at n i l = get_or-range_with_len 0 n i 0 l ∙ omega arith

pub any_of_range :
    (p : ℕ → Bool) (n : ℕ) (r : Bool) →
    MatchBool r
    ((k : ℕ) × (k < length (range_with_len 0 n)) × HoldsAt (λ i. p i ≡ true) (range_with_len 0 n) k)
    (AllWithin (λ i. p i ≡ false) (range_with_len 0 n) 0 (length (range_with_len 0 n))) →
    r ≡ any_of p n
any_of_range p n true h =
    let inside : h.0 < n = rw length-range_with_len at h.1 in
    sym (any_at p n h.0 inside (sym (ap p (in-range-at n h.0 inside)) ∙ h.2 0))
any_of_range p n false h =
    sym (any_none p n (λ i l. sym (ap p (in-range-at n i l)) ∙ h i 0 (omega arith) (rw length-range_with_len l)))

pub all_of_range :
    (p : ℕ → Bool) (n : ℕ) (r : Bool) →
    MatchBool r
    (AllWithin (λ i. p i ≡ true) (range_with_len 0 n) 0 (length (range_with_len 0 n)))
    ((k : ℕ) × (k < length (range_with_len 0 n)) × HoldsAt (λ i. p i ≡ false) (range_with_len 0 n) k) →
    r ≡ all_of p n
all_of_range p n true h =
    sym (all-each p n (λ i l. sym (ap p (in-range-at n i l)) ∙ h i 0 (omega arith) (rw length-range_with_len l)))
all_of_range p n false h =
    let inside : h.0 < n = rw length-range_with_len at h.1 in
    all-fails p n h.0 inside (sym (ap p (in-range-at n h.0 inside)) ∙ h.2 0)
