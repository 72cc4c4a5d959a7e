-- An array that starts blank and is filled from the front, entry by entry, ends as a row: its entries, and blanks up to the room.
use Prim.Native.Nat.{ℕ, zero, suc, ◌+◌, ◌-◌, ◌≤◌, ◌<◌}
use mathlib.Core.List.{List}
use mathlib.Core.Path.{◌≡◌}
use native.Mathlib.Nat.{sub-zero, zero-sub, suc-sub-suc}
use native.Mathlib.Omega.{arith}
use lib.ListN.{drop, set, replicate, length-replicate}
use Rattle.laws.specs.Folds.{row_of}
use Rattle.laws.proofs.Arrays as fill

-- the first k of n entries are in place, and blanks up to the room
pub record Filled {A : Type 0} (f : ℕ → A) (n room : ℕ) (blank : A) (k : ℕ) (row : List A) : Type 0 where
  pub within : k ≤ n
  pub entries : fill.Filled f (replicate room blank) row k

module _ {A : Type 0} where
  pub blanks-left : (k room : ℕ) (blank : A) → drop k (replicate room blank) ≡ replicate (room - k) blank
  blanks-left zero room blank = rw sub-zero
  blanks-left (suc k) zero blank = rw zero-sub
  blanks-left (suc k) (suc room) blank = rw suc-sub-suc (blanks-left k room blank)

  module _ {f : ℕ → A} {n room : ℕ} {blank : A} where
    pub filled_none : Filled f n room blank 0 (replicate room blank)
    filled_none = record { within = omega arith; entries = fill.fill_none f (replicate room blank) }

    pub filled_more :
        {k : ℕ} {v : A} {row : List A} →
        Filled f n room blank k row →
        v ≡ f k →
        k < n →
        n ≤ room →
        Filled f n room blank (k + 1) (set row k v)
    filled_more filled u h fits =
        record {
          within = omega arith;
          entries = fill.fill_step filled.entries (omega (arith, length-replicate room blank)) u;
        }

    pub filled-whole : {k : ℕ} {row : List A} → Filled f n room blank k row → n ≤ k → row ≡ row_of f n room blank
    unfolding row_of
    filled-whole {k} filled l =
        let last : k ≡ n = omega (arith, filled.within) in
        rw (last, blanks-left n room blank) at filled.entries.told
