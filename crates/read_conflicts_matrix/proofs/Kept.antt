-- An array of zeros that a loop fills from the front: each entry that is in place meets what is asked of it at its index.
use Prim.Native.Nat.{ℕ, ◌+◌, ◌<◌}
use mathlib.Core.List.{List}
use mathlib.Core.Logic.{⊎_elim}
use mathlib.Core.Path.{◌≡◌, sym, subst, ◌∙◌}
use native.Mathlib.Omega.{arith}
use lib.ListN.{length, get_or, set, length-set}
use lib.Seq.{get_or-set_same, get_or-set_other}
use Rattle.laws.proofs.Indices.{last-or-below}

-- the first n entries of an array of this size are in place
pub record Kept (asked : ℕ → ℕ → Type 0) (size : ℕ) (entries : List ℕ) (n : ℕ) : Type 0 where
  pub room : length entries ≡ size
  pub told : (i : ℕ) → i < n → asked i (get_or entries i 0)

module _ {asked : ℕ → ℕ → Type 0} {size : ℕ} where
  pub kept_more :
      {entries : List ℕ} {n x : ℕ} → Kept asked size entries n → n < size → asked n x → Kept asked size (set entries n x) (n + 1)
  kept_more {entries} {n} {x} kept h here =
      record {
        room = length-set entries n x ∙ kept.room;
        told = λ i l.
            ⊎_elim
            (λ (e : i ≡ n).
            subst (λ (j : ℕ). asked j (get_or (set entries n x) j 0)) (sym e)
            (subst (asked n) (sym (get_or-set_same entries n x 0 (omega (arith, kept.room)))) here))
            (λ (m : i < n).
            subst (asked i) (sym (get_or-set_other entries n i x 0 (λ e. omega (arith, e, m)))) (kept.told i m))
            (last-or-below (omega (arith, l)));
      }
