-- A text put into a buffer: nothing, one text behind another, a text from its last byte on, and a copy.
use Prim.Native.Nat.{ℕ, suc, ◌+◌, ◌≤◌}
use mathlib.Core.List.{List, [], ◌∷◌, ◌++◌}
use mathlib.Core.Path.{◌≡◌, refl, sym, ap, ◌∙◌}
use native.Mathlib.Nat.{add-zero, zero-add}
use native.Mathlib.Omega.{arith}
use lib.ListN.{length, drop, set, length-append}
use lib.Seq.{sets, length-sets, sets-eq, set_comm}
use Rattle.laws.proofs.Arrays.{sets-next}
use Rattle.base_text.specs.Put.{Put}

pub put-none : (at : ℕ) (out : List ℕ) → Put [] at out out at
put-none at out = record { place = sym (add-zero at); bytes = refl }

pub put_as : {a b : List ℕ} {at next : ℕ} {old new : List ℕ} → a ≡ b → Put b at old new next → Put a at old new next
put_as e put = rw e put

pub put_then :
    {a b : List ℕ} {at i j : ℕ} {old mid new : List ℕ} →
    Put a at old mid i →
    Put b i mid new j →
    Put (a ++ b) at old new j
put_then {a} {b} {at} {i} {j} {old} {mid} {new} first second =
    record {
      place = omega (arith, first.place, second.place, length-append a b);
      bytes = second.bytes ∙ ap (λ (l : List ℕ). sets l i b) first.bytes ∙ sets-next old a b at i first.place;
    }

pub put-length : {text : List ℕ} {at next : ℕ} {old new : List ℕ} → Put text at old new next → length new ≡ length old
put-length {text} {at} {old = old} put = ap length put.bytes ∙ length-sets old at text

-- at the start, if there is room
pub put_front :
    {text old new : List ℕ} {next : ℕ} →
    Put text 0 old new next →
    length text ≤ length old →
    (next ≡ length text) × (new ≡ text ++ drop (length text) old)
put_front {text} {old} put h = (
  put.place ∙ zero-add (length text),
  put.bytes ∙ sets-eq text old 0 (omega arith) ∙ ap (λ (n : ℕ). text ++ drop n old) (zero-add (length text)),
)

-- the last byte first
pub sets_last : (a l : List ℕ) (at d : ℕ) → sets (set l (at + length a) d) at a ≡ sets l at (a ++ (d ∷ []))
sets_last [] l at d = ap (λ (n : ℕ). set l n d) (add-zero at)
sets_last (x ∷ a) l at d =
    ap (λ (m : List ℕ). sets m (suc at) a)
    (set_comm l (at + suc (length a)) at d x (λ e. omega arith) ∙ ap (λ (n : ℕ). set (set l at x) n d) (omega arith))
    ∙ sets_last a (set l at x) (suc at) d
