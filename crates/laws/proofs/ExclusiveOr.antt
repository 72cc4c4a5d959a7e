-- Numbers with the same bits are the same number. So exclusive or may be taken in any order, and a number undoes itself.
use Prim.Native.Nat.{ℕ, zero, suc, ◌+◌, ◌*◌, ◌/◌, ◌%◌, ◌^◌, ◌<◌}
use mathlib.Core.Bool.{Bool, true, false}
use mathlib.Core.Path.{◌≡◌, refl, sym, ap, ◌∙◌}
use native.Mathlib.Nat.{lt_of_lt_of_le, mod-lt, pow-suc}
use native.Mathlib.Omega.{arith}
use lib.Bits.{bit_xor, xor_comm, xor_shifted}
use lib.Pow.{pow_mono, pow_pos, split}
use Rattle.laws.specs.Bytes.{bit}
use Rattle.laws.proofs.Bits.{same_bits}
use Rattle.laws.proofs.JoinedBits.{other, other_none, other-twice, bit-xor}

below_power : (x : ℕ) → x < 2 ^ x
below_power zero = pow_pos 0
below_power (suc x) = omega (arith, below_power x, pow-suc 2 x)

pub same_numbers : (x y : ℕ) → ((p : ℕ) → bit p x ≡ bit p y) → x ≡ y
same_numbers x y same =
    same_bits (x + y) x y (lt_of_lt_of_le (below_power x) (pow_mono (omega arith))) (lt_of_lt_of_le (below_power y) (pow_mono (omega arith)))
    (λ p l. same p)

other-swap : (s t u : Bool) → other (other s t) u ≡ other (other s u) t
other-swap true true true = refl
other-swap true true false = refl
other-swap true false true = refl
other-swap true false false = refl
other-swap false true true = refl
other-swap false true false = refl
other-swap false false u = sym (other_none u)

-- the second and the third term change places
pub xor-swap : (x y z : ℕ) → bit_xor (bit_xor x y) z ≡ bit_xor (bit_xor x z) y
xor-swap x y z =
    same_numbers (bit_xor (bit_xor x y) z) (bit_xor (bit_xor x z) y)
    (λ p.
    rw (bit-xor p (bit_xor x y) z, bit-xor p x y, bit-xor p (bit_xor x z) y, bit-xor p x z)
    (other-swap (bit p x) (bit p y) (bit p z)))

pub xor_assoc : (x y z : ℕ) → bit_xor (bit_xor x y) z ≡ bit_xor x (bit_xor y z)
xor_assoc x y z = ap (λ (s : ℕ). bit_xor s z) (xor_comm x y) ∙ xor-swap y x z ∙ xor_comm (bit_xor y z) x

pub xor-twice : (x y : ℕ) → bit_xor x (bit_xor x y) ≡ y
xor-twice x y =
    same_numbers (bit_xor x (bit_xor x y)) y (λ p. rw (bit-xor p x (bit_xor x y), bit-xor p x y) (other-twice (bit p x) (bit p y)))

pub xor-cancel : (x y z : ℕ) → bit_xor x y ≡ bit_xor x z → y ≡ z
xor-cancel x y z e = sym (xor-twice x y) ∙ ap (bit_xor x) e ∙ xor-twice x z

-- a number is its lowest k bits and the rest
pub xor-split : (x k : ℕ) → x ≡ bit_xor (x % 2 ^ k) (x / 2 ^ k * 2 ^ k)
xor-split x k =
    sym
    (xor_comm (x % 2 ^ k) (x / 2 ^ k * 2 ^ k)
    ∙ xor_shifted (x / 2 ^ k) k (x % 2 ^ k) (mod-lt x (pow_pos k))
    ∙ split x k)
