-- A shifted one has bit k alone.
use Prim.Native.Nat.{ℕ, suc, ◌*◌, ◌^◌, ◌<◌}
use mathlib.Core.Bool.{Bool, ◌||◌, and-true}
use mathlib.Core.Path.{sym, ap}
use lib.Bits.{or_lt}
use lib.Dec.{eqb}
use lib.Pow.{pow_mono, pow_pos}
use native.Mathlib.Nat.{pow-succ'}
use native.Mathlib.Omega.{arith}
use Rattle.laws.specs.Bytes.{bit}
use Rattle.laws.proofs.Bits.{bit-one}
use Rattle.laws.proofs.BitRanges.{shifted}
use Rattle.laws.proofs.JoinedBits.{bit-or}
use Rattle.road_step.proofs.greens.with_bit.Goals as goal

one_below : (k n : ℕ) → k < n → 1 * 2 ^ k < 2 ^ n
one_below k n l = omega (arith, pow_mono {i = suc k} {j = n} l, pow-succ' 2 k, pow_pos k)

pub returns-then-on : goal.returns-then-on
returns-then-on c =
    let a = c.args in
    record {
      bits =
          λ d.
          rw (shifted 64 a.k (omega (arith, c.requires)), bit-or d a.bits (1 * 2 ^ a.k), bit-one a.k d, c.if-on.true)
          (ap (λ (t : Bool). bit d a.bits || t) (sym (and-true (eqb a.k d))));
      below =
          λ small.
          rw (shifted 64 a.k (omega (arith, c.requires)))
          (or_lt 48 a.bits (1 * 2 ^ a.k) small (one_below a.k 48 c.requires));
    }
