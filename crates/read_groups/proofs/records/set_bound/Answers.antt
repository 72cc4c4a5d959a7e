-- Up to nine phases the power is at most 512, and from nine on it is 512.
use Rattle.std.proofs.Common.{arith, ◌≡◌, ℕ, ◌^◌, ◌*◌, ◌%◌, ◌<◌, ◌≤◌, min}
use Rattle.std.proofs.lemmas.Bool.{cases_lt}
use mathlib.Core.Logic.{⊎_elim}
use lib.Pow.{pow_mono}
use Rattle.laws.proofs.BitRanges.{shifted}
use Rattle.read_groups.proofs.records.set_bound.Goals as goal

bounded : (p k : ℕ) → k ≡ min p 9 → 1 * 2 ^ k % 2 ^ 32 ≡ min (2 ^ p) 512
bounded p k e =
    ⊎_elim
    (λ (l : p < 9). let same : k ≡ p = omega arith in rw (shifted 32 k (omega arith), same) (omega (arith, pow_mono {i = p} {j = 9} (omega arith))))
    (λ (l : 9 ≤ p). let last : k ≡ 9 = omega arith in rw last (omega (arith, pow_mono {i = 9} {j = p} l)))
    (cases_lt p 9)

pub returns : goal.returns
returns c = bounded c.args.phases c.min.result c.min.ensures
