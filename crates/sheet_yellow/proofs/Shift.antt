-- A grade in range and its column: the column is below 21, the divisor is that of the column, and a higher grade has no lower column.
use Prim.Native.Nat.{suc, ◌+◌, ◌*◌, ◌≤◌, ◌<◌}
use mathlib.Core.Bool.{true}
use mathlib.Core.Path.{◌≡◌, refl, ap}
use native.Mathlib.Omega.{arith}
use borrow.Author.Tests.{leb-true, le-ltb}
use lib.Dec.{leb}
use lib.IntN.{ℤ, pos, negsuc, ◌+ℤ◌}
use lib.Signed.{le_z}
use Rattle.laws.proofs.Booleans.{and_left, never_both}
use Rattle.sheet_yellow.specs.Yellow.{grade_in_range, divisor}
use Rattle.sheet_yellow.specs.Columns.{column_of, divisor_at}

pub column-small : (g : ℤ) → grade_in_range g ≡ true → column_of g < 21
unfolding column_of
column-small (pos n) h = let l = leb-true n 10 h in omega arith
column-small (negsuc n) h = omega arith

pub column-sum : (g : ℤ) → grade_in_range g ≡ true → g +ℤ pos 10 ≡ pos (column_of g)
unfolding column_of
column-sum (pos n) h = ap pos (omega arith)
column-sum (negsuc n) h =
    let l = leb-true n 9 (and_left (leb n 9) true h) in rw (le-ltb 10 (suc n) (omega arith))

pub divisor-shifted : (g : ℤ) → grade_in_range g ≡ true → divisor g ≡ pos (divisor_at (column_of g))
unfolding divisor column_of
divisor-shifted (pos n) h = ap pos (omega arith)
divisor-shifted (negsuc n) h =
    let l = leb-true n 9 (and_left (leb n 9) true h) in
    let e : 196 * suc n ≡ suc (195 + 196 * n) = omega arith in
    rw (e, le-ltb 6000 (suc (195 + 196 * n)) (omega arith)) (ap pos (omega arith))

pub column-order : (low high : ℤ) → le_z low high ≡ true → column_of low ≤ column_of high
unfolding column_of
column-order (pos a) (pos b) h = let l = leb-true a b h in omega arith
column-order (pos a) (negsuc b) h = absurd (never_both h refl)
column-order (negsuc a) (pos b) h = omega arith
column-order (negsuc a) (negsuc b) h = let l = leb-true b a h in omega arith
