-- A higher speed raises the fraction and a higher grade lowers it, so that the smallest number not below it follows; and 76 is never below it.
use Prim.Native.Nat.{ℕ, ◌+◌, ◌≤◌}
use mathlib.Core.Bool.{true, false}
use mathlib.Core.Path.{◌≡◌, refl}
use native.Mathlib.Nat.{mul-le-mul_left, le_trans}
use native.Mathlib.Omega.{arith}
use borrow.Author.Tests.{le-leb}
use lib.IntN.{ℤ}
use Rattle.rules.specs.declared.site.Edition.{Edition}
use Rattle.rules.specs.declared.site.Edition.TheVariants.{One, Two}
use Rattle.rules.specs.Limits.{limits, limit_of, within, phase_settings}
use Rattle.laws.proofs.Booleans.{and_both, never_both}
use Rattle.laws.proofs.Indices.{fails-to}
use Rattle.sheet_yellow.specs.Yellow.{Answer, Yellow, Refused, in_range, not_below, YellowTime, AnswerFor, out_of_range, given, answer_of}
use Rattle.sheet_yellow.specs.YellowLaws.{NeverFallsWithSpeed, NeverRisesWithGrade, Admitted}
use Rattle.sheet_yellow.specs.Columns.{column_of, divisor_at}
use Rattle.sheet_yellow.proofs.Shift.{column-order}
use Rattle.sheet_yellow.proofs.Stated.{in-range-parts, passes, passed, last-passes, as-stated}

-- what an answer with a time tells
record Told (s : ℕ) (g : ℤ) (steps : ℕ) : Type 0 where
  range : in_range s g ≡ true
  time : YellowTime s g steps

kinds-differ : {number place steps : ℕ} → Refused number place ≡ Yellow steps → ⊥
kinds-differ h = let e : true ≡ false = cc in never_both refl e

told : (s : ℕ) (g : ℤ) (steps : ℕ) → answer_of s g ≡ Yellow steps → Told s g steps
told s g steps h = go (as-stated.stated s g) h
  where
    go : {a : Answer} → AnswerFor s g a → a ≡ Yellow steps → Told s g steps
    go (out_of_range e) h = absurd (kinds-differ h)
    go (given y e time) h = let p : y ≡ steps = cc in record { range = e; time = rw p at time }

-- if every number that passes for b passes for a, the time for a is not above that for b
no_longer :
    {s z : ℕ} {g h : ℤ} {a b : ℕ} →
    YellowTime s g a →
    YellowTime z h b →
    ((t : ℕ) → not_below z h t ≡ true → not_below s g t ≡ true) →
    a ≤ b
no_longer {s} {z} {g} {h} x y follows =
    let l = fails-to (not_below s g) x.smallest.none-smaller (follows y.t y.smallest.passed) in
    let e = x.formula in
    let f = y.formula in
    omega arith

pub never-falls-with-speed : NeverFallsWithSpeed
unfolding NeverFallsWithSpeed
never-falls-with-speed slow fast g a b l p q =
    let x = told slow g a p in
    let y = told fast g b q in
    let grade = (in-range-parts slow g x.range).2 in
    no_longer x.time y.time
    (λ t e. passes slow g t grade (le_trans (mul-le-mul_left 100000 l) (passed fast g t grade e)))

pub never-rises-with-grade : NeverRisesWithGrade
unfolding NeverRisesWithGrade
never-rises-with-grade speed low high a b l p q =
    let x = told speed low a p in
    let y = told speed high b q in
    let lower = (in-range-parts speed low x.range).2 in
    let higher = (in-range-parts speed high y.range).2 in
    let columns = column-order low high l in
    let divisors : divisor_at (column_of low) ≤ divisor_at (column_of high) = omega arith in
    no_longer y.time x.time
    (λ t e. passes speed high t higher (le_trans (passed speed low t lower e) (mul-le-mul_left t divisors)))

-- the limits of Y, in each edition
yellow-limits : (edition : Edition) → let range = limit_of (limits edition) (phase_settings + 4) in (range.low ≡ 30) × (range.high ≡ 100)
unfolding limit_of limits
yellow-limits One = (refl, refl)
yellow-limits Two = (refl, refl)

pub admitted : Admitted
unfolding Admitted within
admitted edition speed g a p =
    let x = told speed g a p in
    let most = fails-to (not_below speed g) x.time.smallest.none-smaller (last-passes speed g x.range) in
    let e = x.time.formula in
    rw ((yellow-limits edition).0, (yellow-limits edition).1) (and_both (le-leb 30 a (omega arith)) (le-leb a 100 (omega arith)))
