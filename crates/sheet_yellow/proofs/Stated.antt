-- The computed answer is the one that document 02 states, there is no other, and it is the entry of the table. In range 76 is never below the fraction, so the
-- search for t ends at a number that passes.
use Prim.Native.Nat.{ℕ, ◌+◌, ◌-◌, ◌*◌, ◌≤◌, ◌<◌, max}
use mathlib.Core.Bool.{Bool, true, false}
use mathlib.Core.Path.{◌≡◌, refl, sym, ap, ◌∙◌, subst}
use native.Mathlib.Nat.{mul-le-mul_right, div-mul-le_self, lt-div-mul-add}
use native.Mathlib.Omega.{arith}
use lib.Dec.{leb}
use lib.IntN.{ℤ}
use borrow.Author.Tests.{leb-true, le-leb, lt-leb}
use Rattle.std.specs.Int.{div_ceil}
use Rattle.std.proofs.lemmas.Grind.{div_ceil_times}
use Rattle.std.proofs.lemmas.Nat.{div-mul-add}
use Rattle.laws.proofs.Booleans.{and_left, and_right}
use Rattle.sheet_settings.specs.Extremes.{Smallest}
use Rattle.sheet_settings.proofs.Extremes.{smallest-only, smallest-found}
use Rattle.sheet_yellow.specs.Yellow.{Answer, Yellow, Refused, speed_in_range, grade_in_range, in_range, not_below, YellowTime, AnswerFor, out_of_range, given, rounded_up, yellow_time, answer_of, AsStated}
use Rattle.sheet_yellow.specs.Columns.{column_of, divisor_at, ceiling, entry_at}
use Rattle.sheet_yellow.proofs.Shift.{divisor-shifted}

-- ── The ranges ──

pub in-range-parts : (s : ℕ) (g : ℤ) → in_range s g ≡ true → (40 ≤ s) × (s ≤ 110) × (grade_in_range g ≡ true)
unfolding in_range
in-range-parts s g r =
    let speed = and_left (speed_in_range s) (grade_in_range g) r in (
      leb-true 40 s (and_left (leb 40 s) (leb s 110) speed),
      leb-true s 110 (and_right (leb 40 s) (leb s 110) speed),
      and_right (speed_in_range s) (grade_in_range g) r,
    )

-- ── The fraction, rounded up ──

-- the test, by the column
pub test-shifted : (s : ℕ) (g : ℤ) (t : ℕ) → grade_in_range g ≡ true → not_below s g t ≡ leb (100000 * s) (t * divisor_at (column_of g))
unfolding not_below
test-shifted s g t h = rw (divisor-shifted g h) refl

pub passes : (s : ℕ) (g : ℤ) (t : ℕ) → grade_in_range g ≡ true → 100000 * s ≤ t * divisor_at (column_of g) → not_below s g t ≡ true
passes s g t h l = test-shifted s g t h ∙ le-leb (100000 * s) (t * divisor_at (column_of g)) l

pub passed : (s : ℕ) (g : ℤ) (t : ℕ) → grade_in_range g ≡ true → not_below s g t ≡ true → 100000 * s ≤ t * divisor_at (column_of g)
passed s g t h e = leb-true (100000 * s) (t * divisor_at (column_of g)) (sym (test-shifted s g t h) ∙ e)

pub last-passes : (s : ℕ) (g : ℤ) → in_range s g ≡ true → not_below s g 76 ≡ true
last-passes s g r =
    let parts = in-range-parts s g r in
    let most = parts.1 in
    passes s g 76 parts.2 (omega arith)

pub rounded-smallest : (s : ℕ) (g : ℤ) → in_range s g ≡ true → Smallest (not_below s g) (rounded_up s g)
unfolding rounded_up
rounded-smallest s g r = smallest-found (not_below s g) 0 76 (last-passes s g r) (λ k l. absurd (omega arith))

-- the quotient of a + (b - 1) by b is the smallest number not below a / b
ceiling-enough : (a b : ℕ) → 0 < b → a ≤ ceiling a b * b
ceiling-enough a b h = let l : a + (b - 1) < ceiling a b * b + b = lt-div-mul-add h in omega arith

ceiling-least : (a b k : ℕ) → 0 < b → k < ceiling a b → k * b < a
ceiling-least a b k h l =
    let m = mul-le-mul_right b l in
    let n = div-mul-le_self (a + (b - 1)) b in
    omega arith

-- what `div_ceil` gives
pub ceiling-is : (a b : ℕ) → 0 < b → div_ceil a b ≡ ceiling a b
ceiling-is a b h =
    let c = div_ceil a b in
    let t = div_ceil_times a b h in
    let e : c * b + (a + (b - 1) - c * b) ≡ a + (b - 1) = omega (arith, t) in
    sym (rw e at (div-mul-add c b (a + (b - 1) - c * b) (omega (arith, t))))

ceiling-smallest : (s : ℕ) (g : ℤ) → grade_in_range g ≡ true → Smallest (not_below s g) (ceiling (100000 * s) (divisor_at (column_of g)))
ceiling-smallest s g h =
    let d = divisor_at (column_of g) in
    let above : 0 < d = omega arith in
    record {
      passed = passes s g (ceiling (100000 * s) d) h (ceiling-enough (100000 * s) d above);
      none-smaller = λ k l. test-shifted s g k h ∙ lt-leb (100000 * s) (k * d) (ceiling-least (100000 * s) d k above l);
    }

-- the computed time is the entry of the grade's column
pub time-at : (s : ℕ) (g : ℤ) → in_range s g ≡ true → yellow_time s g ≡ entry_at s (column_of g)
unfolding yellow_time entry_at
time-at s g r =
    ap (λ (t : ℕ). max 30 (10 + t))
    (smallest-only (not_below s g) (rounded-smallest s g r) (ceiling-smallest s g (in-range-parts s g r).2))

-- ── The answer ──

pub time-stated : (s : ℕ) (g : ℤ) → in_range s g ≡ true → YellowTime s g (yellow_time s g)
unfolding yellow_time
time-stated s g r = record { t = rounded_up s g; smallest = rounded-smallest s g r; formula = refl }

pub answer-refused : (s : ℕ) (g : ℤ) → in_range s g ≡ false → answer_of s g ≡ Refused 23 0
unfolding answer_of
answer-refused s g e = rw e

pub answer-given : (s : ℕ) (g : ℤ) → in_range s g ≡ true → answer_of s g ≡ Yellow (yellow_time s g)
unfolding answer_of
answer-given s g e = rw e

answer-stated : (s : ℕ) (g : ℤ) → AnswerFor s g (answer_of s g)
unfolding answer_of
answer-stated s g = go (in_range s g) refl
  where
    go : (b : Bool) → in_range s g ≡ b → AnswerFor s g (answer_of s g)
    go true e = rw (answer-given s g e) (given (yellow_time s g) e (time-stated s g e))
    go false e = rw (answer-refused s g e) (out_of_range e)

time-only : (s : ℕ) (g : ℤ) {a b : ℕ} → YellowTime s g a → YellowTime s g b → a ≡ b
time-only s g x y = let e = smallest-only (not_below s g) x.smallest y.smallest in let f = x.formula in let h = y.formula in cc

answer-only : (s : ℕ) (g : ℤ) (a : Answer) → AnswerFor s g a → a ≡ answer_of s g
answer-only s g a (out_of_range e) = sym (answer-refused s g e)
answer-only s g a (given steps e time) = ap Yellow (time-only s g time (time-stated s g e)) ∙ sym (answer-given s g e)

pub as-stated : AsStated
as-stated = record { stated = answer-stated; only = answer-only }

-- what the functions owe of a refusal, and of a time that is the stated one
pub promise-refused : (s : ℕ) (g : ℤ) → in_range s g ≡ false → (Refused 23 0 ≡ answer_of s g) × AnswerFor s g (Refused 23 0)
promise-refused s g e = (sym (answer-refused s g e), out_of_range e)

pub promise-given :
    (s : ℕ) (g : ℤ) (steps : ℕ) →
    in_range s g ≡ true →
    YellowTime s g steps →
    (Yellow steps ≡ answer_of s g) × AnswerFor s g (Yellow steps)
promise-given s g steps e time = (answer-only s g (Yellow steps) (given steps e time), given steps e time)

-- the entry of the grade's column is the stated time
pub entry-stated : (s : ℕ) (g : ℤ) (steps : ℕ) → in_range s g ≡ true → steps ≡ entry_at s (column_of g) → YellowTime s g steps
entry-stated s g steps e p =
    subst (λ (y : ℕ). YellowTime s g y) (time-at s g e ∙ sym p) (time-stated s g e)
