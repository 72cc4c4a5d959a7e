-- Request nine of document 02: the yellow time by speed and grade. The speed is in whole km/h, the grade in whole percent, uphill
-- positive.
use Rattle.std.specs.Prelude.{ℕ, ◌+◌, ◌-◌, ◌*◌, max, Bool, true, false, ◌&&◌, List, ◌≡◌, leb, length, get_or, if◌then◌else◌, ℤ, pos, negsuc, nat_abs, ◌+ℤ◌, ◌*ℤ◌, Result, Ok, Err}
use Rattle.std.specs.Int.Signed.{le_z}
use Rattle.rules.specs.declared.answer.Refusal.{Refusal}
use Rattle.rules.specs.declared.answer.Report.{Report}
use Rattle.sheet_settings.specs.Extremes.{Smallest, smallest_from}

-- ── The ranges, number 23 ──

abbrev pub speed_in_range : ℕ → Bool
speed_in_range speed = leb 40 speed && leb speed 110

-- from −10 to 10; `negsuc 9` is −10
abbrev pub grade_in_range : ℤ → Bool
grade_in_range grade = le_z (negsuc 9) grade && le_z grade (pos 10)

unfoldable pub in_range : ℕ → ℤ → Bool
in_range speed grade = speed_in_range speed && grade_in_range grade

-- ── The yellow time ──

-- 36 × (6,000 + 196 × grade)
unfoldable pub divisor : ℤ → ℤ
divisor grade = pos 36 *ℤ (pos 6000 +ℤ pos 196 *ℤ grade)

-- t is not below the fraction: t × divisor ≥ 100,000 × speed
unfoldable pub not_below : ℕ → ℤ → ℕ → Bool
not_below speed grade t = le_z (pos (100000 * speed)) (pos t *ℤ divisor grade)

-- the greater of 30 and 10 + t; t is the fraction rounded up, the smallest whole number that is not below it
pub record YellowTime (speed : ℕ) (grade : ℤ) (steps : ℕ) : Type 0 where
  pub t : ℕ
  pub smallest : Smallest (not_below speed grade) t
  pub formula : steps ≡ max 30 (10 + t)

-- ── The answer: a yellow time, or a refusal with its number and place ──

abbrev pub Answer : Type 0
Answer = Result ℕ Refusal

abbrev pub Yellow : ℕ → Answer
Yellow steps = Ok steps

abbrev pub Refused : ℕ → ℕ → Answer
Refused number place = Err (record { number = number; place = place })

pub data AnswerFor (speed : ℕ) (grade : ℤ) : Answer → Type 0 where
  out_of_range : in_range speed grade ≡ false → AnswerFor speed grade (Refused 23 0)
  given : (steps : ℕ) → in_range speed grade ≡ true → YellowTime speed grade steps → AnswerFor speed grade (Yellow steps)

-- The paper's number and place for each answer, and the yellow time that it gives.
unfoldable pub yellow_report_of : Answer → Report
yellow_report_of (Ok steps) = record { number = 0; place = 0 }
yellow_report_of (Err r) = record { number = r.number; place = r.place }

unfoldable pub steps_of : Answer → ℕ
steps_of (Ok steps) = steps
steps_of (Err r) = 0

-- ── The answer, computed. In range the fraction is never above 76 ──

unfoldable pub rounded_up : ℕ → ℤ → ℕ
rounded_up speed grade = smallest_from 0 76 (not_below speed grade)

unfoldable pub yellow_time : ℕ → ℤ → ℕ
yellow_time speed grade = max 30 (10 + rounded_up speed grade)

unfoldable pub answer_of : ℕ → ℤ → Answer
answer_of speed grade = if in_range speed grade then Yellow (yellow_time speed grade) else Refused 23 0

-- the computed answer is the one stated, and no other is
pub record AsStated : Type 0 where
  pub stated : (speed : ℕ) (grade : ℤ) → AnswerFor speed grade (answer_of speed grade)
  pub only : (speed : ℕ) (grade : ℤ) (a : Answer) → AnswerFor speed grade a → a ≡ answer_of speed grade

-- ── The table ──

-- It has 1,491 entries, by speed and then by grade, both rising. Each is the yellow time of its speed and grade. The place of an entry counts
-- the speeds from 40 and the 21 grades of a speed from −10.
pub record FollowsTheRule (table : List ℕ) : Type 0 where
  pub count : length table ≡ 1491
  pub each :
      (speed : ℕ) (grade : ℤ) →
      in_range speed grade ≡ true →
      YellowTime speed grade (get_or table (21 * (speed - 40) + nat_abs (grade +ℤ pos 10)) 0)
