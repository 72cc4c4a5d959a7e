-- The yellow time by speed and grade over the board interface. The lowest byte of the answer is the number of the refusal, 0 if there is a yellow
-- time. Above it is the place, or the yellow time.
use Rattle.std.specs.Prelude.{ℕ, ◌+◌, ℤ}
use Rattle.sheet_yellow.specs.Yellow.{Answer, yellow_report_of, steps_of, answer_of}
use Rattle.board_answers.specs.Answers.{packed}

unfoldable pub packed_yellow : Answer → ℕ
packed_yellow a = packed (yellow_report_of a).number ((yellow_report_of a).place + steps_of a)

unfoldable pub yellow_answer : ℕ → ℤ → ℕ
yellow_answer speed grade = packed_yellow (answer_of speed grade)
