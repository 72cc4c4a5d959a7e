-- The settings of a site sheet over the board interface. The lowest byte of the answer is the number of the refusal, 0 if there are settings. Above
-- it are the place, or minimum green in 16 bits and then the passage time in 16 bits.
use Rattle.std.specs.Prelude.{ℕ, ◌+◌, ◌*◌, eqb, if◌then◌else◌, Float}
use Rattle.sheet_settings.specs.declared.Detector.TheVariants.{Advance, StopLine}
use Rattle.sheet_settings.specs.Sheet.{Answer, settings_report_of, minimum_of, passage_of, answer_of}
use Rattle.board_answers.specs.Answers.{packed}

unfoldable pub packed_settings : Answer → ℕ
packed_settings a =
    packed (settings_report_of a).number ((settings_report_of a).place + minimum_of a + 65536 * passage_of a)

-- 0 is an advance detector, 1 a stop-line zone; any other number is refused like a sheet out of range
unfoldable pub settings_answer : ℕ → ℕ → Float → ℕ
settings_answer speed detector metres =
    if eqb detector 0
    then packed_settings (answer_of (record { speed = speed; detector = Advance metres }))
    else if eqb detector 1
    then packed_settings (answer_of (record { speed = speed; detector = StopLine metres }))
    else packed 19 0
