-- Every worked case holds: what the definitions compute is, case by case, what it must be.
use mathlib.Core.Path.{refl}
use Rattle.sheet_settings.specs.Extremes.{smallest_from}
use Rattle.sheet_yellow.specs.Yellow.{in_range, divisor, not_below, rounded_up, yellow_time, answer_of}
use Rattle.sheet_yellow.specs.YellowCases.{cases, CasesHold}

pub cases-hold : CasesHold
unfolding CasesHold cases answer_of in_range yellow_time rounded_up smallest_from not_below divisor
cases-hold = (refl, (refl, (refl, (refl, (refl, (refl, (refl, (refl, (refl, (refl, (refl, (refl, (refl, (refl, (refl, (refl, (refl, (refl, tt))))))))))))))))))
