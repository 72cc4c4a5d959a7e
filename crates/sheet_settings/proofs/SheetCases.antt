-- Every worked case holds: what the definitions compute is, case by case, what it must be.
use mathlib.Core.Path.{refl}
use lib.Ieee.{le, mul, of_int, of_bits}
use Rattle.rules.specs.Limits.{limits, limit_of}
use Rattle.sheet_settings.specs.Extremes.{largest_to, smallest_from}
use Rattle.sheet_settings.specs.Sheet.{metres_in_range, in_range, stand, covered, vehicles, minimum_green, passage_over, highest_minimum, highest_gap, within_limits, answer_from, answer_of}
use Rattle.sheet_settings.specs.SheetCases.{cases, CasesHold}

pub cases-hold : CasesHold
unfolding CasesHold cases answer_of in_range metres_in_range minimum_green vehicles largest_to stand passage_over smallest_from covered answer_from within_limits highest_minimum highest_gap limit_of limits le mul of_int of_bits
cases-hold = (refl, (refl, (refl, (refl, (refl, (refl, (refl, (refl, (refl, (refl, (refl, (refl, (refl, (refl, (refl, (refl, (refl, (refl, (refl, (refl, (refl, (refl, (refl, (refl, (refl, (refl, (refl, (refl, (refl, (refl, (refl, (refl, (refl, (refl, (refl, (refl, (refl, (refl, (refl, (refl, (refl, (refl, (refl, (refl, (refl, (refl, (refl, (refl, (refl, (refl, (refl, (refl, tt))))))))))))))))))))))))))))))))))))))))))))))))))))
