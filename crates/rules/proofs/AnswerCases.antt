-- Every worked case of what a call answers and writes holds.
use mathlib.Core.Path.{refl}
use Rattle.rules.specs.Lookup.{head_of, report_of, lookup_report, section_part, part_for, section_of}
use Rattle.rules.specs.Call.{bound_of}
use Rattle.rules.specs.IntervalTable.{letter_of}
use Rattle.rules.specs.TraceText.{phase_letter, colour_letter, line_tail}
use Rattle.rules.specs.CallCases.{CallHolds, AllHold}
use Rattle.rules.specs.AnswerCases.{input_cases, colour_cases, answer_cases, AnswersHold}
use Rattle.rules.proofs.Opened.{opened}

input-cases-hold : AllHold CallHolds input_cases
unfolding opened head_of report_of lookup_report section_part part_for section_of bound_of letter_of phase_letter colour_letter line_tail input_cases
input-cases-hold = (refl, (refl, (refl, (refl, (refl, (refl, (refl, (refl, (refl, (refl, (refl, (refl, (refl, (refl, (refl, (refl, (refl, tt)))))))))))))))))

colour-cases-hold : AllHold CallHolds colour_cases
unfolding opened head_of report_of lookup_report section_part part_for section_of bound_of letter_of phase_letter colour_letter line_tail colour_cases
colour-cases-hold = (refl, (refl, (refl, (refl, (refl, (refl, (refl, (refl, (refl, (refl, (refl, (refl, (refl, (refl, (refl, (refl, (refl, (refl, (refl, (refl, (refl, (refl, (refl, (refl, (refl, tt)))))))))))))))))))))))))

answer-cases-hold : AllHold CallHolds answer_cases
unfolding opened head_of report_of lookup_report section_part part_for section_of bound_of letter_of phase_letter colour_letter line_tail answer_cases
answer-cases-hold = (refl, (refl, (refl, (refl, (refl, (refl, (refl, (refl, (refl, (refl, (refl, (refl, (refl, (refl, (refl, (refl, (refl, (refl, (refl, (refl, (refl, (refl, (refl, (refl, (refl, (refl, (refl, (refl, (refl, (refl, (refl, (refl, (refl, (refl, (refl, (refl, (refl, (refl, (refl, (refl, (refl, (refl, (refl, (refl, (refl, (refl, (refl, (refl, (refl, (refl, (refl, (refl, (refl, (refl, tt))))))))))))))))))))))))))))))))))))))))))))))))))))))

pub answers-hold : AnswersHold
unfolding AnswersHold
answers-hold = (input-cases-hold, colour-cases-hold, answer-cases-hold)
