-- Every worked case of a trace holds: what the definition computes is, byte by byte, what the program must print.
use mathlib.Core.Path.{refl}
use Rattle.laws.specs.Bytes.{eight_at}
use Rattle.laws.specs.Decimal.{digits, decimal}
use Rattle.rules.specs.IntervalTable.{letter_of}
use Rattle.rules.specs.TraceText.{header, phase_letter, colour_letter, line_tail, step_line, refusal_line}
use Rattle.rules.specs.Trace.{◌and_then◌, cut, length_part, verdict_part, personality_part, record_part, outcome_part, step_part, records_from, trace_of}
use Rattle.rules.proofs.Opened.{opened}
use Rattle.run_text.specs.TraceCases.{trace_cases, TracesHold}

pub traces-hold : TracesHold
unfolding opened eight_at digits decimal letter_of header phase_letter colour_letter line_tail step_line refusal_line ◌and_then◌ cut length_part verdict_part personality_part record_part outcome_part step_part records_from trace_of trace_cases TracesHold
traces-hold = (refl, (refl, (refl, (refl, (refl, (refl, (refl, (refl, (refl, (refl, (refl, (refl, (refl, tt)))))))))))))
