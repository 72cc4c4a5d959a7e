-- Every worked case of the cabinet holds: what the definitions compute is, case by case, what it must be.
use mathlib.Core.Path.{refl}
use Rattle.rules.proofs.Opened.{opened}
use Rattle.state_forms.specs.Forms.{parts_of}
use Rattle.state_timed.specs.TimedLayout.{timed_encoded, timed_decoded, is_timed}
use Rattle.board_answers.specs.Answers.{packed, packed_verdict, packed_outcome}
use Rattle.state_valid.specs.StateOf.{is_state_of}
use Rattle.board_step.specs.StepCall.{step_checks, stepped_in, step_answer, state_after, colours_after}
use Rattle.cabinet_records.specs.Cabinet.{is_free, length_of, personality_of, free_record, holding, with_state, record_of, has_record, outputs_of, past_last, is_accepted, has_outputs, meet, meets_record, overlaps, is_short, written_at, outputs_in, own_outputs, placing_verdict, held_verdict, taking_verdict, returned_for, placing, stepped, stepping, taking_out, doing}
use Rattle.cabinet_records.specs.CabinetCases.{answers_of, outputs_after, answers_each, four_free, red_outputs, beyond, stateless, old_bytes, refused_site, refused_past, longer, odd_row, placed_row, retimed_row, cases, CabinetCasesHold}

pub cabinet-cases-hold : CabinetCasesHold
unfolding
    opened parts_of timed_encoded timed_decoded is_timed packed packed_verdict packed_outcome is_state_of step_checks stepped_in step_answer state_after colours_after
    is_free length_of personality_of free_record holding with_state record_of has_record outputs_of past_last is_accepted has_outputs meet meets_record overlaps is_short written_at
    outputs_in own_outputs placing_verdict held_verdict taking_verdict returned_for placing stepped stepping taking_out doing answers_of outputs_after answers_each four_free
    red_outputs beyond stateless old_bytes refused_site refused_past longer odd_row placed_row retimed_row cases CabinetCasesHold
cabinet-cases-hold =
    ((refl, refl), (refl, (refl, (refl, (refl, (refl, (refl, (refl, (refl, (refl, (refl, (refl, (refl, (refl, tt))))))))))))))
