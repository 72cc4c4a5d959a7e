-- Every worked line holds, by computation.
use mathlib.Core.Path.{refl}
use Rattle.rules.specs.TraceText.{phase_letter}
use Rattle.rules.proofs.Opened.{opened}
use Rattle.laws.specs.Decimal.{digits, decimal}
use Rattle.panel_text.specs.Text.{reason_text, reasons_text, line}
use Rattle.panel_line.specs.Reasons.{told, walks, reasons_by}
use Rattle.panel_reasons.specs.PanelLine.{no_other, steps_left, walking_among, reasons_of, panel_line}
use Rattle.state_forms.specs.Forms.{parts_of}
use Rattle.state_timed.specs.TimedLayout.{is_timed, timed_encoded, timed_decoded}
use Rattle.state_valid.specs.StateOf.{is_state_of}
use Rattle.board_panel.specs.PanelCall.{length_checks, why_checks, line_after}
use Rattle.proof_panel.specs.WhyCases.{eight_crossings, why_cases, WhyCasesHold}

pub why-cases-hold : WhyCasesHold
unfolding opened phase_letter digits decimal reason_text reasons_text line told walks reasons_by no_other steps_left walking_among reasons_of panel_line parts_of is_timed timed_encoded timed_decoded is_state_of length_checks why_checks line_after eight_crossings why_cases WhyCasesHold
why-cases-hold = ((refl, refl), ((refl, refl), ((refl, refl), ((refl, refl), ((refl, refl), ((refl, refl), ((refl, refl), ((refl, refl), ((refl, refl), ((refl, refl), ((refl, refl), ((refl, refl), ((refl, refl), ((refl, refl), (refl, (refl, (refl, (refl, (refl, (refl, (refl, (refl, (refl, tt)))))))))))))))))))))))
