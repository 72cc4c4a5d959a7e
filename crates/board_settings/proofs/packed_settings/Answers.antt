-- By the two cases of the answer.
use Rattle.std.proofs.Common.{sym, ◌∙◌, arith}
use Rattle.std.proofs.lemmas.Grind.{common_steps}
use Rattle.sheet_settings.specs.Sheet.{settings_report_of, minimum_of, passage_of}
use Rattle.board_answers.specs.Answers.{packed}
use Rattle.board_settings.specs.SettingsCall.{packed_settings}
use Rattle.board_settings.proofs.packed_settings.Goals as goal

pub returns-in-Ok : goal.returns-in-Ok
unfolding packed_settings settings_report_of minimum_of passage_of packed
returns-in-Ok c = rw (sym c.settings.ensures.0 ∙ c.in-Ok.is) (grind (arith, common_steps))

pub returns-in-Err : goal.returns-in-Err
unfolding packed_settings settings_report_of minimum_of passage_of packed
returns-in-Err c = rw (sym c.settings.ensures.0 ∙ c.in-Err.is) (grind (arith, common_steps))
