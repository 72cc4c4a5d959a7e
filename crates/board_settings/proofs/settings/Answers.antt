-- By the detector's number.
use Rattle.std.proofs.Common.{arith}
use Rattle.std.proofs.lemmas.Bool.Decides.{nat_tests}
use Rattle.board_settings.specs.SettingsCall.{settings_answer}
use Rattle.board_settings.proofs.settings.Goals.{in-0, in-1}
use Rattle.board_settings.proofs.settings.Goals as goal

pub returns-in_default : goal.returns-in_default
unfolding settings_answer
returns-in_default c = grind (arith, nat_tests)

pub returns : goal.returns
unfolding settings_answer
returns c = elim c.match-detector.branch [ in-0 w ↦ grind (arith, nat_tests) | in-1 w ↦ grind (arith, nat_tests) ]
