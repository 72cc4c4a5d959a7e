-- By the two cases of the answer.
use Rattle.std.proofs.Common.{sym, ap, ◌∙◌, arith}
use Rattle.std.proofs.lemmas.Grind.{common_steps}
use mir.Facts.{to_z-of_z}
use Rattle.sheet_yellow.specs.Yellow.{yellow_report_of, steps_of, answer_of}
use Rattle.board_answers.specs.Answers.{packed}
use Rattle.board_yellow.specs.YellowCall.{packed_yellow, yellow_answer}
use Rattle.board_yellow.proofs.yellow.Goals as goal

pub returns-in-Ok : goal.returns-in-Ok
unfolding yellow_answer packed_yellow yellow_report_of steps_of packed
returns-in-Ok c =
    let e = ap (answer_of c.args.speed) (to_z-of_z c.ranges.grade) in
    rw (sym (c.yellow.ensures.0 ∙ e) ∙ c.in-Ok.is) (grind (arith, common_steps))

pub returns-in-Err : goal.returns-in-Err
unfolding yellow_answer packed_yellow yellow_report_of steps_of packed
returns-in-Err c =
    let e = ap (answer_of c.args.speed) (to_z-of_z c.ranges.grade) in
    rw (sym (c.yellow.ensures.0 ∙ e) ∙ c.in-Err.is) (grind (arith, common_steps))
