-- The buffer is too short for the line, or the line is put into it.
use Rattle.std.proofs.Common.{ap, ◌∙◌, arith}
use Rattle.panel_line.specs.Reasons.{line_of}
use Rattle.board_answers.specs.Answers.{packed}
use Rattle.board_panel.proofs.PanelCalls.{too_short, has_room}
use Rattle.board_panel.proofs.put_in.Goals as goal

pub returns-then-line-line_length : goal.returns-then-line-line_length
returns-then-line-line_length c = too_short (line_of c.args.why) c.args.line.now (omega arith) c.refusal.ensures

pub returns : goal.returns
returns c =
    let a = c.args in
    has_room (line_of a.why) a.line.now (omega arith) (c.packed.ensures ∙ ap (packed 0) c.put_line.ensures.0) c.put_line.ensures.1
