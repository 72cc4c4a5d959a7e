-- The tail is put behind the number, which has at most 20 digits.
use Rattle.std.proofs.Common.{arith}
use Rattle.laws.proofs.Decimals.{at_most}
use Rattle.rules.specs.TraceText.{step_line}
use Rattle.base_text.proofs.Puts.{put_then}
use Rattle.run_text.proofs.Lines.{tail-length, put_first}
use Rattle.run_text.proofs.put_step.Goals as goal

pub put_decimal-next-requires : goal.put_decimal-next-requires
put_decimal-next-requires c = omega (arith, at_most 19 c.args.step (omega arith))

pub put_tail-requires : goal.put_tail-requires
put_tail-requires c = omega (arith, at_most 19 c.args.step (omega arith))

pub returns : goal.returns
unfolding step_line
returns c =
    let a = c.args in
    put_first (put_then c.put_decimal-next.ensures c.put_tail.ensures)
    (omega (arith, tail-length a.position a.colours.now, at_most 19 a.step (omega arith)))
