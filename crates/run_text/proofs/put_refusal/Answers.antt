-- The parts of the line are put one behind the other. A decimal has at most 20 digits.
use Rattle.std.proofs.Common.{arith}
use Rattle.laws.proofs.Decimals.{at_most}
use Rattle.rules.specs.TraceText.{refusal_line}
use Rattle.base_text.proofs.Puts.{put_then}
use Rattle.run_text.proofs.Lines.{put_first}
use Rattle.run_text.proofs.put_refusal.Goals as goal

pub put_decimal-second-requires : goal.put_decimal-second-requires
put_decimal-second-requires c = omega (arith, at_most 19 c.from.result (omega arith))

pub put_bytes-third-requires : goal.put_bytes-third-requires
put_bytes-third-requires c = omega (arith, at_most 19 c.from.result (omega arith))

pub put_decimal-fourth-requires : goal.put_decimal-fourth-requires
put_decimal-fourth-requires c = omega (arith, at_most 19 c.from.result (omega arith), at_most 19 c.args.place (omega arith))

pub put_bytes-requires : goal.put_bytes-requires
put_bytes-requires c = omega (arith, at_most 19 c.from.result (omega arith), at_most 19 c.args.place (omega arith))

pub returns : goal.returns
unfolding refusal_line
returns c =
    put_first
    (put_then
    (put_then
    (put_then (put_then c.put_bytes-first.ensures (rw c.from.ensures at c.put_decimal-second.ensures)) c.put_bytes-third.ensures)
    c.put_decimal-fourth.ensures)
    c.put_bytes.ensures)
    (omega (arith, at_most 19 c.from.result (omega arith), at_most 19 c.args.place (omega arith)))
