-- A buffer without room, and one with the tail at its start.
use Rattle.std.proofs.Common.{arith}
use Rattle.run_text.proofs.Tails.{fitting, too_long}
use Rattle.run_text.proofs.tail.Goals as goal

pub returns-then-out-end-clause-value : goal.returns-then-out-end-clause-value
returns-then-out-end-clause-value c = (too_long c.args.position c.args.colours.now c.args.out.now c.if-out-end.true).0

pub returns-then-out-end-clause-out_after : goal.returns-then-out-end-clause-out_after
returns-then-out-end-clause-out_after c = (too_long c.args.position c.args.colours.now c.args.out.now c.if-out-end.true).1

pub returns : goal.returns
returns c =
    let told = fitting c.args.position c.args.colours.now c.args.out.now (omega arith) c.put_tail.ensures in
    record { counted = told.0; value = told.1.0; out_after = told.1.1 }
