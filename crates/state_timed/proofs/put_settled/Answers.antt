use Rattle.state_timed.proofs.TimedWritten.{settled-written}
use Rattle.state_timed.proofs.put_settled.Goals as goal

pub returns : goal.returns
returns c =
    rw (c.put_all.ensures, c.put-2.ensures, c.put.ensures)
    (settled-written c.args.bytes.now c.args.state c.args.ruling c.requires)
