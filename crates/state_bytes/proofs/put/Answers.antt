use Rattle.state_bytes.proofs.Written.{written}
use Rattle.state_bytes.proofs.put.Goals as goal

pub returns : goal.returns
returns c =
    rw (c.put-4.ensures, c.put-3.ensures, c.put-2.ensures, c.put.ensures)
    (written c.args.state c.args.bytes.now c.args.at)
