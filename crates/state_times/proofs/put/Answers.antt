use Rattle.state_times.proofs.Written.{times-written}
use Rattle.state_times.proofs.put.Goals as goal

pub returns : goal.returns
returns c =
    rw (c.put_early.ensures, c.put-2.ensures, c.put.ensures, c.put_two.ensures)
    (times-written c.args.times c.args.bytes.now c.args.at)
