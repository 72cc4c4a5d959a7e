use Rattle.std.proofs.Common.{arith, rules}
use lib.ListN.{length-set}
use Rattle.laws.specs.Bytes.{byte_at}
use Rattle.state_timed.proofs.TimedLaws.{timed-known}
use Rattle.state_timed.proofs.TimedWritten.{waiting-written}
use Rattle.state_timed.proofs.put_waiting.Goals as goal

pub bounds-bytes-187 : goal.bounds-bytes-187
bounds-bytes-187 c = omega (arith, (timed-known c.args.bytes.now c.requires).size)

pub put-requires : goal.put-requires
put-requires c = simp length-set (omega (arith, (timed-known c.args.bytes.now c.requires).size))

pub returns : goal.returns
unfolding byte_at
returns c =
    rw c.put.ensures
    (waiting-written c.args.bytes.now (record { each = λ i. search rules }) c.requires c.args.times)
