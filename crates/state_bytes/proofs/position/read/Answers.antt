use Rattle.std.proofs.Common.{add-zero}
use Rattle.laws.specs.Bytes.{byte_at}
use Rattle.state_bytes.proofs.KnownBytes.{position-told}
use Rattle.state_bytes.proofs.position.read.Goals as goal

pub interval_of-requires : goal.interval_of-requires
unfolding byte_at
interval_of-requires c = (position-told c.args.bytes.now c.args.at c.requires.1).code

pub returns : goal.returns
unfolding byte_at
returns c = rw (c.get_held-2.ensures, c.get_held.ensures, c.two_in.ensures, c.interval_of.ensures, add-zero)
