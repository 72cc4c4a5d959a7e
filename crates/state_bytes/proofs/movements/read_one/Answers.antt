use Rattle.std.proofs.Common.{add-zero}
use Rattle.laws.specs.Bytes.{byte_at}
use Rattle.state_bytes.proofs.KnownBytes.{stage-told}
use Rattle.state_bytes.proofs.movements.read_one.Goals as goal

pub stage_of-requires : goal.stage_of-requires
unfolding byte_at
stage_of-requires c = stage-told c.args.bytes.now c.args.at c.requires.1

pub returns : goal.returns
unfolding byte_at
returns c = rw (c.two_in.ensures, c.stage_of.ensures, add-zero)
