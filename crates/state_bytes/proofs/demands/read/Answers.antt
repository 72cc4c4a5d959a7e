use Rattle.std.proofs.Common.{add-zero}
use Rattle.laws.specs.Bytes.{byte_at}
use Rattle.state_bytes.proofs.demands.read.Goals as goal

pub returns : goal.returns
unfolding byte_at
returns c = rw add-zero
