use Rattle.std.proofs.Common.{add-zero}
use Rattle.laws.specs.Bytes.{byte_at}
use Rattle.state_bytes.proofs.read.Goals as goal

pub returns : goal.returns
unfolding byte_at
returns c = rw (c.read-4.ensures, c.read-3.ensures, c.read-2.ensures, c.read.ensures, add-zero)
