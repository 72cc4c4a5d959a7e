use Rattle.std.proofs.Common.{arith}
use Rattle.laws.specs.Bytes.{byte_at}
use Rattle.base_bytes.proofs.Joined.{four-by-bytes}
use Rattle.base_bytes.proofs.four_in.Goals as goal

pub returns : goal.returns
unfolding byte_at
returns c = rw four-by-bytes (omega (arith, c.from_le_bytes.ensures))
