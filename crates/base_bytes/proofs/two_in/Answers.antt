use Rattle.std.proofs.Common.{arith}
use Rattle.laws.specs.Bytes.{byte_at, two_at}
use Rattle.base_bytes.proofs.two_in.Goals as goal

pub returns : goal.returns
unfolding two_at byte_at
returns c = omega (arith, c.from_le_bytes.ensures)
