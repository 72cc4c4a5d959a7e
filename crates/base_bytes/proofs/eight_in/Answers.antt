use Rattle.laws.specs.Bytes.{eight_at}
use Rattle.base_bytes.proofs.eight_in.Goals as goal

pub returns : goal.returns
unfolding eight_at
returns c = simp (c.from.ensures, c.from-2.ensures, c.four_in.ensures, c.four_in-2.ensures)
