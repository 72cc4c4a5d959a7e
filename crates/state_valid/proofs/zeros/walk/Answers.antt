-- A number of several bytes is 0 exactly if each setting in it is.
use Rattle.state_valid.proofs.Words.{walk-zero}
use Rattle.state_valid.proofs.zeros.walk.Goals as goal

pub returns : goal.returns
returns c = rw (c.four_in.ensures, c.two_in.ensures) (walk-zero c.args.bytes.now c.args.at)
