-- A number of several bytes is 0 exactly if each setting in it is.
use Rattle.state_valid.proofs.Words.{phase-zero}
use Rattle.state_valid.proofs.zeros.phase.Goals as goal

pub returns : goal.returns
returns c = λ has. rw (c.eight_in.ensures, c.four_in.ensures) (phase-zero c.args.bytes.now c.args.at c.args.early has)
