use Rattle.std.proofs.Common.{◌+◌, ◌*◌, rules, arith}
use Rattle.laws.proofs.Folds.{all-at}
use Rattle.laws.proofs.Lists.{list-told}
use Rattle.rules.specs.State.{idle}
use Rattle.state_bytes.specs.Layout.{movement}
use Rattle.state_bytes.proofs.movements.read.Goals as goal

pub row-requires : goal.row-requires
row-requires c = (
  omega arith,
  (
    omega arith,
    λ k l.
        let known = all-at (λ k. movement.known c.args.bytes.now (c.args.at + k * 3)) 8 k c.requires.1 l in
        search (rules, known),
  ),
)

pub returns : goal.returns
returns c =
    list-told (λ k. movement.read c.args.bytes.now (c.args.at + k * 3)) c.row.result 8 idle (omega arith) (λ k l. search (rules, c.row.ensures.entries k l))
