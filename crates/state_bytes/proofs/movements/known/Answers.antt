use Rattle.std.proofs.Common.{refl, sym, ◌∙◌}
use Rattle.laws.specs.Bytes.{byte_at}
use Rattle.laws.proofs.Folds.{tested-none, tested-more, tested-all}
use Rattle.laws.proofs.JoinedBits.{joined-below}
use Rattle.state_bytes.proofs.KnownBytes.{movements-tested}
use Rattle.state_bytes.proofs.movements.known.Goals as goal

pub loop-k-init : goal.loop-k-init
loop-k-init c = tested-none

pub loop-k-preserved : goal.loop-k-preserved
unfolding byte_at
loop-k-preserved c = rw (joined-below 2 _ _) (tested-more c.loop-k.invariant c.loop-k-test.true refl)

pub returns : goal.returns
returns c =
    c.stage_known.ensures ∙ tested-all c.loop-k.invariant c.loop-k-test.false ∙ sym (movements-tested c.args.bytes.now c.args.at 8)
