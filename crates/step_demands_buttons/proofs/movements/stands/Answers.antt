-- The union of the locks and of the phases of the demanded movements.
use Rattle.std.proofs.Common.{arith}
use Rattle.laws.specs.Bytes.{bit}
use Rattle.rules.specs.Demands.{stands}
use Rattle.laws.proofs.ByteSets.{self-told, union-told}
use Rattle.step_demands_buttons.proofs.movements.stands.Goals as goal

pub returns : goal.returns
unfolding stands
returns c =
    let locks = c.args.demands.locks in
    union-told (λ p. bit p locks) _ locks _ (self-told locks (omega arith)) c.movement_demands.ensures
