-- A turn puts the bit of one group.
use Rattle.std.proofs.Common.{ℕ, ap, arith, eqb}
use Rattle.rules.specs.Site.{group_of}
use Rattle.rules.specs.Colours.{green}
use Rattle.road_step.proofs.GreenGroups.{greens-none, greens-more}
use Rattle.road_step.proofs.greens.greens_at.Goals as goal

pub loop-g-init : goal.loop-g-init
loop-g-init c = greens-none

pub loop-g-preserved : goal.loop-g-preserved
unfolding group_of
loop-g-preserved c =
    greens-more c.loop-g.invariant (ap (λ (shown : ℕ). eqb shown green) c.vehicle_shown-shown.ensures) c.with_bit-greens.ensures

pub returns : goal.returns
returns c = λ g l. c.loop-g.invariant.passed g (omega (arith, l, c.loop-g-test.false))
