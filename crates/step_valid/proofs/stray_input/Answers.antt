-- The two quotients have the bits that must be clear.
use Rattle.std.proofs.Common.{arith}
use Rattle.std.proofs.lemmas.Grind.{common_steps}
use Rattle.step_valid.proofs.Inputs.{stray-by-quotients}
use Rattle.step_valid.proofs.stray_input.Goals as goal

pub returns-then-low-size-ne0 : goal.returns-then-low-size-ne0
returns-then-low-size-ne0 c =
    rw (← c.site.view_is) (grind (arith, common_steps, stray-by-quotients c.site.inside.site c.site.invariant c.args.inputs c.ranges.inputs.fits))

pub returns-else-low-size-ne0 : goal.returns-else-low-size-ne0
returns-else-low-size-ne0 c =
    rw (← c.site.view_is) (grind (arith, common_steps, stray-by-quotients c.site.inside.site c.site.invariant c.args.inputs c.ranges.inputs.fits))
