-- The eight bits from the mode's first place on.
use Rattle.std.proofs.Common.{◌*◌, ◌/◌, ◌^◌, ◌∙◌}
use Rattle.laws.proofs.Bits.{bit-lower, bit-down}
use Rattle.step_demands_detectors.proofs.with_mode.Goals as goal

pub returns : goal.returns
returns c p l =
    let set = c.args.set in
    let first = 8 * c.args.mode in
    bit-lower 8 p (set / 2 ^ first) l ∙ bit-down set first p
