-- The float constants are 0 and 300.
use mathlib.Core.Bool.{Bool, ◌&&◌}
use mathlib.Core.Path.{◌∙◌, sym, ap}
use lib.Dec.{lit≤}
use lib.Ieee.{le, of_bits, of_int}
use Rattle.sheet_settings.specs.Sheet.{whole, metres_in_range}
use Rattle.sheet_settings.proofs.Metres.{le-cast}
use Rattle.sheet_settings.proofs.metres_in_range.Goals as goal

pub returns-then-metres : goal.returns-then-metres
unfolding metres_in_range of_bits of_int
returns-then-metres c =
    le-cast 300 c.args.metres (lit≤ tt)
    ∙ sym (ap (λ (t : Bool). t && le c.args.metres (whole 300)) c.if-metres.true)

pub returns-else-metres : goal.returns-else-metres
unfolding metres_in_range of_bits of_int
returns-else-metres c =
    c.if-metres.false ∙ sym (ap (λ (t : Bool). t && le c.args.metres (whole 300)) c.if-metres.false)
