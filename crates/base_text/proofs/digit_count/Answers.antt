use Rattle.std.proofs.Common.{arith}
use Rattle.laws.proofs.Decimals.{length-one, length_more}
use Rattle.base_text.proofs.digit_count.Goals as goal

pub loop-front-preserved : goal.loop-front-preserved
loop-front-preserved g c =
    let more = length_more (g.D.Decimal.number c.loop-front.rest) c.in-Some.ensures.cut.0 in
    rw c.in-Some.ensures.cut.1 (omega (arith, c.in-Some.ensures.few))

pub returns : goal.returns
returns g c =
    let one = length-one (g.D.Decimal.number c.loop-front.rest) c.in_default.ensures.cut in
    omega (arith, c.in_default.ensures.few)
