-- If kind 9 is present, the personality reaches to its end.
use Rattle.std.proofs.Common.{arith}
use Rattle.rules.specs.Personality.{body_at}
use Rattle.site_rows.proofs.order_in.Goals as goal

pub byte_in-requires : goal.byte_in-requires
unfolding body_at
byte_in-requires c =
    let fitting = rw c.f.view_is at c.f.invariant.0 in
    rw c.f.view_is (omega (arith, fitting.laid.phasecount, fitting.order c.if-f.true))
