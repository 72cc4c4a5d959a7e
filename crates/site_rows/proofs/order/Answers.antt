use Rattle.std.proofs.Common.{arith}
use Rattle.rules.specs.Site.{site_of}
use Rattle.laws.proofs.Rows.{filled_none, filled_more, filled-whole}
use Rattle.site_rows.proofs.order.Goals as goal

pub loop-i-init : goal.loop-i-init
loop-i-init c = filled_none

pub bounds-phases-from : goal.bounds-phases-from
bounds-phases-from c =
    let fitting = rw c.f.view_is at c.f.invariant.0 in
    omega (arith, fitting.phases)

pub loop-i-preserved : goal.loop-i-preserved
loop-i-preserved c =
    let fitting = rw c.f.view_is at c.f.invariant.0 in
    rw c.from.ensures (filled_more c.loop-i.invariant c.order_in.ensures (omega (arith, fitting.laid.phasecount)) (omega (arith, fitting.phases)))

pub returns : goal.returns
unfolding site_of
returns c =
    let fitting = rw c.f.view_is at c.f.invariant.0 in
    filled-whole c.loop-i.invariant (omega (arith, fitting.laid.phasecount))
