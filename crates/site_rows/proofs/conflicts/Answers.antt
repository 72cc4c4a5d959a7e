use Rattle.std.proofs.Common.{arith}
use Rattle.rules.specs.Personality.{body_at, record_at, conflict_set}
use Rattle.rules.specs.Site.{site_of}
use Rattle.site_rows.proofs.Ends.{conflicts-end}
use Rattle.laws.proofs.Rows.{filled_none, filled_more, filled-whole}
use Rattle.site_rows.proofs.conflicts.Goals as goal

pub loop-g-init : goal.loop-g-init
loop-g-init c = filled_none

pub four_in-requires : goal.four_in-requires
unfolding record_at body_at
four_in-requires c =
    let fitting = rw c.f.view_is at c.f.invariant.0 in
    rw c.f.view_is (omega (arith, conflicts-end fitting))

pub bounds-rows-g : goal.bounds-rows-g
bounds-rows-g c =
    let fitting = rw c.f.view_is at c.f.invariant.0 in
    omega (arith, fitting.groups)

pub loop-g-preserved : goal.loop-g-preserved
unfolding conflict_set record_at body_at
loop-g-preserved c =
    let fitting = rw c.f.view_is at c.f.invariant.0 in
    filled_more c.loop-g.invariant (simp (c.four_in.ensures, c.f.view_is, fitting.laid.conflicts))
    (omega (arith, fitting.laid.groupcount)) (omega (arith, fitting.groups))

pub returns : goal.returns
unfolding site_of
returns c =
    let fitting = rw c.f.view_is at c.f.invariant.0 in
    filled-whole c.loop-g.invariant (omega (arith, fitting.laid.groupcount))
