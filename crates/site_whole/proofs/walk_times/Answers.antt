use Rattle.std.proofs.Common.{◌∙◌, arith}
use Rattle.rules.specs.Personality.{body_at}
use Rattle.site_whole.proofs.SameRows.{walks-own}
use Rattle.site_whole.proofs.walk_times.Goals as goal

pub read-requires : goal.read-requires
unfolding body_at
read-requires c =
    let fitting = rw c.f.view_is at c.f.invariant.0 in
    let count = rw c.f.view_is at c.f.invariant.1 in
    rw c.f.view_is (omega (arith, fitting.movements, count), omega (arith, fitting.whole, count))

pub returns : goal.returns
returns c =
    let fitting = rw c.f.view_is at c.f.invariant.0 in
    rw (c.f.invariant.1, c.f.view_is) at c.read.ensures ∙ walks-own _ c.f.inside.layout.now fitting.laid
