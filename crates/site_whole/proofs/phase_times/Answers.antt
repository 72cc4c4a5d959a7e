use Rattle.std.proofs.Common.{◌∙◌, arith}
use Rattle.rules.specs.Personality.{body_at}
use Rattle.site_rows.proofs.Ends.{phases-end}
use Rattle.site_whole.proofs.SameRows.{phases-own}
use Rattle.site_whole.proofs.phase_times.Goals as goal

pub read-requires : goal.read-requires
unfolding body_at
read-requires c =
    let fitting = rw c.f.view_is at c.f.invariant.0 in
    rw (c.from.ensures, c.f.view_is) (fitting.phases, omega (arith, phases-end fitting), fitting.early)

pub returns : goal.returns
returns c =
    let fitting = rw c.f.view_is at c.f.invariant.0 in
    rw (c.from.ensures, c.f.view_is) at c.read.ensures ∙ phases-own _ c.f.inside.layout.now fitting.laid
