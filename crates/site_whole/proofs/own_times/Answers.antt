use Rattle.std.proofs.Common.{arith}
use Rattle.rules.specs.Personality.{body_at}
use Rattle.site_rows.proofs.Ends.{phases-end}
use Rattle.site_whole.proofs.own_times.Goals as goal

pub two_in-requires : goal.two_in-requires
unfolding body_at
two_in-requires c =
    let fitting = rw c.f.view_is at c.f.invariant.0 in
    rw c.f.view_is (omega (arith, phases-end fitting))
