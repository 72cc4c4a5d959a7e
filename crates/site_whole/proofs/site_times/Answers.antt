-- A site has at most 7 phases and at most 8 movements.
use Rattle.std.proofs.Common.{arith}
use Rattle.site_whole.proofs.site_times.Goals as goal

pub read-requires : goal.read-requires
read-requires c =
    let fitting = rw c.f.view_is at c.f.invariant.0 in
    rw c.from.ensures (fitting.phases, omega (arith, fitting.phases, c.requires), λ there. omega (arith, fitting.phases, c.requires))

pub read-requires-2 : goal.read-requires-2
read-requires-2 c =
    let fitting = rw c.f.view_is at c.f.invariant.0 in
    let count = rw c.f.view_is at c.f.invariant.1 in
    (omega (arith, fitting.movements, count), omega (arith, fitting.movements, count, c.requires))
