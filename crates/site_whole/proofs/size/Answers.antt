-- A site has at most 48 detectors and at most 8 movements.
use Rattle.std.proofs.Common.{arith}
use Rattle.rules.specs.Personality.{detector_count, pedestrians_head, body_at}
use Rattle.site_whole.proofs.size.Goals as goal

pub overflow_cast-result : goal.overflow_cast-result
unfolding detector_count pedestrians_head body_at
overflow_cast-result c =
    let fitting = rw c.f.view_is at c.f.invariant.0 in
    omega (arith, fitting.detectors, fitting.laid.detectors, fitting.laid.pedestrians)

pub overflow_cast-result-2 : goal.overflow_cast-result-2
overflow_cast-result-2 c =
    let fitting = rw c.f.view_is at c.f.invariant.0 in
    omega (arith, fitting.movements, rw c.f.view_is at c.f.invariant.1)
