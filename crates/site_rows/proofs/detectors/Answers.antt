use Rattle.std.proofs.Common.{arith}
use Rattle.rules.specs.Personality.{body_at, record_at, detector_phase, detector_mode}
use Rattle.rules.specs.Site.{site_of}
use Rattle.site_rows.proofs.Ends.{detectors-end}
use Rattle.laws.proofs.Rows.{filled_none, filled_more, filled-whole}
use Rattle.site_rows.proofs.detectors.Goals as goal

pub loop-d-init : goal.loop-d-init
loop-d-init c = filled_none

pub pair_at-detector-requires : goal.pair_at-detector-requires
unfolding record_at body_at
pair_at-detector-requires c =
    let fitting = rw c.f.view_is at c.f.invariant.0 in
    rw c.f.view_is (omega (arith, detectors-end fitting))

pub bounds-rows-d : goal.bounds-rows-d
bounds-rows-d c =
    let fitting = rw c.f.view_is at c.f.invariant.0 in
    omega (arith, fitting.detectors)

pub offset_bounds-rows-d : goal.offset_bounds-rows-d
offset_bounds-rows-d c =
    let fitting = rw c.f.view_is at c.f.invariant.0 in
    omega (arith, fitting.detectors)

pub loop-d-preserved : goal.loop-d-preserved
unfolding detector_phase detector_mode
loop-d-preserved c =
    let fitting = rw c.f.view_is at c.f.invariant.0 in
    filled_more c.loop-d.invariant
    (simp (c.pair_at-detector.ensures.0, c.pair_at-detector.ensures.1, c.f.view_is, fitting.laid.detectors))
    (omega arith) (omega (arith, fitting.detectors))

pub returns : goal.returns
unfolding site_of
returns c = filled-whole c.loop-d.invariant (omega arith)
