use Rattle.std.proofs.Common.{◌≡◌, ℕ, List, ◌-◌, ◌<◌, ◌≤◌, ◌/◌, arith}
use Rattle.rules.specs.Personality.{body_at, phase_count, pedestrians_head, detector_count, detector_phase, detector_mode, site_section}
use Rattle.rules.specs.Verdicts.{Accepted}
use Rattle.laws.proofs.BitRanges.{shifted-some}
use Rattle.proof_acceptance.proofs.Sections.{record-within, site-accepted, detectors-accepted}
use Rattle.read_layout.proofs.Lengths.{detectors-apart, detectors-length}
use Rattle.read_callers.proofs.Called.{called-none, called_more, called_same, all-called, called-decided}
use Rattle.read_callers.proofs.each_called.Goals as goal
use Rattle.read_callers.proofs.each_called.Goals.{After-pair_at-detector, then-detector-ne0, else-detector-ne0}

-- accepted counts have at most seven phases
few : {b v : List ℕ} → b ≡ v → site_section b ≡ Accepted → phase_count v ≤ 7
few e passed = (site-accepted _ (rw e at passed)).phases.1

pub overflow_shl-all : goal.overflow_shl-all
overflow_shl-all c = omega (arith, few c.c.view_is c.c.invariant, rw (c.s.view_is, c.c.view_is) at c.s.invariant.phasecount)

pub overflow_sub-all : goal.overflow_sub-all
overflow_sub-all c = shifted-some 8 _ (omega (arith, few c.c.view_is c.c.invariant, rw (c.s.view_is, c.c.view_is) at c.s.invariant.phasecount))

pub loop-d-init : goal.loop-d-init
loop-d-init c = called-none _ c.requires.1

pub returns-then-called-all : goal.returns-then-called-all
unfolding detector_count
returns-then-called-all c =
    let own = few c.c.view_is c.c.invariant in
    let all = rw (c.s.invariant.phasecount, c.s.view_is, c.c.view_is) at c.if-called-all.true in
    all-called _ own c.loop-d.invariant (omega (arith, rw (c.s.view_is, c.c.view_is) at (detectors-length c.s.invariant))) all

pub pair_at-detector-requires : goal.pair_at-detector-requires
unfolding pedestrians_head body_at
pair_at-detector-requires c =
    let layout = c.s.inside.layout in
    rw (c.s.view_is, c.c.view_is)
    (omega (
      arith,
      record-within layout.detectors 2 ((layout.pedestrians - layout.detectors - 4) / 2) c.loop-d.d (omega arith),
      (detectors-accepted _ c.requires.0).next,
      rw (c.s.view_is, c.c.view_is) at c.s.invariant.pedestrians,
      detectors-apart c.s.invariant,
    ))

-- the record read is that of detector d, and its phase one of the site's
phase-read : (c : After-pair_at-detector) → c.pair_at-detector.result.first ≡ detector_phase c.args.c.now c.loop-d.d
unfolding detector_phase
phase-read c = rw (c.s.invariant.detectors, c.s.view_is, c.c.view_is) at c.pair_at-detector.ensures.0

mode-read : (c : After-pair_at-detector) → c.pair_at-detector.result.second ≡ detector_mode c.args.c.now c.loop-d.d
unfolding detector_mode
mode-read c = rw (c.s.invariant.detectors, c.s.view_is, c.c.view_is) at c.pair_at-detector.ensures.1

phase-own : (c : After-pair_at-detector) → c.pair_at-detector.result.first < phase_count c.args.c.now
unfolding detector_count
phase-own c =
    omega (
      arith,
      phase-read c,
      (detectors-accepted _ c.requires.0).phase c.loop-d.d (omega (arith, rw (c.s.view_is, c.c.view_is) at (detectors-length c.s.invariant))),
    )

pub overflow_shl-called : goal.overflow_shl-called
overflow_shl-called c =
    omega (arith, phase-own (goal.at.overflow_shl-called c).After-pair_at-detector, few c.c.view_is c.c.invariant)

pub loop-d-preserved : goal.loop-d-preserved
loop-d-preserved c =
    let at = (goal.at.loop-d-preserved c).After-pair_at-detector in
    let called = c.loop-d.invariant in
    let own = few c.c.view_is c.c.invariant in
    elim c.if-detector-ne0.branch [
      | then-detector-ne0 w ↦
          rw w.called-is (called_more _ called (phase-read at) (mode-read at) own (phase-own at) w.if-detector-ne0.true)
      | else-detector-ne0 w ↦ rw w.called-is (called_same _ called (phase-read at) (mode-read at) w.if-detector-ne0.false)
    ]

pub returns : goal.returns
unfolding detector_count
returns c =
    rw (c.s.invariant.phasecount, c.s.view_is, c.c.view_is)
    (called-decided _ (few c.c.view_is c.c.invariant) c.loop-d.invariant (omega (arith, rw (c.s.view_is, c.c.view_is) at (detectors-length c.s.invariant))))
