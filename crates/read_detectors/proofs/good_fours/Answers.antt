use Rattle.std.proofs.Common.{◌≡◌, ◌+◌, ◌*◌, refl, arith}
use Rattle.rules.specs.Personality.{body_at, detector_record}
use Rattle.rules.specs.Verdicts.{first_of}
use Rattle.proof_acceptance.proofs.Sections.{site-accepted}
use Rattle.read_detectors.proofs.Words.{four-more}
use Rattle.read_detectors.proofs.good_fours.Goals as goal

pub four_good-requires : goal.four_good-requires
unfolding body_at
four_good-requires c =
    let few = (site-accepted _ (rw c.c.view_is at c.c.invariant)).phases.1 in
    let phases = rw (c.s.view_is, c.c.view_is) at c.s.invariant.phasecount in
    let head = rw (c.s.view_is, c.c.view_is) at c.s.invariant.detectors in
    rw (c.s.view_is, c.c.view_is)
    (phases, head, omega (arith, few, phases), omega arith, omega (arith, head, c.requires.1))

pub loop-i-init : goal.loop-i-init
unfolding first_of
loop-i-init c = refl

pub loop-i-preserved : goal.loop-i-preserved
unfolding detector_record
loop-i-preserved c =
    let next : (c.loop-i.i + 1) * 4 ≡ c.loop-i.i * 4 + 4 = omega arith in
    rw next (four-more _ _ _ (c.loop-i.i * 4) c.loop-i.invariant (rw (c.s.view_is, c.c.view_is) at (c.four_good.ensures c.if-not-four_good.false)))
