-- Before detector d the records of the detectors below d are in place, the rest is blank.
use Rattle.rules.specs.Personality.{detector_count, detector_phase, detector_mode}
use Rattle.rules.specs.Site.{no_detector}
use Rattle.laws.proofs.Rows.{Filled}
use Rattle.site_rows.proofs.detectors.Given as goal

abbrev pub invariant-loop-d : goal.invariant-loop-d
invariant-loop-d l =
    Filled (λ i. record { phase = detector_phase l.f i; mode = detector_mode l.f i }) (detector_count l.f) 48 no_detector l.d l.rows
