-- No record before d is bad.
use Rattle.std.proofs.Common.{◌≡◌}
use Rattle.rules.specs.Personality.{detector_record}
use Rattle.rules.specs.Verdicts.{Accepted, first_of}
use Rattle.read_detectors.proofs.detector_records.Given as goal

abbrev pub invariant-loop-d : goal.invariant-loop-d
invariant-loop-d l = first_of (detector_record l.c) l.d ≡ Accepted
