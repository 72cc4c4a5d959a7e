-- No record of the fours before is bad.
use Rattle.std.proofs.Common.{◌≡◌, ◌*◌}
use Rattle.rules.specs.Personality.{detector_record}
use Rattle.rules.specs.Verdicts.{Accepted, first_of}
use Rattle.read_detectors.proofs.good_fours.Given as goal

abbrev pub invariant-loop-i : goal.invariant-loop-i
invariant-loop-i l = first_of (detector_record l.c) (l.i * 4) ≡ Accepted
