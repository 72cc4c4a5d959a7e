-- What a sound site gives to the calls of part 1: its detectors are within the table of modes by phases, and every entry of its ring is a
-- phase.
use Prim.Native.Nat.{ℕ, ◌%◌, ◌/◌, ◌<◌}
use mathlib.Core.Bool.{Bool}
use mathlib.Core.Path.{◌≡◌}
use native.Mathlib.Omega.{arith}
use borrow.Author.Tests.{ltb-true}
use lib.Dec.{ltb}
use lib.ListN.{length, take}
use mathlib.Core.List.{List}
use Rattle.rules.specs.declared.site.Detector.{Detector}
use Rattle.rules.specs.declared.site.Site.{Site}
use Rattle.rules.specs.Personality.{known_mode}
use Rattle.rules.specs.Site.{detector_of, ring}
use Rattle.rules.specs.Demands.{next_after}
use Rattle.rules.specs.Laws.{Sound}
use Rattle.laws.proofs.Booleans.{and_left, and_right}
use Rattle.proof_ring.proofs.RunningOrder.{ring_of}
use Rattle.proof_ring.proofs.Ring.{found-same}
use Rattle.proof_ring.proofs.Turns.{turn}
use Rattle.site_sound.proofs.Rows.{detector-taken}
use Rattle.step_demands_detectors.specs.Sensed.{Tabled}

-- the detectors of an accepted site are within the table
pub tabled :
    (site : Site) → Sound site →
    (own : List Detector) → own ≡ take site.size.detectors site.detectors → length own ≡ site.size.detectors →
    Tabled own
unfolding known_mode
tabled site sound own row count =
    let n = site.size.detectors in
    record {
      room = omega (arith, count, sound.detectors);
      phase = λ d m.
          let l : d < n = rw count at m in
          rw (row, detector-taken site.detectors n d l) (omega (arith, sound.detector_phase d l, sound.phases.1));
      mode = λ d m.
          let l : d < n = rw count at m in
          let mode = (detector_of site.detectors d).mode in
          let known = sound.detector_mode d l in
          rw (row, detector-taken site.detectors n d l)
          (omega (
            arith,
            ltb-true (mode % 4) 3 (and_left (ltb (mode % 4) 3) (ltb (mode / 4) 2) known),
            ltb-true (mode / 4) 2 (and_right (ltb (mode % 4) 3) (ltb (mode / 4) 2) known),
          ));
    }

module _ (site : Site) (sound : Sound site) where
  -- tests that agree on every phase find the same
  pub ring-same :
      (f g : ℕ → Bool) (p : ℕ) →
      ((q : ℕ) → q < 7 → f q ≡ g q) →
      next_after (ring site.order site.size.phases) p f ≡ next_after (ring site.order site.size.phases) p g
  unfolding next_after turn
  ring-same f g p same = found-same (ring_of site sound) f g p (λ q l. same q (omega (arith, l, sound.phases.1)))
