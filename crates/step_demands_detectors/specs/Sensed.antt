-- Internal: no promise cites this file. What a list of detectors asks for, and what is required of the list.
use Rattle.std.specs.Prelude.{ℕ, ◌≤◌, ◌<◌, List, ◌≡◌, length}
use Rattle.rules.specs.declared.site.Detector.{Detector}
use Rattle.laws.specs.Bytes.{bit}
use Rattle.rules.specs.Site.{detector_of}
use Rattle.rules.specs.Demands.{calling, locking, extending, detected_among}
use Rattle.step_demands_detectors.specs.declared.Sensed.{Sensed}

-- there are no more detectors than a site has inputs for, and the phase and the mode of each are within a table of modes by phases
pub record Tabled (detectors : List Detector) : Type 0 where
  pub room : length detectors ≤ 48
  pub phase : (d : ℕ) → d < length detectors → (detector_of detectors d).phase < 8
  pub mode : (d : ℕ) → d < length detectors → (detector_of detectors d).mode ≤ 6

-- the phases that detectors lock or call, and whether one extends the phase of the state
pub record SensedBy (detectors : List Detector) (inputs phase : ℕ) (sensed : Sensed) : Type 0 where
  pub locks : (p : ℕ) → p < 8 → bit p sensed.locks ≡ detected_among detectors (length detectors) locking inputs p
  pub calls : (p : ℕ) → p < 8 → bit p sensed.calls ≡ detected_among detectors (length detectors) calling inputs p
  pub extended : sensed.extended ≡ detected_among detectors (length detectors) extending inputs phase
