-- Where each section's records end. All six sections are in the bytes, so the records of each are, and so is all that stands before them.
use Prim.Native.Nat.{ℕ, ◌+◌, ◌*◌, ◌≤◌}
use mathlib.Core.List.{List}
use native.Mathlib.Omega.{arith}
use lib.ListN.{length}
use Rattle.rules.specs.Personality.{body_at, phases_head, groups_head, conflicts_head, detectors_head, pedestrians_head, detector_count}
use Rattle.read_layout.specs.declared.Layout.{Layout}
use Rattle.site_rows.specs.Fitting.{Fitting}

module _ {b : List ℕ} {w : Layout} (fitting : Fitting b w) where
  pub detectors-end : body_at w.detectors + detector_count b * 2 ≤ length b
  unfolding pedestrians_head detector_count body_at
  detectors-end = omega (arith, fitting.whole, fitting.laid.detectors, fitting.laid.pedestrians)

  pub conflicts-end : body_at w.conflicts + w.groupcount * 4 ≤ length b
  unfolding detectors_head body_at
  conflicts-end = omega (arith, detectors-end, fitting.laid.groupcount, fitting.laid.conflicts, fitting.laid.detectors)

  pub groups-end : body_at w.groups + w.groupcount * 2 ≤ length b
  unfolding conflicts_head body_at
  groups-end = omega (arith, conflicts-end, fitting.laid.groupcount, fitting.laid.groups, fitting.laid.conflicts)

  pub phases-end : body_at phases_head + w.phasecount * 12 ≤ length b
  unfolding groups_head body_at
  phases-end = omega (arith, groups-end, fitting.laid.phasecount, fitting.laid.groups)
