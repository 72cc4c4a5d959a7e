-- Internal: no promise cites this file. What the layout of a personality holds.
use Rattle.std.specs.Prelude.{ℕ, ◌≤◌, List, ◌≡◌}
use Rattle.rules.specs.Personality.{phase_count, group_count, groups_head, conflicts_head, detectors_head, pedestrians_head, early_head, has_early, order_head, has_order}
use Rattle.read_layout.specs.declared.Layout.{Layout}

-- the counts and the heads of the bytes b, and that none of the heads is far: counts are bytes, and body lengths two bytes
pub record LayoutOf (b : List ℕ) (w : Layout) : Type 0 where
  pub phasecount : w.phasecount ≡ phase_count b
  pub groupcount : w.groupcount ≡ group_count b
  pub groups : w.groups ≡ groups_head b
  pub conflicts : w.conflicts ≡ conflicts_head b
  pub detectors : w.detectors ≡ detectors_head b
  pub pedestrians : w.pedestrians ≡ pedestrians_head b
  pub early : w.early ≡ early_head b
  pub hasearly : w.hasearly ≡ has_early b
  pub order : w.order ≡ order_head b
  pub hasorder : w.hasorder ≡ has_order b
  pub near :
      (w.groups ≤ 3072)
      × (w.conflicts ≤ 3586)
      × (w.detectors ≤ 4610)
      × (w.pedestrians ≤ 70149)
      × (w.early ≤ 135688)
      × (w.order ≤ 201227)
