-- Internal: no promise cites this file. What the decoders require of the bytes and their layout, and what one pass over the groups
-- finds.
use Rattle.std.specs.Prelude.{ℕ, ◌+◌, ◌*◌, ◌≤◌, true, List, ◌≡◌, length}
use Rattle.rules.specs.Personality.{body_at, detector_count, movement_count}
use Rattle.rules.specs.Site.{site_of}
use Rattle.read_layout.specs.declared.Layout.{Layout}
use Rattle.read_layout.specs.LayoutOf.{LayoutOf}
use Rattle.site_rows.specs.declared.GroupRows.{GroupRows}

-- each count is at most the room of its array, and all sections are present
pub record Fitting (b : List ℕ) (w : Layout) : Type 0 where
  pub laid : LayoutOf b w
  pub phases : w.phasecount ≤ 7
  pub groups : w.groupcount ≤ 32
  pub detectors : detector_count b ≤ 48
  pub movements : movement_count b ≤ 8
  pub whole : body_at w.pedestrians + movement_count b * 6 ≤ length b
  pub early : w.hasearly ≡ true → body_at w.early + w.phasecount * 2 ≤ length b
  pub order : w.hasorder ≡ true → body_at w.order + w.phasecount ≤ length b

-- the groups, how many movements the site has, and the phase set of each movement's group
unfoldable pub group_rows_in : List ℕ → GroupRows
group_rows_in b = record { groups = (site_of b).groups; movements = movement_count b; crossings = (site_of b).crossings }
