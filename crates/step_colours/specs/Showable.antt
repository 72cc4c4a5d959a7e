-- Internal: no promise cites this file. What writing the colours requires: the buffer has room for the groups, and each pedestrian group has a
-- movement record.
use Rattle.std.specs.Prelude.{ℕ, ◌≤◌, ◌<◌, true, List, ◌≡◌, length}
use Rattle.rules.specs.declared.site.Group.{Group}
use Rattle.rules.specs.Site.{is_pedestrian, movement_of}

pub record Showable (groups : List Group) (room : ℕ) : Type 0 where
  pub fits : length groups ≤ room
  pub movement : (g : ℕ) → g < length groups → is_pedestrian groups g ≡ true → movement_of groups g < 8
