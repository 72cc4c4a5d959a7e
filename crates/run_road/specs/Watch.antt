-- Internal: no promise cites this file. What the program's functions take for granted: lengths, and a road that may start.
use Rattle.std.specs.Prelude.{ℕ, ◌≤◌, List, length}
use Rattle.rules.specs.declared.site.Site.{Site}
use Rattle.road_streams.specs.declared.Traffic.{Traffic}
use Rattle.road_streams.specs.Road.{stream_count}
use Rattle.road_run.specs.Whole.{OfPersonality}

-- each stream has its cell and its longest queue
pub record Rows (streams : List ℕ) (cells : List Traffic) (longest : List ℕ) : Type 0 where
  pub held : stream_count streams ≤ length cells
  pub watched : stream_count streams ≤ length longest

-- the road of some personality may start
pub record May (site : Site) (streams : List ℕ) (steps : ℕ) : Type 0 where
  pub b : List ℕ
  pub start : OfPersonality b site streams steps
