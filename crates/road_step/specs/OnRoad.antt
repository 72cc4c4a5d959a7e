-- Internal: no promise cites this file. A state and a row of cells that hold the road after n steps, and one step of it.
use Rattle.std.specs.Prelude.{ℕ, ◌+◌, ◌≤◌, ◌<◌, false, List, ◌≡◌, length}
use Rattle.rules.specs.Verdicts.{Accepted}
use Rattle.rules.specs.declared.site.Site.{Site}
use Rattle.rules.specs.declared.state.KeptState.{KeptState}
use Rattle.rules.specs.Personality.{verdict_of}
use Rattle.rules.specs.Site.{site_of}
use Rattle.road_streams.specs.declared.Traffic.{Traffic}
use Rattle.road_streams.specs.Road.{stream_count, bad_streams, road_after}
use Rattle.road_step.specs.Cells.{traffic_in, RestStays}

-- the personality is accepted, the site is its site, the streams and the number of steps are not refused, and the state and the cells are those after n steps
pub record OnRoad (b streams : List ℕ) (steps : ℕ) (site : Site) (n : ℕ) (state : KeptState) (cells : List Traffic) : Type 0 where
  pub read : verdict_of b ≡ Accepted
  pub place : site ≡ site_of b
  pub known : bad_streams (site_of b) streams steps ≡ false
  pub within : n ≤ steps
  pub room : stream_count streams ≤ length cells
  pub held : state ≡ (road_after b streams n).state
  pub traffic : traffic_in cells (stream_count streams) ≡ (road_after b streams n).traffic

-- some road, with so many steps ahead
pub record Ahead (site : Site) (streams : List ℕ) (state : KeptState) (steps : ℕ) (cells : List Traffic) : Type 0 where
  pub b : List ℕ
  pub whole : ℕ
  pub n : ℕ
  pub enough : n + steps ≤ whole
  pub road : OnRoad b streams whole site n state cells

-- Whatever road it was, it is that road so many steps later, in as many cells, and the cells past those of the streams stay. Every outcome is fixed.
pub record Further (site : Site) (streams : List ℕ) (state : KeptState) (steps : ℕ) (cells : List Traffic) (last : KeptState) (after : List Traffic) : Type 0 where
  pub same : length after ≡ length cells
  pub rest : RestStays (stream_count streams) cells after
  pub road :
      (b : List ℕ) (whole n : ℕ) →
      n + steps ≤ whole →
      OnRoad b streams whole site n state cells →
      OnRoad b streams whole site (n + steps) last after

-- some road, before its last step
pub record BeforeEnd (site : Site) (streams : List ℕ) (state : KeptState) (cells : List Traffic) : Type 0 where
  pub b : List ℕ
  pub steps : ℕ
  pub n : ℕ
  pub before : n < steps
  pub road : OnRoad b streams steps site n state cells

-- whatever road it was, it is that road one step later, with the same cells past those of the streams
pub record NextOnRoad (site : Site) (streams : List ℕ) (state : KeptState) (cells : List Traffic) (next : KeptState) (after : List Traffic) : Type 0 where
  pub same : length after ≡ length cells
  pub rest : RestStays (stream_count streams) cells after
  pub road :
      (b : List ℕ) (steps n : ℕ) →
      n < steps →
      OnRoad b streams steps site n state cells →
      OnRoad b streams steps site (n + 1) next after
