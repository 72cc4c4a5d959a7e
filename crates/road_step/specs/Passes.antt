-- Internal: no promise cites this file. What the two passes over the streams take for granted and give.
use Rattle.std.specs.Prelude.{ℕ, ◌≤◌, ◌<◌, List, ◌≡◌, eqb, length}
use Rattle.laws.specs.Bytes.{bit, byte_at}
use Rattle.rules.specs.Colours.{green}
use Rattle.road_streams.specs.declared.Stream.{Stream}
use Rattle.road_streams.specs.declared.Traffic.{Traffic}
use Rattle.road_streams.specs.Road.{stream_count, stream_at, traffic_of, arrivals, inputs_of, releases}
use Rattle.road_step.specs.Cells.{traffic_in, RestStays}

-- ── Arrivals ──

-- a vehicle more can be counted, and the remainder is below 36,000
pub record MayArrive (stream : Stream) (t : Traffic) : Type 0 where
  pub rate : stream.rate ≤ 1800
  pub detector : stream.detector < 48
  pub below : t.remainder < 36000
  pub fits : t.queued < 65535

pub record Arriving (streams : List ℕ) (cells : List Traffic) : Type 0 where
  pub room : stream_count streams ≤ length cells
  pub each : (i : ℕ) → i < stream_count streams → MayArrive (stream_at streams i) (traffic_of cells i)

pub record ArrivedIn (streams : List ℕ) (old new : List Traffic) (inputs : ℕ) : Type 0 where
  pub same : length new ≡ length old
  pub rest : RestStays (stream_count streams) old new
  pub traffic : traffic_in new (stream_count streams) ≡ arrivals streams (traffic_in old (stream_count streams))
  pub word : inputs ≡ inputs_of streams (arrivals streams (traffic_in old (stream_count streams)))

-- ── Releases ──

-- a vehicle more can be counted, and the count is below 20
pub record MayRelease (stream : Stream) (t : Traffic) : Type 0 where
  pub group : stream.group < 32
  pub counting : t.count < 20
  pub fits : t.gone < 65535

pub record Releasing (streams : List ℕ) (cells : List Traffic) : Type 0 where
  pub room : stream_count streams ≤ length cells
  pub each : (i : ℕ) → i < stream_count streams → MayRelease (stream_at streams i) (traffic_of cells i)

-- the colours of the streams' groups are green as the set says
abbrev pub Painted : List ℕ → List ℕ → ℕ → Type 0
Painted streams colours greens =
    (i : ℕ) →
    i < stream_count streams →
    eqb (byte_at colours (stream_at streams i).group) green ≡ bit (stream_at streams i).group greens

pub record ReleasedIn (streams : List ℕ) (greens : ℕ) (old new : List Traffic) : Type 0 where
  pub same : length new ≡ length old
  pub rest : RestStays (stream_count streams) old new
  pub traffic :
      (colours : List ℕ) →
      Painted streams colours greens →
      traffic_in new (stream_count streams) ≡ releases streams colours (traffic_in old (stream_count streams))
