-- Internal: no promise cites this file. The traffic of the streams in a row of cells, one a stream.
use Rattle.std.specs.Prelude.{ℕ, ◌≤◌, List, ◌≡◌}
use Rattle.laws.specs.Folds.{list_of}
use Rattle.road_streams.specs.declared.Traffic.{Traffic}
use Rattle.road_streams.specs.Road.{traffic_of}

-- the traffic of n streams
unfoldable pub traffic_in : List Traffic → ℕ → List Traffic
traffic_in cells n = list_of (traffic_of cells) n

-- the cells past those of n streams are as they were
abbrev pub RestStays : ℕ → List Traffic → List Traffic → Type 0
RestStays n old new = (i : ℕ) → n ≤ i → traffic_of new i ≡ traffic_of old i
