-- The state and the cells are those of the road n steps later, the cells past those of the streams are as they were, and the set has the groups that show green
-- in the state.
use Rattle.std.proofs.Common.{ℕ, ◌≡◌, ◌+◌, ◌≤◌, List, length}
use Rattle.road_streams.specs.Road.{stream_count}
use Rattle.road_step.specs.Cells.{RestStays}
use Rattle.road_step.specs.OnRoad.{OnRoad}
use Rattle.road_step.specs.Greens.{GreenIn}
use Rattle.road_step.proofs.road_steps.Given as goal

abbrev pub invariant-loop-n : goal.invariant-loop-n
invariant-loop-n l =
    (length l.cells ≡ length l.fn.cells)
    × RestStays (stream_count l.fn.streams) l.fn.cells l.cells
    × GreenIn l.fn.site l.last.core l.greens
    × ((b : List ℕ) (whole m : ℕ) →
    m + l.fn.steps ≤ whole →
    OnRoad b l.fn.streams whole l.fn.site m l.fn.state l.fn.cells →
    OnRoad b l.fn.streams whole l.fn.site (m + l.n) l.last l.cells)
