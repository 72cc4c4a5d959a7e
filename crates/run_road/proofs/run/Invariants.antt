-- The cells hold the road after n steps, and both rows keep their lengths.
use Rattle.std.proofs.Common.{ℕ, ◌≡◌, List, length}
use Rattle.rules.specs.Kept.{fresh_kept}
use Rattle.road_step.specs.OnRoad.{OnRoad}
use Rattle.run_road.proofs.run.Given as goal

abbrev pub invariant-loop-n : goal.invariant-loop-n
invariant-loop-n l =
    (length l.cells ≡ length l.fn.cells)
    × (length l.longest ≡ length l.fn.longest)
    × ((b : List ℕ) → OnRoad b l.streams l.steps l.site 0 fresh_kept l.fn.cells → OnRoad b l.streams l.steps l.site l.n l.state l.cells)
