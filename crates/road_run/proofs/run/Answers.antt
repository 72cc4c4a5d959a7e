-- Blank cells are the road's start, and the results are those of its end, written from the buffer's start on.
use Rattle.std.proofs.Common.{ℕ, ◌≡◌, ◌+◌, ◌/◌, List, length, ap, ◌∙◌, arith}
use Rattle.std.proofs.lemmas.List.{length-take}
use lib.Seq.{sets}
use Rattle.road_streams.specs.Road.{stream_count, no_traffic}
use Rattle.road_step.specs.OnRoad.{OnRoad}
use Rattle.proof_road.proofs.Streams.{known-streams}
use Rattle.road_run.specs.Whole.{OfPersonality}
use Rattle.road_run.proofs.Whole.{start-road, end-results, results-placed}
use Rattle.road_run.proofs.run.Goals as goal

pub road_steps-state-requires : goal.road_steps-state-requires
unfolding no_traffic
road_steps-state-requires c =
    let some = c.requires in
    record { b = some.b; whole = c.args.steps; n = 0; enough = omega arith; road = rw c.fresh.ensures (start-road some.start) }

pub slice_bounds-cells-end : goal.slice_bounds-cells-end
unfolding stream_count
slice_bounds-cells-end c = omega (arith, c.road_steps-state.ensures.same, (known-streams _ _ _ c.requires.start.known).most)

pub slice_bounds-put_results-end : goal.slice_bounds-put_results-end
unfolding stream_count
slice_bounds-put_results-end c =
    let cells = c.road_steps-state.new.cells in
    omega (arith, c.road_steps-state.ensures.same, (known-streams _ _ _ c.requires.start.known).most, length-take (length c.args.streams.now / 4) cells)

pub returns : goal.returns
unfolding stream_count no_traffic
returns c =
    let a = c.args in
    let ended : (b : List ℕ) → OfPersonality b a.site.now a.streams.now a.steps → OnRoad b a.streams.now a.steps a.site.now a.steps c.road_steps-state.result c.road_steps-state.new.cells =
    λ b start.
    let whole : 0 + a.steps ≡ a.steps = omega arith in
    rw whole at (c.road_steps-state.ensures.road b a.steps 0 (omega arith) (rw c.fresh.ensures (start-road start))) in
    record {
      state = λ b start. (ended b start).held;
      written =
          λ b start.
          c.put_results.ensures
          ∙ ap (λ (l : List ℕ). sets a.results.now 0 l) (end-results start (ended b start))
          ∙ results-placed start a.results.now c.requires.enough;
    }
