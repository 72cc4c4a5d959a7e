-- Blank cells are the road's start.
use Rattle.proof_road.proofs.Streams.{known-streams}
use Rattle.road_run.proofs.Whole.{start-road}
use Rattle.road_streams.specs.Road.{no_traffic}
use Rattle.run_road.proofs.run_and_show.Goals as goal

pub run-requires : goal.run-requires
unfolding no_traffic
run-requires g c =
    let may = c.requires in
    let road = start-road may.start in
    (record { b = may.b; road = road }, record { held = road.room; watched = (known-streams _ _ _ may.start.known).most })
