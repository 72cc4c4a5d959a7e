-- Every worked case of the road holds: what the rules compute is, case by case, what it must be.
use mathlib.Core.Path.{refl}
use Rattle.rules.proofs.Opened.{opened}
use Rattle.road_streams.specs.Road.{stream_count, stream_at, vehicle_group, bad_stream, bad_streams, no_traffic, queues, arrived, counted, released, traffic_of, arrivals, is_occupied, inputs_of, releases, blank_colours, fresh_road, road_stepped, road_after, streams_verdict, road_verdict}
use Rattle.proof_road.specs.RoadCases.{seen, times, cases, RoadCasesHold}

pub road-cases-hold : RoadCasesHold
unfolding
    opened stream_count stream_at vehicle_group bad_stream bad_streams no_traffic queues arrived counted released traffic_of arrivals is_occupied inputs_of releases blank_colours
    fresh_road road_stepped road_after streams_verdict road_verdict seen times cases RoadCasesHold
road-cases-hold = (refl, (refl, (refl, (refl, (refl, (refl, (refl, (refl, (refl, (refl, (refl, (refl, (refl, (refl, (refl, (refl, (refl, (refl, (refl, tt)))))))))))))))))))
