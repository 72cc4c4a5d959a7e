-- Its refusals are those of the personality, and 22, 13 and 14 at 0.
use Rattle.board_answers.proofs.Answers.{near_read, near_if, near_or, near_outcome}
use Rattle.road_streams.specs.Road.{streams_verdict, road_verdict}
use Rattle.board_road.specs.RoadCall.{board_verdict}
use Rattle.board_road.proofs.road.Goals as goal

pub answer-requires : goal.answer-requires
unfolding board_verdict road_verdict streams_verdict
answer-requires c =
    near_outcome _ _ c.tried.ensures.0
    (near_or _ _ (near_or _ _ (near_read _) (near_if _ 22)) (near_or _ _ (near_if _ 13) (near_if _ 14)))
