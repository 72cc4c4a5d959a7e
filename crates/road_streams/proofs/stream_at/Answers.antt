-- Each field is read where it stands.
use Rattle.road_streams.specs.Road.{stream_at}
use Rattle.road_streams.proofs.stream_at.Goals as goal

pub returns : goal.returns
unfolding stream_at
returns c = rw (c.byte_in.ensures, c.byte_in-2.ensures, c.two_in.ensures)
