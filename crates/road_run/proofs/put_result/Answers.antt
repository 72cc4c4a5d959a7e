-- The second number stands behind the first.
use Rattle.std.proofs.Common.{refl}
use native.Mathlib.Numerals.{add-two}
use Rattle.road_streams.specs.Road.{result_of}
use Rattle.road_run.proofs.put_result.Goals as goal

pub returns : goal.returns
unfolding result_of
returns c = rw (c.put_two-2.ensures, c.put_two.ensures, add-two c.args.at) refl
