use Rattle.std.proofs.Common.{arith, sym}
use lib.Seq.{length-take-le}
use Rattle.state_sealed.proofs.damaged.Goals as goal

pub slice_bounds-crc-end : goal.slice_bounds-crc-end
slice_bounds-crc-end c = sym (length-take-le 343 c.args.sealed.now (omega arith))
