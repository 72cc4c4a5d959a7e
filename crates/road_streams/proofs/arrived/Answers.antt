-- By whether the sum reaches 36,000.
use Rattle.road_streams.proofs.One.{nobody-joins, one-joins}
use Rattle.road_streams.proofs.arrived.Goals as goal

pub returns-then-sum-lt-HOUR : goal.returns-then-sum-lt-HOUR
returns-then-sum-lt-HOUR c = nobody-joins _ c.args.traffic c.if-sum-lt-HOUR.true

pub returns : goal.returns
returns c = one-joins _ c.args.traffic c.if-sum-lt-HOUR.false
