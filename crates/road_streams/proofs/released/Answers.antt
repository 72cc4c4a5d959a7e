-- By whether this is the 20th step that is counted.
use Rattle.road_streams.proofs.One.{some-queue, one-leaves, nobody-leaves}
use Rattle.road_streams.proofs.released.Goals as goal

pub overflow_sub-result : goal.overflow_sub-result
overflow_sub-result c =
    some-queue c.args.traffic c.args.shows_green _ c.count_after-count.ensures c.if-count-eq-HEADWAY.true

pub returns-then-count-eq-HEADWAY : goal.returns-then-count-eq-HEADWAY
returns-then-count-eq-HEADWAY c =
    λ colour e. one-leaves c.args.traffic c.args.shows_green _ c.count_after-count.ensures colour e c.if-count-eq-HEADWAY.true

pub returns : goal.returns
returns c =
    λ colour e. nobody-leaves c.args.traffic c.args.shows_green _ c.count_after-count.ensures colour e c.if-count-eq-HEADWAY.false
