-- With kind 7, or with no group that stops early, each passes; and else the first one found is refused.
use Rattle.std.proofs.Common.{arith}
use Rattle.rules.specs.Personality.{body_at, record_at, stops_early, early_missing}
use Rattle.rules.proofs.Checks.{row_more, row_stopped}
use Rattle.read_early.proofs.GroupMarks.{group-held, mark-read}
use Rattle.read_early.proofs.Seventh.{none_stops, none_missing, one_stops, goes_on}
use Rattle.read_early.proofs.early_missing.Goals as goal

pub returns-then-s : goal.returns-then-s
returns-then-s c = grind (arith, none_stops, none_missing)

pub pair_at-requires : goal.pair_at-requires
pair_at-requires c = group-held c.s.invariant (rw (← c.s.view_is) at c.requires.0) c.loop-g.g (omega arith)

pub returns-then-pair_at-eq3 : goal.returns-then-pair_at-eq3
unfolding early_missing stops_early record_at body_at
returns-then-pair_at-eq3 c =
    let mark = rw c.s.view_is at (mark-read c.s.invariant c.loop-g.g c.pair_at.ensures.1) in
    grind (arith, mark, row_stopped _ _ _ c.loop-g-test.true c.loop-g.invariant (one_stops _ _ (grind arith) (grind (arith, mark))))

pub loop-g-preserved : goal.loop-g-preserved
unfolding stops_early
loop-g-preserved c =
    let mark = rw c.s.view_is at (mark-read c.s.invariant c.loop-g.g c.pair_at.ensures.1) in
    row_more _ _ c.loop-g.invariant (goes_on _ _ (grind (arith, mark)))
