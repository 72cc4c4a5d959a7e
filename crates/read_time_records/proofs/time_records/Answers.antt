-- The first record that is refused is the answer.
use Rattle.std.proofs.Common.{arith, sym, ◌∙◌}
use Rattle.rules.specs.Personality.{body_at, record_at, time_records}
use Rattle.rules.proofs.Checks.{row_stopped}
use Rattle.read_time_records.proofs.time_records.Goals as goal

pub returns-in_err-times_at : goal.returns-in_err-times_at
unfolding time_records record_at body_at
returns-in_err-times_at c =
    grind (arith, row_stopped _ _ _ c.loop-i-test.true c.loop-i.invariant (sym c.times_at.ensures ∙ c.in_err-times_at.was))
