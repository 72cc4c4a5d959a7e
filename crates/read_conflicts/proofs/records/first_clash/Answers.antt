use Rattle.std.proofs.Common.{arith, refl, sym, ◌∙◌}
use Rattle.rules.specs.Personality.{body_at, record_at}
use Rattle.rules.specs.Verdicts.{first_of}
use Rattle.rules.proofs.Verdicts.{good_more, bad-stop, first_done}
use Rattle.read_conflicts.specs.Refused.{first_clash}
use Rattle.read_conflicts.proofs.records.first_clash.Goals as goal

pub loop-g-init : goal.loop-g-init
unfolding first_of
loop-g-init c = refl

pub returns-then-conflict_in_phase : goal.returns-then-conflict_in_phase
unfolding first_clash record_at body_at
returns-then-conflict_in_phase c =
    bad-stop _ _ _ _ c.loop-g.g (omega (arith, c.groups-g-end.ensures)) c.loop-g.invariant (sym c.conflict_in_phase.ensures ∙ c.if-conflict_in_phase.true)
    (omega (arith, rw c.m.view_is at c.m.invariant.laid.conflicts))

pub loop-g-preserved : goal.loop-g-preserved
loop-g-preserved c = good_more _ _ _ _ c.loop-g.invariant (sym c.conflict_in_phase.ensures ∙ c.if-conflict_in_phase.false)

pub returns : goal.returns
unfolding first_clash
returns c = first_done _ _ _ c.loop-g.invariant (omega (arith, c.groups-g-end.ensures))
