use Rattle.std.proofs.Common.{◌/◌, arith, refl, sym, ◌∙◌}
use Rattle.rules.specs.Personality.{body_at, record_at}
use Rattle.rules.specs.Verdicts.{first_of}
use Rattle.rules.proofs.Verdicts.{good_more, bad-stop, first_done}
use Rattle.read_conflicts_turned.specs.Turned.{Turned, names}
use Rattle.read_conflicts.specs.Refused.{first_bad}
use Rattle.read_conflicts.proofs.ComparedSets.{turned-named, turned-next}
use Rattle.read_conflicts.proofs.records.first_bad.Goals as goal
use Rattle.read_conflicts.proofs.records.first_bad.Goals.{Joined-g-eq0, then-g-eq0, else-g-eq0}

pub loop-g-init : goal.loop-g-init
unfolding first_of
loop-g-init c = record { passed = refl; kept = λ other. absurd (other refl) }

-- the sets are those for the record of g: they are made anew, or were made for a group before it
compared : (c : Joined-g-eq0) → Turned c.args.m.now (names c.args.m.now (c.loop-g.g / 8)) c.if-g-eq0.named
compared c =
    elim c.if-g-eq0.branch [
      | then-g-eq0 w ↦ rw w.named-is w.naming-named.ensures
      | else-g-eq0 w ↦ rw w.named-is (c.loop-g.invariant.kept w.if-g-eq0.false)
    ]

pub bad_conflict-requires : goal.bad_conflict-requires
bad_conflict-requires c =
    (omega (arith, c.groups-g-end.ensures), turned-named c.loop-g.g _ (compared (goal.at.bad_conflict-requires c).Joined-g-eq0))

pub returns-then-bad_conflict : goal.returns-then-bad_conflict
unfolding first_bad record_at body_at
returns-then-bad_conflict c =
    bad-stop _ _ _ _ c.loop-g.g (omega (arith, c.groups-g-end.ensures)) c.loop-g.invariant.passed (sym c.bad_conflict.ensures ∙ c.if-bad_conflict.true)
    (omega (arith, rw c.m.view_is at c.m.invariant.laid.conflicts))

pub loop-g-preserved : goal.loop-g-preserved
loop-g-preserved c = record {
  passed = good_more _ _ _ _ c.loop-g.invariant.passed (sym c.bad_conflict.ensures ∙ c.if-bad_conflict.false);
  kept = turned-next c.loop-g.g (compared (goal.at.loop-g-preserved c).Joined-g-eq0);
}

pub returns : goal.returns
unfolding first_bad
returns c = first_done _ _ _ c.loop-g.invariant.passed (omega (arith, c.groups-g-end.ensures))
