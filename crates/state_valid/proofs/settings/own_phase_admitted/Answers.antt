-- The personality's own times are in the table, and others are tested.
use Rattle.std.proofs.Common.{◌≡◌, true, sym}
use mathlib.Core.Path.{subst}
use Rattle.rules.specs.declared.site.PhaseTimes.{PhaseTimes}
use Rattle.rules.specs.Limits.{limits}
use Rattle.rules.specs.Personality.{has_early, edition_of}
use Rattle.rules.specs.SiteTimes.{phase_within}
use Rattle.state_valid.proofs.OwnTimes.{own-phase}
use Rattle.state_valid.proofs.settings.own_phase_admitted.Goals as goal

pub returns-then-is_own_phase : goal.returns-then-is_own_phase
returns-then-is_own_phase c =
    let b = c.args.own.now in
    let same = c.is_own_phase.ensures c.if-is_own_phase.true in
    rw c.if-is_own_phase.true
    (sym
    (subst (λ (t : PhaseTimes). phase_within (limits (edition_of b)) (has_early b) t ≡ true) (rw c.own.view_is at same)
    (own-phase b (rw (c.personality.view_is, c.own.view_is) at c.personality.invariant.0) c.args.p c.requires.0)))
