-- The calls are the five parts of the rules' step, one after the other, and what they leave of the kept set.
use Rattle.std.proofs.Common.{◌∙◌}
use Rattle.laws.proofs.ByteSets.{set_same}
use Rattle.site_sound.proofs.Rows.{kept_left-taken}
use Rattle.step_movements.proofs.Idle.{still-past}
use Rattle.step_whole.proofs.Keeping.{held-some, whole-told}
use Rattle.step_whole.proofs.Ready.{on, now_on, idle-past}
use Rattle.step_whole.proofs.kept_stepped.Goals as goal

pub register-asked-requires : goal.register-asked-requires
register-asked-requires c = on c.args.site.now c.args.state (rw c.site.view_is at c.site.invariant, c.requires)

pub movements_after-moved-requires : goal.movements_after-moved-requires
movements_after-moved-requires c =
    idle-past c.site.inside.site c.args.state (c.site.invariant, rw (← c.site.view_is) at c.requires)

pub ends-ended-requires : goal.ends-ended-requires
ends-ended-requires c =
    let site = c.site.inside.site in
    let state = c.args.state in
    rw c.movements_after-moved.ensures
    (still-past site.times _ state.core.movements site.size.movements (idle-past site state (c.site.invariant, rw (← c.site.view_is) at c.requires)))

pub locks_left-requires : goal.locks_left-requires
locks_left-requires c =
    rw c.position_after-now.ensures (now_on c.site.inside.site c.args.state (c.site.invariant, rw (← c.site.view_is) at c.requires) _ _)

pub returns : goal.returns
returns c =
    let site = c.args.site.now in
    let left =
    c.kept_left.ensures
    ∙ set_same _ _ (λ p l. kept_left-taken site.crossings site.size.movements c.crossings.ensures.row c.crossings.ensures.count.0 _ _ _ p) in
    rw (← c.site.view_is)
    (whole-told c.site.inside.site c.args.state c.args.inputs
    c.phase_times-own.ensures (rw (← c.site.view_is) at c.register-asked.ensures) (c.is_some-another.ensures ∙ held-some c.register-asked.result.next)
    c.walk_may_end-may_end.ensures c.movements_after-moved.ensures c.counts_after-counted.ensures
    c.ends-ended.ensures c.position_after-now.ensures c.starts.ensures c.begun_by-walked.ensures c.locks_left.ensures
    c.counts_changed.ensures (rw (← c.site.view_is) at left))
