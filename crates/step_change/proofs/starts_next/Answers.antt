-- The records past the site's movements are idle, so the passes over the movements may leave them out.
use Rattle.std.proofs.Common.{sym, ◌∙◌}
use Rattle.rules.specs.Timed.{starts_next}
use Rattle.step_movements.proofs.Idle.{still-past}
use Rattle.step_whole.proofs.Ready.{idle-past}
use Rattle.step_change.proofs.starts_next.Goals as goal

pub movements_after-requires : goal.movements_after-requires
movements_after-requires c = idle-past c.site.inside.site c.args.state (c.site.invariant, rw (← c.site.view_is) at c.requires)

pub ends-requires : goal.ends-requires
ends-requires c =
    let site = c.site.inside.site in
    let state = c.args.state in
    rw c.movements_after.ensures
    (still-past site.times _ state.core.movements site.size.movements (idle-past site state (c.site.invariant, rw (← c.site.view_is) at c.requires)))

pub returns-then-not-is_before_start : goal.returns-then-not-is_before_start
unfolding starts_next
returns-then-not-is_before_start c = rw (sym c.is_before_start.ensures ∙ c.if-not-is_before_start.true)

pub returns : goal.returns
unfolding starts_next
returns c =
    rw (← c.site.view_is)
    (c.ends.ensures
    ∙ rw (c.phase_times.ensures, c.movements_after.ensures, sym c.is_before_start.ensures ∙ c.if-not-is_before_start.false))
