-- No sum on the way is more than the wait.
use Rattle.std.proofs.Common.{◌≡◌, arith}
use Rattle.rules.specs.Site.{phase_times}
use Rattle.rules.specs.Waits.{phase_wait_by}
use Rattle.wait_each.proofs.Waits.{wait-fits}
use Rattle.wait_each.proofs.phase_wait.Goals as goal
use Rattle.wait_each.proofs.phase_wait.Goals.{After-clears_first}

late-told : (c : After-clears_first) → c.from-2.result ≡ (phase_times c.args.site.now.times c.args.q).late
unfolding phase_times
late-told c = rw (c.from.ensures, c.site.view_is) at c.from-2.ensures

pub overflow_add-result : goal.overflow_add-result
unfolding phase_wait_by
overflow_add-result c =
    omega (arith, wait-fits c.args.site.now (rw c.site.view_is at c.site.invariant) c.args.q c.requires, late-told (goal.at.overflow_add-result c).After-clears_first, c.clears_first.ensures)

pub overflow_add-result-2 : goal.overflow_add-result-2
unfolding phase_wait_by
overflow_add-result-2 c =
    omega (
      arith,
      wait-fits c.args.site.now (rw c.site.view_is at c.site.invariant) c.args.q c.requires,
      late-told (goal.at.overflow_add-result-2 c).After-clears_first,
      c.clears_first.ensures,
      c.rest_of.ensures,
    )

pub returns : goal.returns
unfolding phase_wait_by
returns c = omega (arith, late-told (goal.at.returns c).After-clears_first, c.clears_first.ensures, c.rest_of.ensures)
