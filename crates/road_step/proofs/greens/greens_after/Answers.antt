-- While the position only ages, the set stays.
use Rattle.std.proofs.Common.{◌∙◌, sym}
use borrow.Author.Tests.{eqb-false}
use Rattle.road_step.proofs.GreenGroups.{green-kept}
use Rattle.road_step.proofs.greens.greens_after.Goals as goal
use Rattle.road_step.proofs.greens.greens_after.Goals.{then-begins, else-begins}

pub returns-else-anew : goal.returns-else-anew
returns-else-anew c =
    elim c.if-begins.branch [
      | then-begins w ↦ absurd (eqb-false c.args.state.position.age 1 (sym w.anew-is ∙ c.if-anew.false) w.if-begins.true)
      | else-begins w ↦
          λ old follows held.
          green-kept c.args.site.now (rw c.site.view_is at c.site.invariant) (rw c.site.view_is at (sym w.anew-is ∙ c.if-anew.false))
          old c.args.state c.args.greens w.if-begins.false follows held
    ]
