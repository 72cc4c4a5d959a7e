-- The code's limits are those of the table.
use Rattle.std.proofs.Common.{◌<◌, ◌≤◌, arith}
use Rattle.std.proofs.lemmas.Bool.Decides.{nat_tests}
use Rattle.rules.specs.declared.site.Edition.TheVariants.{One}
use Rattle.rules.specs.Limits.{limits}
use Rattle.sheet_settings.specs.Sheet.{answer_from}
use Rattle.sheet_settings.proofs.Stated.{within-each}
use Rattle.sheet_settings.proofs.answer_from.Goals.{else-minimum-limits-via-then-minimum-limits+else-passage-limits, else-minimum-limits-via-else-minimum-limits}
use Rattle.sheet_settings.proofs.answer_from.Goals as goal

pub returns-then-passage-limits : goal.returns-then-passage-limits
unfolding answer_from limits
returns-then-passage-limits c =
    let h : c.args.minimum ≤ 400 = rw c.limits-limits.ensures at c.if-minimum-limits.true in
    let j : c.args.passage ≤ 100 = rw c.limits-limits.ensures at c.if-passage-limits.true in
    let e = within-each One c.args.minimum c.args.passage in
    grind (arith, nat_tests)

pub returns-else-minimum-limits : goal.returns-else-minimum-limits
unfolding answer_from limits
returns-else-minimum-limits c =
    let e = within-each One c.args.minimum c.args.passage in
    elim c.else-minimum-limits.branch [
      | else-minimum-limits-via-then-minimum-limits+else-passage-limits w ↦
          let j : 100 < c.args.passage = rw c.limits-limits.ensures at w.if-passage-limits.false in
          grind (arith, nat_tests)
      | else-minimum-limits-via-else-minimum-limits w ↦
          let h : 400 < c.args.minimum = rw c.limits-limits.ensures at w.if-minimum-limits.false in
          grind (arith, nat_tests)
    ]
