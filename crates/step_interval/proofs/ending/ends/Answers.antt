-- The site's own movements settle whether some movement is in a stage.
use Rattle.std.proofs.Common.{rules, ◌≡◌, length, refl, arith}
use Rattle.std.proofs.lemmas.Grind.{common_steps}
use Rattle.rules.specs.IntervalTable.{is_walk_or_first, is_second}
use Rattle.rules.specs.Interval.{ends}
use Rattle.step_interval.proofs.Some.{some_counted}
use Rattle.step_interval.proofs.ending.ends.Goals as goal

pub returns-then-due : goal.returns-then-due
unfolding ends
returns-then-due c =
    let eight : length c.args.movements ≡ 8 = search rules in
    let some = some_counted is_walk_or_first c.args.movements c.args.count eight c.requires refl in
    grind (arith, common_steps, some)

pub returns-then-times-age : goal.returns-then-times-age
unfolding ends
returns-then-times-age c =
    let eight : length c.args.movements ≡ 8 = search rules in
    let some = some_counted is_second c.args.movements c.args.count eight c.requires refl in
    grind (arith, common_steps, some)
