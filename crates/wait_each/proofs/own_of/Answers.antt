use Rattle.std.proofs.Common.{ℕ, ◌+◌, ◌≤◌, ◌≡◌, ◌∙◌, max, Some, ap, ap₂, arith}
use Rattle.rules.specs.Site.{phase_times, walk_times}
use Rattle.rules.specs.Waits.{ending, own_of, green_of}
use Rattle.wait_turns.specs.Others.{all_but}
use Rattle.wait_turns.proofs.Parts.{green-fits, walk-fits}
use Rattle.wait_each.proofs.own_of.Goals as goal
use Rattle.wait_each.proofs.own_of.Goals.{After-from-4}

green-told : (c : After-from-4) → c.green_of-green.result ≡ green_of (phase_times c.site.inside.site.times c.args.q)
unfolding phase_times
green-told c = rw c.from.ensures at c.green_of-green.ensures

clearance-told :
    (c : After-from-4) →
    let own = walk_times c.site.inside.site.times c.args.m in
    c.from-3.result + c.from-4.result ≡ own.first + own.second
unfolding walk_times
clearance-told c = ap₂ (λ (a b : ℕ). a + b) (rw c.from-2.ensures at c.from-3.ensures) (rw c.from-2.ensures at c.from-4.ensures)

pub overflow_add-clearance : goal.overflow_add-clearance
overflow_add-clearance c =
    let pre = rw (← c.site.view_is) at c.requires in
    let fits = walk-fits c.site.inside.site c.site.invariant c.args.m pre.1 in
    omega (arith, fits.1, fits.2, clearance-told c)

pub ending-requires : goal.ending-requires
ending-requires c =
    let pre = rw (← c.site.view_is) at c.requires in
    let green : c.green_of-green.result ≤ 6000 =
    omega (arith, green-told (goal.at.ending-requires c).After-from-4, green-fits c.site.inside.site c.site.invariant c.args.q pre.0) in
    (c.requires.0, green, omega arith)

pub ending-requires-2 : goal.ending-requires-2
ending-requires-2 c =
    let pre = rw (← c.site.view_is) at c.requires in
    let fits = walk-fits c.site.inside.site c.site.invariant c.args.m pre.1 in
    let both : c.from-3.result + c.from-4.result ≤ 4000 =
    omega (arith, fits.1, fits.2, clearance-told (goal.at.ending-requires-2 c).After-from-4) in
    (c.requires.0, omega (arith, both), both)

pub returns : goal.returns
unfolding own_of
returns c =
    let a = c.args in
    let site = a.site.now in
    let before = (goal.at.returns c).After-from-4 in
    let others = all_but (Some a.m) in
    c.max.ensures
    ∙ ap₂ max
    (c.ending.ensures ∙ ap (λ (green : ℕ). ending site a.q others green 0) (rw c.site.view_is at (green-told before)))
    (c.ending-2.ensures ∙ ap (λ (clearance : ℕ). ending site a.q others clearance clearance) (rw c.site.view_is at (clearance-told before)))
