use Rattle.std.proofs.Common.{ℕ, ◌≡◌, ◌≤◌, ◌∙◌, true, ap, arith}
use Rattle.rules.specs.Site.{phase_times}
use Rattle.rules.specs.Waits.{ending, turn_of, green_of}
use Rattle.wait_turns.proofs.Parts.{green-fits}
use Rattle.wait_turns.proofs.turn_of.Goals as goal
use Rattle.wait_turns.proofs.turn_of.Goals.{After-green_of}

green-told : (c : After-green_of) → c.green_of.result ≡ green_of (phase_times c.site.inside.site.times c.args.p)
unfolding phase_times
green-told c = rw c.from.ensures at c.green_of.ensures

pub ending-requires : goal.ending-requires
ending-requires c =
    let green : c.green_of.result ≤ 6000 =
    omega (arith, green-told (goal.at.ending-requires c).After-green_of, green-fits c.site.inside.site c.site.invariant c.args.p (rw (← c.site.view_is) at c.requires)) in
    (c.requires, green, omega arith)

pub returns : goal.returns
unfolding turn_of
returns c =
    c.ending.ensures
    ∙ ap (λ (green : ℕ). ending c.args.site.now c.args.p (λ k. true) green 0)
    (rw c.site.view_is at (green-told (goal.at.returns c).After-green_of))
