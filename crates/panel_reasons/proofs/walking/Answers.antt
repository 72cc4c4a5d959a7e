use Rattle.std.proofs.Common.{◌≡◌, ◌<◌, ◌∙◌, length, sym, ap, arith, rules}
use Rattle.rules.specs.declared.state.Movement.{Movement}
use Rattle.rules.specs.declared.state.Stage.TheVariants.{Idle}
use Rattle.rules.specs.IntervalTable.{is_walk_or_first}
use Rattle.rules.specs.State.{idle}
use Rattle.laws.proofs.Lists.{entry-same}
use Rattle.panel_reasons.specs.PanelLine.{walking_among}
use Rattle.panel_reasons.proofs.Passing.{passing-none, passing-all, passing-same, passing-more}
use Rattle.panel_reasons.proofs.walking.Goals as goal
use Rattle.panel_reasons.proofs.walking.Goals.{After-is_walk_or_first, then-is_walk_or_first, else-is_walk_or_first}

pub loop-k-init : goal.loop-k-init
loop-k-init c = passing-none (walking_among c.args.movements)

-- the test of movement k
own-walking : (c : After-is_walk_or_first) → c.is_walk_or_first.result ≡ walking_among c.args.movements c.loop-k.k
unfolding walking_among
own-walking c =
    let inside : c.loop-k.k < length c.args.movements = search rules in
    rw c.from.ensures at c.is_walk_or_first.ensures
    ∙ ap (λ (m : Movement). is_walk_or_first m.stage) (entry-same c.args.movements c.loop-k.k (record { stage = Idle; age = 0 }) idle inside)

pub loop-k-preserved : goal.loop-k-preserved
loop-k-preserved c =
    let walking = walking_among c.args.movements in
    let own = sym (own-walking (goal.at.loop-k-preserved c).After-is_walk_or_first) in
    elim c.if-is_walk_or_first.branch [
      | then-is_walk_or_first w ↦
          w.set-is ∙ passing-more walking c.loop-k.k c.loop-k.invariant (own ∙ w.if-is_walk_or_first.true) w.with-set.ensures
      | else-is_walk_or_first w ↦ w.set-is ∙ passing-same walking c.loop-k.k c.loop-k.invariant (own ∙ w.if-is_walk_or_first.false)
    ]

pub returns : goal.returns
returns c = passing-all (walking_among c.args.movements) c.loop-k.invariant (omega arith)
