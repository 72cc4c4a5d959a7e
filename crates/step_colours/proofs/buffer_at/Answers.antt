-- A pedestrian group has a movement record, and each turn leads from one point of the pass to the next.
use Rattle.std.proofs.Common.{◌≡◌, ℕ, List, get_or, refl, sym, ap, ◌∙◌, arith}
use lib.ListN.{get_or-map}
use Rattle.rules.specs.declared.state.Movement.{Movement}
use Rattle.rules.specs.declared.state.Stage.TheVariants.{Idle}
use Rattle.rules.specs.Site.{group_of, is_pedestrian, movement_of}
use Rattle.rules.specs.State.{idle}
use Rattle.laws.proofs.Counting.{count_most}
use Rattle.step_colours.proofs.Shown.{none_passed, pedestrian-mark, pedestrian-has}
use Rattle.step_colours.proofs.buffer_at.Goals as goal
use Rattle.step_colours.proofs.buffer_at.Goals.{then-group-eq2, else-group-eq2}

-- the stage read of a movement record: past the array it is idle, whatever the age there
stage-read :
    (movements : List Movement) (k : ℕ) →
    (get_or movements k (record { stage = Idle; age = 0 })).stage ≡ (get_or movements k idle).stage
stage-read movements k =
    sym (get_or-map (λ (m : Movement). m.stage) movements k (record { stage = Idle; age = 0 }))
    ∙ get_or-map (λ (m : Movement). m.stage) movements k idle

pub loop-g-init : goal.loop-g-init
loop-g-init c = none_passed _ _ _

pub bounds-movements-k : goal.bounds-movements-k
unfolding group_of
bounds-movements-k c =
    let g = c.loop-g.g in
    let marked = pedestrian-mark c.args.groups.now g c.if-group-eq2.true in
    omega (arith, c.loop-g.invariant.counted, c.requires.movement g c.loop-g-test.true marked)

pub offset_bounds-movements-k : goal.offset_bounds-movements-k
offset_bounds-movements-k c = let h = bounds-movements-k c in omega arith

pub pass_group-k-requires : goal.pass_group-k-requires
unfolding movement_of
pass_group-k-requires c = (
  omega (arith, c.requires.fits, c.loop-g-test.true),
  omega (arith, c.loop-g.invariant.counted, count_most (is_pedestrian c.args.groups.now) c.loop-g.g),
)

pub loop-g-preserved : goal.loop-g-preserved
unfolding group_of
loop-g-preserved c =
    let groups = c.args.groups.now in
    let movements = c.args.movements in
    c.pass_group-k.ensures groups movements refl
    (λ is.
    elim c.if-group-eq2.branch [
      | then-group-eq2 w ↦ sym
          (w.stage-is ∙ stage-read movements c.loop-g.k ∙ ap (λ (j : ℕ). (get_or movements j idle).stage) c.loop-g.invariant.counted)
      | else-group-eq2 w ↦ absurd (w.if-group-eq2.false (pedestrian-has groups c.loop-g.g is))
    ])
    _
    c.loop-g.invariant
