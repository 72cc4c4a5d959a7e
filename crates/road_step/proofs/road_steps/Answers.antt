-- A turn: the road that is known to be there, one step on.
use Rattle.std.proofs.Common.{◌≡◌, ◌+◌, sym, subst, ◌∙◌, arith}
use Rattle.rules.specs.declared.state.KeptState.{KeptState}
use Rattle.road_step.specs.Greens.{GreenIn, Follows}
use Rattle.road_step.proofs.GreenGroups.{step_follows}
use Rattle.road_step.proofs.Roads.{on-valid, may-arrive, may-release, next-road}
use Rattle.road_step.proofs.road_steps.Goals as goal

pub arrivals-inputs-requires : goal.arrivals-inputs-requires
arrivals-inputs-requires c =
    let r = c.requires in
    may-arrive (c.loop-n.invariant.3 r.b r.whole r.n r.enough r.road) (omega (arith, c.requires.enough))

pub kept_stepped-last-requires : goal.kept_stepped-last-requires
kept_stepped-last-requires c =
    let r = c.requires in
    let road = c.loop-n.invariant.3 r.b r.whole r.n r.enough r.road in
    on-valid road

pub releases-requires : goal.releases-requires
releases-requires c =
    let r = c.requires in
    may-release (c.loop-n.invariant.3 r.b r.whole r.n r.enough r.road) (omega (arith, c.requires.enough)) c.arrivals-inputs.ensures

pub loop-n-preserved : goal.loop-n-preserved
loop-n-preserved c =
    let inv = c.loop-n.invariant in
    let shown : GreenIn c.args.site.now c.kept_stepped-last.result.core c.greens_after-greens.result =
    c.greens_after-greens.ensures c.loop-n.last.core
    (subst (λ (next : KeptState). Follows c.loop-n.last.core.position next.core.position) (sym c.kept_stepped-last.ensures)
    (step_follows c.args.site.now c.loop-n.last c.arrivals-inputs.result))
    inv.2 in (
      c.releases.ensures.same ∙ c.arrivals-inputs.ensures.same ∙ inv.0,
      λ i l. c.releases.ensures.rest i l ∙ c.arrivals-inputs.ensures.rest i l ∙ inv.1 i l,
      shown,
      λ b whole m l road.
          let later : m + c.loop-n.n + 1 ≡ m + (c.loop-n.n + 1) = omega arith in
          rw later at (next-road (inv.3 b whole m l road) (omega (arith, l, c.loop-n-test.true)) c.arrivals-inputs.ensures c.kept_stepped-last.ensures shown c.releases.ensures),
    )
