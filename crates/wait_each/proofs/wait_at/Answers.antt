-- A phase or a movement, and no wait is more than two bytes hold.
use Rattle.std.proofs.Common.{ℕ, ◌-◌, ◌<◌, ◌≡◌, ◌∙◌, true, sym, ap, subst, arith}
use Rattle.rules.specs.declared.site.Site.{Site}
use Rattle.rules.specs.Site.{crosses}
use Rattle.rules.specs.Waits.{movement_wait}
use Rattle.wait_each.proofs.Waits.{wait-fits, movement-fits, phase-fits, wait-of-phase, wait-of-movement}
use Rattle.wait_each.proofs.wait_at.Goals as goal
use Rattle.wait_each.proofs.wait_at.Goals.{After-phase_of_movement-q}

pub overflow_cast-result : goal.overflow_cast-result
overflow_cast-result c =
    omega (arith, rw (← c.site.view_is) at c.phase_wait.ensures, wait-fits c.site.inside.site c.site.invariant c.args.i c.if-i-site.true)

-- past the phases it is a movement of the site, and its phase is found
module _ (c : After-phase_of_movement-q) where
  abbrev site : Site
  site = c.site.inside.site

  abbrev m : ℕ
  m = c.args.i - site.size.phases

  exists : m < site.size.movements
  exists = omega (arith, rw (← c.site.view_is) at c.requires, c.if-i-site.false)

  of-phase : (c.phase_of_movement-q.result < site.size.phases) × (crosses site.crossings m c.phase_of_movement-q.result ≡ true)
  of-phase =
      subst (λ (q : ℕ). (q < site.size.phases) × (crosses site.crossings m q ≡ true)) (sym (rw (← c.site.view_is) at c.phase_of_movement-q.ensures))
      (phase-fits site c.site.invariant m exists)

pub movement_wait-requires : goal.movement_wait-requires
movement_wait-requires c =
    let past = (goal.at.movement_wait-requires c).After-phase_of_movement-q in
    let of = of-phase past in
    rw (← c.site.view_is) (of.0, exists past, of.1)

pub overflow_cast-result-else-i-site : goal.overflow_cast-result-else-i-site
overflow_cast-result-else-i-site c =
    let past = (goal.at.overflow_cast-result-else-i-site c).After-phase_of_movement-q in
    let of = of-phase past in
    omega (
      arith,
      rw (← c.site.view_is) at c.movement_wait.ensures,
      movement-fits (site past) c.site.invariant c.phase_of_movement-q.result of.0 (m past) (exists past) of.1,
    )

pub returns-then-i-site : goal.returns-then-i-site
returns-then-i-site c =
    rw (← c.site.view_is)
    (rw (← c.site.view_is) at c.phase_wait.ensures ∙ sym (wait-of-phase c.site.inside.site c.args.i c.if-i-site.true))

pub returns-else-i-site : goal.returns-else-i-site
returns-else-i-site c =
    let past = (goal.at.returns-else-i-site c).After-phase_of_movement-q in
    let wait = rw (← c.site.view_is) at c.movement_wait.ensures in
    let phase = rw (← c.site.view_is) at c.phase_of_movement-q.ensures in
    rw (← c.site.view_is)
    (wait
    ∙ ap (λ (q : ℕ). movement_wait (site past) q (m past)) phase
    ∙ sym (wait-of-movement (site past) (m past) c.args.i (exists past) (omega (arith, c.if-i-site.false))))
