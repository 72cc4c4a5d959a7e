use Rattle.std.proofs.Common.{◌∙◌, max, sym, ap₂, ap, arith}
use Rattle.laws.specs.Folds.{greatest_of}
use Rattle.rules.specs.Site.{phase_times, walk_times}
use Rattle.rules.specs.Waits.{clears_first, clearing_of}
use Rattle.rules.specs.Laws.{Sound}
use Rattle.wait_bound_movements.proofs.Taken.{clearance-taken}
use Rattle.wait_each.proofs.Waits.{walks-fit, comes-told, first_of, first-more, first-past}
use Rattle.wait_each.proofs.clears_first.Goals as goal
use Rattle.wait_each.proofs.clears_first.Goals.{then-ne, else-ne}

pub longest_of-longest-requires : goal.longest_of-longest-requires
unfolding walk_times
longest_of-longest-requires c =
    let row = rw (← c.site.view_is) at c.crossings.ensures in
    (row.count.1, λ k l. walks-fit c.site.inside.site c.site.invariant k (rw row.count.0 at l))

pub loop-r-init : goal.loop-r-init
unfolding greatest_of
loop-r-init c = rw (← c.site.view_is) (omega arith)

pub loop-r-preserved : goal.loop-r-preserved
unfolding phase_times clearing_of
loop-r-preserved c =
    let site = c.args.site.now in
    let sound : Sound site = rw c.site.view_is at c.site.invariant in
    let q = c.args.q in
    let r = c.loop-r.r in
    let told = sym (comes-told site sound q c.requires r c.next_after-next.result (rw c.ring.ensures at c.next_after-next.ensures)) in
    elim c.if-ne.branch [
      | then-ne w ↦
          let i = w.from-i.ensures in
          let row = c.crossings.ensures in
          let second =
          rw c.site.view_is at c.longest_of-longest.ensures.clearance r (omega (arith, sound.phases, rw c.site.view_is at c.loop-r-test.true))
          ∙ clearance-taken site.crossings site.size.movements row.row row.count.0 site.times.walks r in
          w.most-is
          ∙ w.max-most.ensures
          ∙ ap₂ max c.loop-r.invariant
          (w.max.ensures ∙ ap₂ max (rw (i, c.site.view_is) at w.leaving_of.ensures) (rw i at w.from-second.ensures ∙ second))
          ∙ first-more site q r (told ∙ sym c.ne.ensures ∙ w.if-ne.true)
      | else-ne w ↦ w.most-is ∙ c.loop-r.invariant ∙ first-past site q r (told ∙ sym c.ne.ensures ∙ w.if-ne.false)
    ]

pub returns : goal.returns
unfolding clears_first
returns c =
    c.loop-r.invariant ∙ ap (first_of c.args.site.now c.args.q) (rw (← c.site.view_is) (omega arith))
