use Rattle.std.proofs.Common.{◌≡◌, max, sym, ap₂, ◌≤◌, ◌∙◌, arith}
use Rattle.laws.specs.Folds.{greatest_of}
use Rattle.rules.specs.Site.{phase_times, walk_times}
use Rattle.rules.specs.Waits.{leaving_of}
use Rattle.wait_turns.proofs.Parts.{leaving-fits, walk-fits, most-past, most-but, most-more, all-parts}
use Rattle.wait_turns.proofs.ending.Goals as goal
use Rattle.wait_turns.proofs.ending.Goals.{After-leaving_of-leaving, then-bit8+then-ne, else-bit8, else-bit8-via-then-bit8+else-ne, else-bit8-via-else-bit8}

leaving-told : (c : After-leaving_of-leaving) → c.leaving_of-leaving.result ≡ leaving_of (phase_times c.site.inside.site.times c.args.p)
unfolding phase_times
leaving-told c = rw c.from.ensures at c.leaving_of-leaving.ensures

pub overflow_add-most : goal.overflow_add-most
overflow_add-most c =
    let pre = rw (← c.site.view_is) at c.requires in
    omega (arith, leaving-told (goal.at.overflow_add-most c).After-leaving_of-leaving, leaving-fits c.site.inside.site c.site.invariant c.args.p pre.0)

pub loop-k-init : goal.loop-k-init
unfolding greatest_of
loop-k-init c = omega arith

pub walk_ending-requires : goal.walk_ending-requires
unfolding walk_times
walk_ending-requires c =
    let pre = rw (← c.site.view_is) at c.requires in
    let site = c.site.inside.site in
    let sound = c.site.invariant in
    let told = leaving-told (goal.at.walk_ending-requires c).After-leaving_of-leaving in
    let left : c.leaving_of-leaving.result ≤ 6000 = omega (arith, told, leaving-fits site sound c.args.p pre.0) in
    let fits = walk-fits site sound c.loop-k.k c.loop-k-test.true in
    rw c.from-i.ensures (left, pre.1, pre.2, fits.0, fits.1, fits.2)

pub loop-k-preserved : goal.loop-k-preserved
loop-k-preserved c =
    let a = c.args in
    let leaving = c.leaving_of-leaving.result in
    let k = c.loop-k.k in
    let told = rw c.from-i.ensures at c.bit8.ensures in
    elim c.if-bit8.branch [
      | then-bit8+then-ne w ↦
          w.most-is
          ∙ w.max-most.ensures
          ∙ ap₂ max c.loop-k.invariant (rw c.from-i.ensures at w.walk_ending.ensures)
          ∙ most-more c.site.inside.site a.p a.without leaving a.z a.b k (sym told ∙ w.if-bit8.true) (sym w.ne.ensures ∙ w.if-ne.true)
      | else-bit8 w ↦
          w.most-is
          ∙ c.loop-k.invariant
          ∙ elim w.else-bit8.branch [
            | else-bit8-via-then-bit8+else-ne v ↦ sym (most-but c.site.inside.site a.p a.without leaving a.z a.b k (sym v.ne.ensures ∙ v.if-ne.false))
            | else-bit8-via-else-bit8 v ↦ sym (most-past c.site.inside.site a.p a.without leaving a.z a.b k (sym told ∙ v.if-bit8.false))
          ]
    ]

pub returns : goal.returns
returns c =
    let a = c.args in
    rw (← c.site.view_is)
    (all-parts c.site.inside.site a.p a.without c.leaving_of-leaving.result a.z a.b c.loop-k.most c.loop-k.k
    (leaving-told (goal.at.returns c).After-leaving_of-leaving)
    c.loop-k.invariant
    (omega arith))
