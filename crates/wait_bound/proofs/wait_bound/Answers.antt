-- No sum on the way is more than the bound, which two bytes hold.
use Rattle.std.proofs.Common.{ℕ, ◌+◌, ◌≤◌, ◌<◌, ◌≡◌, ◌∙◌, get_or, add-one, arith}
use Rattle.laws.specs.Folds.{sum_of}
use Rattle.rules.specs.declared.site.Site.{Site}
use Rattle.rules.specs.Site.{walk_times}
use Rattle.rules.specs.WaitBound.{wait_bound, longest_walk, longest_clearance}
use Rattle.wait_bound_movements.specs.Longest.{no_longest}
use Rattle.wait_bound_movements.proofs.Taken.{walk-taken, clearance-taken}
use Rattle.wait_bound.proofs.Sums.{share_at, all-shares, walk-fits, shares-fit}
use Rattle.wait_bound.proofs.wait_bound.Goals as goal
use Rattle.wait_bound.proofs.wait_bound.Goals.{In-loop-p, After-longest_of-longest}

pub longest_of-longest-requires : goal.longest_of-longest-requires
unfolding walk_times
longest_of-longest-requires c =
    let site = c.site.inside.site in
    let row = rw (← c.site.view_is) at c.crossings.ensures in
    (row.count.1, λ k l. walk-fits site.size site.times c.site.invariant.times k (rw row.count.0 at l))

-- A and C by the site's own entries are those by its whole row
module _ (c : After-longest_of-longest) where
  abbrev site : Site
  site = c.site.inside.site

  pub own-walk :
      (p : ℕ) → p < 8 →
      (get_or c.longest_of-longest.result p no_longest).walk ≡ longest_walk site.crossings site.times.walks site.size.movements p
  own-walk p l =
      let row = rw (← c.site.view_is) at c.crossings.ensures in
      c.longest_of-longest.ensures.walk p l ∙ walk-taken site.crossings site.size.movements row.row row.count.0 site.times.walks p

  pub own-clearance :
      (p : ℕ) → p < 8 →
      (get_or c.longest_of-longest.result p no_longest).clearance ≡ longest_clearance site.crossings site.times.walks site.size.movements p
  own-clearance p l =
      let row = rw (← c.site.view_is) at c.crossings.ensures in
      c.longest_of-longest.ensures.clearance p l ∙ clearance-taken site.crossings site.size.movements row.row row.count.0 site.times.walks p

pub loop-p-init : goal.loop-p-init
unfolding sum_of
loop-p-init c = omega arith

-- the sum with the share of a turn's phase
turn-fits : (c : In-loop-p) → c.loop-p.sum + share_at c.site.inside.site.times.phases c.longest_of-longest.result c.loop-p.p ≤ 65535
turn-fits c =
    let site = c.site.inside.site in
    let sound = c.site.invariant in
    let longest = c.longest_of-longest in
    let after = c.before.before.before in
    omega (
      arith,
      c.loop-p.invariant,
      shares-fit site.size site.times site.crossings longest.result sound.phases.1 (own-walk after) (own-clearance after) sound.times
          c.loop-p.p (omega arith),
    )

pub phase_share-sum-requires : goal.phase_share-sum-requires
phase_share-sum-requires c = omega (arith, turn-fits (goal.at.phase_share-sum-requires c).In-loop-p)

pub overflow_add-sum : goal.overflow_add-sum
overflow_add-sum c =
    omega (arith, turn-fits (goal.at.overflow_add-sum c).In-loop-p, c.phase_share-sum.ensures)

pub loop-p-preserved : goal.loop-p-preserved
unfolding sum_of
loop-p-preserved c = rw add-one (omega (arith, c.loop-p.invariant, c.phase_share-sum.ensures))

pub returns : goal.returns
unfolding wait_bound
returns c =
    let site = c.site.inside.site in
    let longest = c.longest_of-longest in
    let after = (goal.at.returns c).After-longest_of-longest in
    rw (← c.site.view_is)
    (omega (
      arith,
      c.loop-p.invariant,
      all-shares site.size site.times site.crossings longest.result c.site.invariant.phases.1 (own-walk after) (own-clearance after)
          c.loop-p.p (omega arith),
    ))
