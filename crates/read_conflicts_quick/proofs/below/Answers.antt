use Rattle.std.proofs.Common.{◌≡◌, ap, ◌∙◌, arith, add-one, not, rules, leb, ◌^◌}
use Rattle.rules.specs.Personality.{body_at, record_at, group_count, conflict_set}
use Rattle.laws.specs.Folds.{any_of}
use Rattle.laws.proofs.BitRanges.{reaches-nothing}
use Rattle.laws.proofs.JoinedBits.{union-reaches}
use Rattle.read_conflicts_quick.proofs.below.Goals as goal

pub loop-g-init : goal.loop-g-init
unfolding any_of
loop-g-init c = reaches-nothing (group_count c.args.m.now)

pub four_in-all-requires : goal.four_in-all-requires
unfolding body_at
four_in-all-requires c = search rules

pub loop-g-preserved : goal.loop-g-preserved
unfolding conflict_set record_at body_at any_of
loop-g-preserved c =
    rw (add-one, union-reaches, c.loop-g.invariant, c.four_in-all.ensures, c.m.invariant.laid.conflicts, c.m.view_is)

pub returns : goal.returns
returns c =
    let b = c.args.m.now in
    let last : c.loop-g.g ≡ group_count b = omega (arith, c.groups-g-end.ensures) in
    ap not (rw (c.m.invariant.laid.groupcount, c.m.view_is) at c.reaches32.ensures ∙ c.loop-g.invariant ∙ ap (any_of (λ g. leb (2 ^ group_count b) (conflict_set b g))) last)
