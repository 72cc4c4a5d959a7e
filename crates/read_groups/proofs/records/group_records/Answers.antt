use Rattle.std.proofs.Common.{◌≡◌, ◌+◌, ◌^◌, min, false, ◌||◌, refl, sym, ap, ap₂, ◌∙◌, add-one, arith}
use Rattle.std.specs.Prelude.{eqb}
use borrow.Author.Tests.{eq-eqb, ne_eqb}
use Rattle.rules.specs.Personality.{phase_count, group_count, group_set, group_mark, pedestrian, movement_count, ninth_pedestrian, group_record, stops_early, bad_group}
use Rattle.laws.specs.Folds.{any_of, count_of}
use Rattle.rules.specs.Verdicts.{Accepted, first_of, verdict}
use Rattle.laws.proofs.Booleans.{and-false-left, and-false-right}
use Rattle.laws.proofs.Counting.{count-one-more, count-as-before, count_most}
use Rattle.rules.proofs.Checks.{checks}
use Rattle.rules.proofs.Verdicts.{first_more}
use Rattle.read_groups.specs.GroupsRead.{CrossedPhases}
use Rattle.read_groups.proofs.GroupChecks.{group-passed}
use Rattle.read_groups.proofs.PhaseSets.{Gathered, gathered_none, gathered-more, crossed-none, crossed-more, crossed-same, all-served, one-unserved}
use Rattle.read_groups.proofs.records.group_records.Goals as goal
use Rattle.read_groups.proofs.records.group_records.Goals.{After-set_bound-bound, After-bad_group, After-loop-g, then-mark-eq2+else-movements-eq-MOVEMENTS, else-mark-eq2}

-- the bound is that of the site's phases
bounded : (c : After-set_bound-bound) → c.set_bound-bound.result ≡ min (2 ^ phase_count c.args.s.now) 512
bounded c = rw (c.s.invariant.phasecount, c.s.view_is) at c.set_bound-bound.ensures

pub loop-g-init : goal.loop-g-init
unfolding count_of first_of any_of
loop-g-init c =
    record {
      counted = refl;
      passed = refl;
      gathered = gathered_none _;
      stopping = refl;
      crossing = crossed-none _;
    }

-- what record g holds, and whether it is bad
set-read : (c : After-bad_group) → c.pair_at-group.result.first ≡ group_set c.args.s.now c.loop-g.g
unfolding group_set
set-read c = rw (c.s.invariant.groups, c.s.view_is) at c.pair_at-group.ensures.0

mark-read : (c : After-bad_group) → c.pair_at-group.result.second ≡ group_mark c.args.s.now c.loop-g.g
unfolding group_mark
mark-read c = rw (c.s.invariant.groups, c.s.view_is) at c.pair_at-group.ensures.1

tested :
    (c : After-bad_group) →
    let b = c.args.s.now in
    let g = c.loop-g.g in
    bad_group (phase_count b) (group_set b g) (group_mark b g) ≡ c.bad_group.result
tested c = sym (c.bad_group.ensures ∙ rw (c.s.invariant.phasecount, c.s.view_is, set-read c, mark-read c))

pub overflow_add-movements : goal.overflow_add-movements
overflow_add-movements c = omega (arith, c.loop-g.invariant.counted, count_most (pedestrian c.args.s.now) c.loop-g.g)

pub loop-g-preserved : goal.loop-g-preserved
unfolding pedestrian ninth_pedestrian stops_early any_of
loop-g-preserved c =
    let at = (goal.at.loop-g-preserved c).After-bad_group in
    let b = c.args.s.now in
    let g = c.loop-g.g in
    let inv = c.loop-g.invariant in
    let good = tested at ∙ c.if-bad_group.false in
    -- after the mark of group g was asked for: the count and the set go on, and the group is not the ninth pedestrian one
    let told : (c.if-mark-eq2.movements ≡ count_of (pedestrian b) (g + 1)) × CrossedPhases b c.if-mark-eq2.crossed (g + 1) × (ninth_pedestrian b g ≡ false) =
    elim c.if-mark-eq2.branch [
      | then-mark-eq2+else-movements-eq-MOVEMENTS w ↦
          let walks = eq-eqb _ _ (sym (mark-read at) ∙ w.if-mark-eq2.true) in (
            w.movements-is ∙ count-one-more _ _ inv.counted walks,
            rw w.crossed-is (crossed-more b inv.crossing (set-read at) good walks),
            and-false-right (pedestrian b g) (ne_eqb _ _ (λ e. w.if-movements-eq-MOVEMENTS.false (inv.counted ∙ e))),
          )
      | else-mark-eq2 w ↦
          let vehicle = ne_eqb _ _ (λ e. w.if-mark-eq2.false (mark-read at ∙ e)) in (
            w.movements-is ∙ count-as-before _ _ inv.counted vehicle,
            rw w.crossed-is (crossed-same b inv.crossing vehicle),
            and-false-left _ vehicle,
          )
    ] in
    record {
      counted = told.0;
      passed = first_more _ _ inv.passed (group-passed _ _ good told.2);
      gathered = gathered-more _ _ _ (omega arith) (set-read at) good inv.gathered;
      stopping = rw add-one (ap₂ (λ s t. s || t) inv.stopping (ap (λ m. eqb m 3) (mark-read at)));
      crossing = told.1;
    }

-- every record has passed
gathered-all : (c : After-loop-g) → Gathered c.args.s.now c.loop-g.served (group_count c.args.s.now)
gathered-all c = let last : c.loop-g.g ≡ group_count c.args.s.now = omega (arith, rw c.s.view_is at c.s.invariant.groupcount) in rw (← last) c.loop-g.invariant.gathered

passed-all : (c : After-loop-g) → let b = c.args.s.now in first_of (group_record b) (group_count b) ≡ Accepted
passed-all c = let last : c.loop-g.g ≡ group_count c.args.s.now = omega (arith, rw c.s.view_is at c.s.invariant.groupcount) in rw (← last) c.loop-g.invariant.passed

pub returns-then-from-bound : goal.returns-then-from-bound
unfolding verdict
returns-then-from-bound c =
    let at = goal.at.returns-then-from-bound c in
    let passed = passed-all at.After-loop-g in
    let missing = one-unserved _ _ (bounded at.After-set_bound-bound) (gathered-all at.After-loop-g) (λ e. omega arith) in
    record { verdict = grind (arith, checks, passed, missing); told = tt }

pub returns : goal.returns
unfolding movement_count verdict
returns c =
    let at = goal.at.returns c in
    let inv = c.loop-g.invariant in
    let last : c.loop-g.g ≡ group_count c.args.s.now = omega (arith, rw c.s.view_is at c.s.invariant.groupcount) in
    let passed = passed-all at.After-loop-g in
    let served = all-served _ _ (bounded at.After-set_bound-bound) (gathered-all at.After-loop-g) (omega arith) in
    record {
      verdict = grind (arith, checks, passed, served);
      told = record {
        movements = rw (← last) inv.counted;
        crossed = rw (← last) inv.crossing;
        early = rw (← last) inv.stopping;
      };
    }
