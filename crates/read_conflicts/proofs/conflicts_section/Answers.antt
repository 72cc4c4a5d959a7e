use Rattle.std.proofs.Common.{ℕ, List, ◌≡◌, ◌*◌, arith, refl, sym, ◌∙◌}
use Rattle.std.specs.Prelude.{eqb}
use Rattle.std.proofs.lemmas.Result.{err_from_is_err_and}
use Rattle.rules.specs.Personality.{body_length, group_count, conflicts_head, section_at, conflicts_section}
use Rattle.rules.specs.Verdicts.{Verdict, ◌or_else◌}
use Rattle.rules.proofs.Verdicts.{or-next, or-stop, all-good}
use Rattle.proof_acceptance.proofs.Sections.{records-held, site-accepted, groups-accepted}
use Rattle.read_layout.specs.declared.Layout.{Layout}
use Rattle.read_layout.specs.LayoutOf.{LayoutOf}
use Rattle.read_conflicts.specs.Refused.{first_bad, first_clash}
use Rattle.read_conflicts.proofs.conflicts_section.Goals as goal
use Rattle.read_conflicts.proofs.conflicts_section.Goals.{In_ok-sized_section}

-- the head is held to the length that N needs
checked :
    {b : List ℕ} {w : Layout} {n : ℕ} {v : Verdict} →
    LayoutOf b w →
    n ≡ w.groupcount →
    v ≡ section_at b w.conflicts 4 (eqb (body_length b w.conflicts) (n * 4)) →
    v ≡ section_at b (conflicts_head b) 4 (eqb (body_length b (conflicts_head b)) (group_count b * 4))
checked laid e h = rw (e, laid.conflicts, laid.groupcount) at h

pub returns-in_err-sized_section : goal.returns-in_err-sized_section
unfolding conflicts_section
returns-in_err-sized_section c =
    let told = rw (c.s.view_is, c.c.view_is) at (checked c.s.invariant c.from.ensures c.sized_section.ensures) in
    let refused = c.in_err-sized_section.was in
    let p = err_from_is_err_and c.from_residual.result c.from_residual.ensures.1 in
    rw (p.1, p.2) (sym refused ∙ or-stop _ told refused)

-- the head has passed: all records are there
pub invariant_of-m : goal.invariant_of-m
unfolding conflicts_head
invariant_of-m c =
    let site = site-accepted _ (rw (← c.s.view_is) at c.c.invariant) in
    let groups = groups-accepted _ (rw (← c.c.view_is, ← c.s.view_is) at c.requires) in
    let laid = c.s.invariant in
    record {
      laid = laid;
      few_phases = omega (arith, laid.phasecount, site.phases.1);
      some_groups = omega (arith, laid.groupcount, site.groups.0);
      few_groups = omega (arith, laid.groupcount, site.groups.1);
      sets = rw (laid.groups, laid.groupcount) groups.next;
      conflicts = records-held _ _ 4 _ 4 (sym (rw c.from.ensures at c.sized_section.ensures) ∙ c.in_ok-sized_section.was);
    }

-- the head has passed: the answer is that of the two searches
after_head :
    (c : In_ok-sized_section) {v : Verdict} →
    let b = c.s.inside.bytes.now in
    v ≡ (first_bad b or_else first_clash b) →
    v ≡ conflicts_section c.args.c.now
unfolding conflicts_section first_bad first_clash
after_head c e =
    rw (c.s.view_is, c.c.view_is) at
    (or-next (checked c.s.invariant c.from.ensures c.sized_section.ensures) c.in_ok-sized_section.was e)

pub returns-then-surely_right : goal.returns-then-surely_right
unfolding first_bad first_clash
returns-then-surely_right c =
    let good = c.surely_right.ensures c.if-surely_right.true in
    after_head (goal.at.returns-then-surely_right c).In_ok-sized_section
    (or-next (all-good _ _ _ _ (λ g l. (good g l).0)) refl (all-good _ _ _ _ (λ g l. (good g l).1)))

pub returns : goal.returns
returns c = after_head (goal.at.returns c).In_ok-sized_section c.searched.ensures
