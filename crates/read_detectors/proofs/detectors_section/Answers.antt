use Rattle.std.proofs.Common.{◌≡◌, ◌-◌, ◌/◌, ◌%◌, ◌&&◌, sym, ap, ◌∙◌, arith}
use Rattle.std.specs.Prelude.{eqb, leb}
use borrow.Author.Tests.{ne_eqb}
use Rattle.std.proofs.lemmas.Result.{err_from_is_err_and}
use Rattle.rules.specs.Personality.{body_length, detectors_head, detector_count, section_at, detectors_section}
use Rattle.rules.proofs.Verdicts.{or-next, or-stop}
use Rattle.proof_acceptance.proofs.Sections.{body-held}
use Rattle.read_layout.proofs.Lengths.{detectors-length}
use Rattle.read_detectors.proofs.detectors_section.Goals as goal
use Rattle.read_detectors.proofs.detectors_section.Goals.{After-section_at, then-length-eq0, else-length-eq0}

-- an even length of at most 96
right :
    (c : After-section_at) →
    let length = c.s.inside.layout.pedestrians - c.s.inside.layout.detectors - 4 in
    c.if-length-eq0.section_at ≡ (eqb (length % 2) 0 && leb length 96)
right c =
    elim c.if-length-eq0.branch [
      | then-length-eq0 w ↦ w.section_at-is ∙ rw w.if-length-eq0.true
      | else-length-eq0 w ↦ w.section_at-is ∙ rw (ne_eqb _ _ w.if-length-eq0.false)
    ]

-- the head is held to it
checked :
    (c : After-section_at) →
    let b = c.args.c.now in
    let bytes = body_length b (detectors_head b) in
    c.section_at.result ≡ section_at b (detectors_head b) 5 (eqb (bytes % 2) 0 && leb bytes 96)
checked c = rw (right c, detectors-length c.s.invariant, c.s.invariant.detectors, c.s.view_is, c.c.view_is) at c.section_at.ensures

pub returns-in_err-section_at : goal.returns-in_err-section_at
unfolding detectors_section
returns-in_err-section_at c =
    let told = checked (goal.at.returns-in_err-section_at c).After-section_at in
    let refused = c.in_err-section_at.was in
    let p = err_from_is_err_and c.from_residual.result c.from_residual.ensures.1 in
    rw (p.1, p.2) (sym refused ∙ or-stop _ told refused)

pub detector_records-requires : goal.detector_records-requires
unfolding detector_count
detector_records-requires c =
    let length = rw (c.s.view_is, c.c.view_is) at (detectors-length c.s.invariant) in
    let held = body-held _ _ 5 _ (sym (checked (goal.at.detector_records-requires c).After-section_at) ∙ c.in_ok-section_at.was) in (
      ap (λ n. n / 2) length,
      omega (arith, c.s.invariant.near),
      omega (arith, held.1, length),
    )

pub returns : goal.returns
unfolding detectors_section
returns c = or-next (checked (goal.at.returns c).After-section_at) c.in_ok-section_at.was c.detector_records.ensures
