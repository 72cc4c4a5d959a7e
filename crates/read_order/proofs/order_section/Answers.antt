use Rattle.std.proofs.Common.{sym, ◌∙◌, arith}
use borrow.Author.Tests.{eqb-true}
use Rattle.rules.specs.Personality.{body_at, body_length, phase_count, order_head}
use Rattle.proof_acceptance.proofs.Sections.{body-held}
use Rattle.read_order.proofs.order_section.Goals as goal

pub each_once-requires : goal.each_once-requires
unfolding body_at
each_once-requires c =
    let b = c.args.c.now in
    let head = order_head b in
    let passed = sym (rw (c.from.ensures, c.s.invariant.order, c.s.invariant.phasecount, c.s.view_is, c.c.view_is) at c.sized_section.ensures) ∙ c.in_ok-sized_section.was in
    let held = body-held b head 9 _ passed in
    omega (arith, eqb-true (body_length b head) (phase_count b) held.0, held.1)
