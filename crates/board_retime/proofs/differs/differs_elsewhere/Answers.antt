use Rattle.std.proofs.Common.{◌≡◌, ◌∙◌, ap, length, refl, true, false, arith, rules, tests}
use Rattle.std.proofs.lemmas.Iterator.{cases_from_any, YieldsList-from_range}
use Rattle.laws.proofs.Ranges.{any_of_range}
use Rattle.board_retime.proofs.Differences.{differs, other_length, compared}
use Rattle.board_retime.proofs.differs.differs_elsewhere.Goals as goal

pub returns-then-new-length : goal.returns-then-new-length
returns-then-new-length c =
    rw (c.sections.view_is, c.p.view_is)
    (other_length c.args.p.now c.args.new.now (rw (c.sections.view_is, c.p.view_is) at c.if-new-length.true))

pub returns-else-new-length : goal.returns-else-new-length
returns-else-new-length c =
    let b = c.args.p.now in
    let new = c.args.new.now in
    let n = length b in
    compared b new _ (rw (c.sections.view_is, c.p.view_is) at c.if-new-length.false)
    (any_of_range (differs b new) n _
    (cases_from_any _ _ _ (λ i. differs b new i ≡ true) (λ i. differs b new i ≡ false) c.any.ensures.ran
    (YieldsList-from_range 0 (length c.sections.inside.bytes.now) n refl (omega (arith, ap length (c.sections.view_is ∙ c.p.view_is))))
    (λ x q k. search (rules, tests))
    (λ x q k. search (rules, tests))))
