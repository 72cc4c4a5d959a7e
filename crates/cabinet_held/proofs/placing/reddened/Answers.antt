-- Past the refusals the outputs are among the 32, and have room in the buffer.
use Rattle.std.proofs.Common.{◌≡◌, sym, refl, arith, length, ◌+◌, ◌-◌}
use Rattle.rules.specs.Verdicts.{Accepted, verdict}
use Rattle.rules.specs.Colours.{red}
use Rattle.rules.proofs.Checks.{checks}
use Rattle.cabinet_records.specs.Cabinet.{outputs_of}
use Rattle.cabinet_held.specs.Held.{placing_checks}
use Rattle.cabinet_held.proofs.Checks.{placing-fits, placing-within}
use Rattle.cabinet_held.proofs.Turned.{turned-filled}
use Rattle.cabinet_held.proofs.placing.reddened.Goals as goal

passed : (c : goal.After-from) → let a = c.args in placing_checks a.personality.now a.free a.met a.first (length a.outputs.now) ≡ Accepted
unfolding placing_checks
passed c = grind (arith, checks)

pub overflow_add-first : goal.overflow_add-first
overflow_add-first c = record { fits = omega (arith, placing-within _ _ _ _ _ (passed c), c.outputs_of-count.ensures) }

pub slice_bounds-fill-end : goal.slice_bounds-fill-end
slice_bounds-fill-end c = omega (arith, placing-fits _ _ _ _ _ (passed c), c.outputs_of-count.ensures)

pub returns : goal.returns
unfolding verdict placing_checks
returns c =
    let a = c.args in
    let accepted : placing_checks a.personality.now a.free a.met a.first (length a.outputs.now) ≡ Accepted = grind (arith, checks) in
    let count : a.first + c.from.result - a.first ≡ outputs_of a.personality.now = omega (arith, c.outputs_of-count.ensures) in (
      sym accepted,
      c.in_ok-p.ensures.bytes,
      turned-filled red _ _ _ accepted refl count (placing-fits _ _ _ _ _ accepted) (c.fill.ensures.after (λ y same. same)),
    )
