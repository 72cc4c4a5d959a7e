-- Past the refusals the outputs have room in the buffer.
use Rattle.std.proofs.Common.{◌≡◌, sym, arith, length, ◌+◌, ◌-◌}
use Rattle.rules.specs.Verdicts.{Accepted}
use Rattle.rules.proofs.Checks.{checks}
use Rattle.cabinet_records.specs.Cabinet.{dark, outputs_of}
use Rattle.cabinet_held.specs.Held.{taking_checks}
use Rattle.cabinet_held.proofs.Checks.{taking-fits}
use Rattle.cabinet_held.proofs.Turned.{turned-filled}
use Rattle.cabinet_held.proofs.held_taking.Goals as goal

pub slice_bounds-fill-end : goal.slice_bounds-fill-end
slice_bounds-fill-end c =
    let accepted : taking_checks c.args.personality.now c.args.first (length c.args.outputs.now) ≡ Accepted = grind (arith, checks) in
    omega (arith, taking-fits _ _ accepted, c.outputs_of.ensures)

pub returns : goal.returns
returns c =
    let a = c.args in
    let accepted : taking_checks a.personality.now a.first (length a.outputs.now) ≡ Accepted = grind (arith, checks) in
    let count : c.from-start.result + c.from.result - c.from-start.result ≡ outputs_of a.personality.now = omega (arith, c.outputs_of.ensures) in (
      sym accepted,
      turned-filled dark _ _ _ accepted c.from-start.ensures count (taking-fits _ _ accepted) (c.fill.ensures.after (λ y same. same)),
    )
