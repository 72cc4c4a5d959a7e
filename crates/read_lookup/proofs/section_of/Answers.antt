-- A section that is found ends within the bytes, and the part is its body.
use Rattle.std.proofs.Common.{◌≡◌, arith, ◌∙◌}
use Rattle.rules.specs.Verdicts.{Accepted}
use Rattle.rules.specs.Lookup.{lookup_verdict}
use Rattle.rules.proofs.Checks.{checks}
use Rattle.read_lookup.proofs.Lookups.{part_none, part_end, part_held}
use Rattle.read_lookup.proofs.section_of.Goals as goal

pub slice_bounds-result-end : goal.slice_bounds-result-end
slice_bounds-result-end c =
    let found : lookup_verdict c.args.personality.now c.args.kind ≡ Accepted = grind (arith, checks) in
    part_end _ _ found c.in-Ok.ensures.found.1 (c.from.ensures ∙ c.two_at.ensures)

pub returns-in-Ok : goal.returns-in-Ok
returns-in-Ok c =
    let found : lookup_verdict c.args.personality.now c.args.kind ≡ Accepted = grind (arith, checks) in
    part_held _ _ found c.in-Ok.ensures.found.1 (c.from.ensures ∙ c.two_at.ensures)

pub returns-in-Err : goal.returns-in-Err
returns-in-Err c = part_none _ _ {r = c.in-Err.field-0.refusal} (grind (arith, checks))
