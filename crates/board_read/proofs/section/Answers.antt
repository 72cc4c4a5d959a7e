-- By the two cases of the lookup's verdict.
use Rattle.std.proofs.Common.{◌≡◌, arith}
use Rattle.rules.specs.Verdicts.{Accepted, Refused}
use Rattle.rules.specs.Lookup.{lookup_verdict}
use Rattle.rules.proofs.Checks.{checks}
use Rattle.board_read.proofs.SectionAnswers.{section-near, section-refused, section-found}
use Rattle.board_read.proofs.section.Goals as goal

pub refusal-requires : goal.refusal-requires
refusal-requires c =
    let refused : lookup_verdict c.args.personality.now c.args.kind ≡ Refused c.in-Err.missing.refusal.number c.in-Err.missing.refusal.place = grind (arith, checks) in
    section-near _ _ refused

pub returns-in-Ok : goal.returns-in-Ok
returns-in-Ok c =
    let found : lookup_verdict c.args.personality.now c.args.kind ≡ Accepted = grind (arith, checks) in
    section-found _ _ c.in-Ok.head _ _ found c.in-Ok.ensures.found.1 c.two_at.ensures c.part.ensures

pub returns-in-Err : goal.returns-in-Err
returns-in-Err c =
    let refused : lookup_verdict c.args.personality.now c.args.kind ≡ Refused c.in-Err.missing.refusal.number c.in-Err.missing.refusal.place = grind (arith, checks) in
    section-refused _ _ _ refused c.refusal.ensures
