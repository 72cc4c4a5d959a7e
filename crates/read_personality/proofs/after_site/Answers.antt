-- Accepted groups have at most eight movements.
use Rattle.std.proofs.Common.{◌≡◌, arith}
use Rattle.rules.specs.Verdicts.{Accepted}
use Rattle.rules.specs.Personality.{movement_count, groups_section}
use Rattle.rules.proofs.Checks.{checks}
use Rattle.proof_acceptance.proofs.Sections.{groups-accepted}
use Rattle.read_personality.proofs.after_site.Goals as goal

pub pedestrians_section-requires : goal.pedestrians_section-requires
pedestrians_section-requires c =
    let b = c.c.inside.sections in
    let accepted : groups_section b ≡ Accepted = grind (arith, checks) in
    let movements : c.in_ok-groups.groups.movements ≡ movement_count b = grind arith in
    (movements, omega (arith, movements, (groups-accepted b accepted).movements))
