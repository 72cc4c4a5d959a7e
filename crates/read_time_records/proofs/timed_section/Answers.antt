-- A body that is there holds every record.
use Rattle.std.proofs.Common.{arith}
use Rattle.rules.specs.Personality.{body_at}
use Rattle.proof_acceptance.proofs.Sections.{records-held}
use Rattle.read_time_records.proofs.timed_section.Goals as goal

pub time_records-requires : goal.time_records-requires
unfolding body_at
time_records-requires c = grind (arith, records-held)
