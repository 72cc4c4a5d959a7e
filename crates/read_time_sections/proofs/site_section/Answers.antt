-- A site section that is there has its four bytes.
use Rattle.std.proofs.Common.{arith, sym, ◌∙◌}
use Rattle.rules.specs.Personality.{body_at, site_head}
use Rattle.proof_acceptance.proofs.Sections.{records-held}
use Rattle.read_time_sections.proofs.site_section.Goals as goal

pub time_at-requires : goal.time_at-requires
unfolding body_at
time_at-requires c =
    rw c.new.ensures
    (omega (arith, records-held _ site_head _ 1 4 (sym c.sized_section.ensures ∙ c.in_ok-sized_section.was)))
