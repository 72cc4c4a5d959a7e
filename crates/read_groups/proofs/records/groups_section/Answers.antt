use Rattle.std.proofs.Common.{sym, ◌∙◌}
use Rattle.proof_acceptance.proofs.Sections.{records-held}
use Rattle.read_groups.proofs.records.groups_section.Goals as goal

pub group_records-requires : goal.group_records-requires
group_records-requires c =
    records-held _ _ 3 _ 2
    (sym (rw (c.from.ensures, c.s.invariant.groups, c.s.invariant.groupcount, c.s.view_is) at c.sized_section.ensures)
    ∙ c.in_ok-sized_section.was)
