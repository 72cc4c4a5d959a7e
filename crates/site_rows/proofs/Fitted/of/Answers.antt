-- An accepted personality fits a site.
use Rattle.site_rows.proofs.Accepted.{accepted-fits}
use Rattle.site_rows.proofs.Fitted.of.Goals as goal

pub invariant_of-result : goal.invariant_of-result
invariant_of-result c =
    (accepted-fits (rw (← c.sections.view_is) at c.p.invariant.0) c.sections.invariant, rw (← c.sections.view_is) at c.p.invariant.1)
