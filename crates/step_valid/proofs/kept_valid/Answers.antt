-- The scan of the site's own movements is that of the row.
use Rattle.std.proofs.Common.{sym, ◌∙◌}
use Rattle.rules.specs.Kept.{kept_valid}
use Rattle.laws.proofs.ByteSets.{set_same}
use Rattle.site_sound.proofs.Rows.{stands-taken}
use Rattle.step_valid.proofs.kept_valid.Goals as goal

pub returns-then-valid : goal.returns-then-valid
unfolding kept_valid
returns-then-valid c =
    let site = c.args.site.now in
    let scanned =
    c.stands.ensures
    ∙ set_same _ _ (λ p l. stands-taken site.crossings site.size.movements c.crossings.ensures.row c.crossings.ensures.count.0 c.args.state.core.demands p) in
    rw (scanned, sym c.valid.ensures ∙ c.if-valid.true)
