use Rattle.std.proofs.Common.{sym, ◌∙◌, arith}
use Rattle.run_parts.proofs.Parts.{before_last}
use Rattle.run_trace.proofs.records.Goals as goal

pub loop-more-preserved : goal.loop-more-preserved
loop-more-preserved g c =
    let part = c.record_part-part.ensures.0 in
    (omega arith, λ e. omega (arith, before_last _ _ _ _ (sym part.more ∙ sym c.in_ok-more.ensures.more ∙ e)))
