use Rattle.std.proofs.Common.{◌≡◌, length, get_or, sym, ap, ◌∙◌, arith}
use lib.ListN.{get_or-map}
use lib.Seq.{sets}
use Rattle.rules.specs.Site.{no_phase_times}
use Rattle.state_forms.specs.Forms.{two}
use Rattle.state_forms.proofs.Parts.{parts_same}
use Rattle.state_times.proofs.TimesLaws.{early_of}
use Rattle.state_times.proofs.phases.put_early.Goals as goal

pub returns : goal.returns
returns c =
    let own = c.args.records in
    let e : length own ≡ 7 = omega arith in
    rw e at (c.put_row.ensures no_phase_times)
    ∙ ap (sets c.args.bytes.now c.args.at)
    (parts_same (λ k. two.written (early_of (get_or own k no_phase_times))) _ 7 (λ k l. ap two.written (sym (get_or-map early_of own k no_phase_times))))
