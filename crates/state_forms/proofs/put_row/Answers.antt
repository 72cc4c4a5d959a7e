use Rattle.std.proofs.Common.{arith, ap, refl, get_or, ◌∙◌}
use Rattle.laws.proofs.Lists.{entry-same}
use Rattle.laws.proofs.Arrays.{stored-none, stored-all}
use Rattle.state_forms.specs.Forms.{parts_of}
use Rattle.state_forms.proofs.Parts.{stored-record}
use Rattle.state_forms.proofs.put_row.Goals as goal

pub loop-k-init : goal.loop-k-init
unfolding parts_of
loop-k-init g c = λ d. stored-none refl

pub loop-k-preserved : goal.loop-k-preserved
loop-k-preserved g c =
    λ d.
    let k = c.loop-k.k in
    let records = c.args.records.now in
    let own = c.index-records-k in
    rw (c.requires.1.1.1.1.1 _ _ _ _ _ c.put.ensures)
    (stored-record (λ k. g.written (get_or records k d)) c.args.width (λ k. c.requires.1.1.0 _) _ _ (c.loop-k.invariant d) c.loop-k-test.true refl
    (ap g.written (own.is ∙ entry-same records k own.result d c.loop-k-test.true)))

pub returns : goal.returns
returns g c = λ d. stored-all (c.loop-k.invariant d) (omega arith)
