-- Record k is not asked, and the first that has one of the outputs is the answer.
use mathlib.Core.Path.{sym, ◌∙◌}
use native.Mathlib.Omega.{arith}
use Rattle.cabinet_parts.proofs.Asked.{asked-none, asked-itself, asked-next, asked-met, asked-all}
use Rattle.cabinet_parts.proofs.overlaps.Goals as goal
use Rattle.cabinet_parts.proofs.overlaps.Goals.{else-j-k-via-then-j-k+else-meets, else-j-k-via-else-j-k}

pub loop-j-init : goal.loop-j-init
loop-j-init c = asked-none c.args.row.now c.args.k c.args.first c.args.count

pub returns-then-meets : goal.returns-then-meets
returns-then-meets c =
    let a = c.args in
    asked-met a.row.now a.k a.first a.count _ c.loop-j-test.true c.if-j-k.true c.requires (sym c.meets.ensures ∙ c.if-meets.true)

pub loop-j-preserved : goal.loop-j-preserved
loop-j-preserved c =
    let a = c.args in
    elim c.else-j-k.branch [
      | else-j-k-via-then-j-k+else-meets w ↦
          asked-next a.row.now a.k a.first a.count _ c.loop-j-test.true w.if-j-k.true c.loop-j.invariant (sym w.meets.ensures ∙ w.if-meets.false)
      | else-j-k-via-else-j-k w ↦ asked-itself a.row.now a.k a.first a.count c.loop-j.invariant w.if-j-k.false
    ]

pub returns : goal.returns
returns c = let a = c.args in asked-all a.row.now a.k a.first a.count (omega arith) c.requires c.loop-j.invariant
