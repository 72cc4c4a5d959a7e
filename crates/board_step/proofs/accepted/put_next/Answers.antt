-- A change writes the whole state, any other step its first part.
use Rattle.std.proofs.Common.{Bool, arith, rules, sym, ap, ◌∙◌}
use Rattle.laws.specs.Bytes.{byte_at}
use Rattle.state_forms.specs.Forms.{AreBytes}
use Rattle.state_timed.specs.TimedLayout.{timed_decoded, timed_encoded}
use Rattle.state_timed.proofs.TimedLaws.{timed-known}
use Rattle.state_timed.proofs.TimedWritten.{kept-written}
use Rattle.board_step.specs.Accepted.{after}
use Rattle.board_step.proofs.accepted.put_next.Goals as goal

pub put_settled-requires : goal.put_settled-requires
put_settled-requires c = (timed-known c.args.state.now c.requires).size

pub put-requires : goal.put-requires
put-requires c = omega (arith, (timed-known c.args.state.now c.requires).size)

pub returns-else-over : goal.returns-else-over
unfolding byte_at
returns-else-over c =
    let a = c.args in
    let bytes : AreBytes a.state.now = record { each = λ i. search rules } in
    c.put.ensures
    ∙ kept-written a.state.now bytes c.requires a.next
    ∙ ap (λ (over : Bool). timed_encoded (after a.site.now a.next over (timed_decoded a.state.now))) (sym c.if-over.false)
