use Rattle.std.proofs.Common.{◌<◌, ◌≡◌, ◌∙◌, length, length-append, sym, ap, arith, rules}
use Rattle.panel_text.specs.Text.{line, reason_text}
use Rattle.panel_line.proofs.Lengths.{line-short}
use Rattle.panel_line.proofs.Told.{first_told, next-none, next-some, all-told, line-told}
use Rattle.panel_line.proofs.line_length.Goals as goal
use Rattle.panel_line.proofs.line_length.Goals.{After-reasons_of, in-Some, in_default}

pub loop-reason-init : goal.loop-reason-init
loop-reason-init c = (sym (line-short c.args.why.phase), omega arith)

-- the array of the reasons
long : (c : After-reasons_of) → length c.reasons_of.result ≡ 11
long c = search rules

pub loop-reason-preserved : goal.loop-reason-preserved
loop-reason-preserved c =
    let phase = c.args.why.phase in
    let reasons = c.reasons_of.result in
    let i = c.loop-reason.reason-index in
    let inside : i < length reasons = omega (arith, long (goal.at.loop-reason-preserved c).After-reasons_of, c.loop-reason-test.true) in
    elim c.match-reason.branch [
      | in-Some w ↦
          let more = next-some phase reasons i inside w.in-Some.reason w.in-Some.is in
          let sum = ap length more ∙ length-append (line phase (first_told reasons i)) (reason_text w.in-Some.reason) in
          let old = c.loop-reason.invariant in
          let own = w.reason_length-total.ensures in
          (omega (arith, sum, old.0, own.0, w.total-is), omega (arith, old.1, own.1, w.total-is))
      | in_default w ↦
          let same = next-none phase reasons i inside w.in_default.is in
          let old = c.loop-reason.invariant in
          (w.total-is ∙ old.0 ∙ sym (ap length same), omega (arith, old.1, w.total-is))
    ]

pub returns : goal.returns
returns c =
    let why = c.args.why in
    let reasons = c.reasons_of.result in
    let all : c.loop-reason.reason-index ≡ length reasons = omega (arith, long (goal.at.returns c).After-reasons_of, c.loop-reason-test.false) in
    let whole = all-told why.phase reasons c.loop-reason.reason-index all ∙ line-told why reasons c.reasons_of.ensures in
    (c.loop-reason.invariant.0 ∙ ap length whole, omega (arith, c.loop-reason.invariant.1))
