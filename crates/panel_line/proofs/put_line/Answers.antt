use Rattle.std.proofs.Common.{◌+◌, ◌<◌, ◌≡◌, ◌∙◌, length, length-append, sym, ap, arith, rules}
use Rattle.panel_text.specs.Text.{line, reason_text}
use Rattle.base_text.proofs.Puts.{put_as, put_then, put-length, put_front}
use Rattle.panel_line.proofs.Told.{first_told, first-within, next-none, next-some, all-told, line-told, start-within}
use Rattle.panel_line.proofs.put_line.Goals as goal
use Rattle.panel_line.proofs.put_line.Goals.{After-reasons_of, in-Some, in_default}

pub put_phase-next-requires : goal.put_phase-next-requires
put_phase-next-requires c = (c.requires.0, omega (arith, start-within c.args.why, c.requires.1))

-- the array of the reasons
long : (c : After-reasons_of) → length c.reasons_of.result ≡ 11
long c = search rules

-- the line up to the next reason is no longer than the whole one
pub put_reason-next-requires : goal.put_reason-next-requires
put_reason-next-requires c =
    let why = c.args.why in
    let reasons = c.reasons_of.result in
    let i = c.loop-reason.reason-index in
    let inside : i < length reasons = omega (arith, long (goal.at.put_reason-next-requires c).After-reasons_of, c.loop-reason-test.true) in
    let more = next-some why.phase reasons i inside c.in-Some.reason c.in-Some.is in
    omega (
      arith,
      ap length more ∙ length-append (line why.phase (first_told reasons i)) (reason_text c.in-Some.reason),
      first-within why.phase reasons (i + 1),
      ap length (line-told why reasons c.reasons_of.ensures),
      c.loop-reason.invariant.place,
      put-length c.loop-reason.invariant,
      c.requires.1,
    )

pub loop-reason-preserved : goal.loop-reason-preserved
loop-reason-preserved c =
    let phase = c.args.why.phase in
    let reasons = c.reasons_of.result in
    let i = c.loop-reason.reason-index in
    let inside : i < length reasons = omega (arith, long (goal.at.loop-reason-preserved c).After-reasons_of, c.loop-reason-test.true) in
    elim c.match-reason.branch [
      | in-Some w ↦
          rw (w.out-is, w.next-is)
          (put_as (next-some phase reasons i inside w.in-Some.reason w.in-Some.is)
          (put_then c.loop-reason.invariant w.put_reason-next.ensures))
      | in_default w ↦ rw (w.out-is, w.next-is) (put_as (next-none phase reasons i inside w.in_default.is) c.loop-reason.invariant)
    ]

pub returns : goal.returns
returns c =
    let why = c.args.why in
    let reasons = c.reasons_of.result in
    let all : c.loop-reason.reason-index ≡ length reasons = omega (arith, long (goal.at.returns c).After-reasons_of, c.loop-reason-test.false) in
    let whole = all-told why.phase reasons c.loop-reason.reason-index all ∙ line-told why reasons c.reasons_of.ensures in
    put_front (put_as (sym whole) c.loop-reason.invariant) c.requires.1
