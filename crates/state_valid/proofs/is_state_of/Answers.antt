-- Bytes that are no state, times that the site may not have, or what the check of the rest says.
use Rattle.std.proofs.Common.{sym, ◌∙◌, arith}
use Rattle.state_timed.proofs.TimedLaws.{timed-known}
use Rattle.state_valid.proofs.StateTimes.{no-state, times-fail, rest-decides, ruling-admitted}
use Rattle.state_valid.proofs.is_state_of.Goals as goal
use Rattle.state_valid.proofs.is_state_of.Goals.{then-not-is_timed-via-then-not-is_timed, then-not-is_timed-via-else-not-is_timed+then-not-times_valid}

pub returns-then-not-is_timed : goal.returns-then-not-is_timed
returns-then-not-is_timed c =
    let b = c.args.personality.now in
    let bytes = c.args.bytes.now in
    elim c.then-not-is_timed.branch [
      | then-not-is_timed-via-then-not-is_timed w ↦ no-state b bytes (sym c.is_timed.ensures ∙ w.if-not-is_timed.true)
      | then-not-is_timed-via-else-not-is_timed+then-not-times_valid w ↦
          times-fail b bytes (sym c.is_timed.ensures ∙ w.if-not-is_timed.false) (sym w.times_valid.ensures ∙ w.if-not-times_valid.true)
    ]

pub site_under-site-requires : goal.site_under-site-requires
site_under-site-requires c =
    let told = timed-known _ (sym c.is_timed.ensures ∙ c.if-not-is_timed.false) in
    (omega (arith, told.size), ruling-admitted _ _ (sym c.times_valid.ensures ∙ c.if-not-times_valid.false))

pub read-requires : goal.read-requires
read-requires c =
    let told = timed-known _ (sym c.is_timed.ensures ∙ c.if-not-is_timed.false) in
    (omega (arith, told.size), told.kept-known)

pub returns : goal.returns
returns c =
    rest-decides c.args.personality.now c.args.bytes.now (sym c.is_timed.ensures ∙ c.if-not-is_timed.false)
    (sym c.times_valid.ensures ∙ c.if-not-times_valid.false)
    (rw (c.site_under-site.ensures, c.read.ensures) at c.kept_valid.ensures)
