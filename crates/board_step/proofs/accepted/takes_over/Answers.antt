-- By the flag.
use Rattle.std.proofs.Common.{◌≡◌, true, arith}
use Rattle.laws.specs.Bytes.{byte_at}
use Rattle.state_timed.specs.TimedLayout.{timed_decoded}
use Rattle.state_timed.proofs.TimedLaws.{timed-known}
use Rattle.board_step.proofs.Steps.{kept-valid, none-waits, by-start}
use Rattle.board_step.proofs.accepted.takes_over.Goals as goal

pub bounds-state-187 : goal.bounds-state-187
bounds-state-187 c = omega (arith, (timed-known c.args.state.now c.requires.known).size)

pub starts_next-requires : goal.starts_next-requires
starts_next-requires c =
    let a = c.args in
    kept-valid a.site.now a.before a.state.now c.requires

pub returns-then-state-ne0 : goal.returns-then-state-ne0
unfolding timed_decoded byte_at
returns-then-state-ne0 c =
    let a = c.args in
    let one : byte_at a.state.now 187 ≡ 1 = omega (arith, c.if-state-ne0.true, (timed-known a.state.now c.requires.known).code) in
    let present : (timed_decoded a.state.now).waiting.present ≡ true = rw one in
    by-start a.site.now a.before a.state.now c.requires present c.starts_next.ensures

pub returns-else-state-ne0 : goal.returns-else-state-ne0
unfolding byte_at
returns-else-state-ne0 c =
    let a = c.args in
    let zero : byte_at a.state.now 187 ≡ 0 = omega (arith, c.if-state-ne0.false) in
    rw zero (none-waits a.site.now a.before a.state.now c.requires zero)
