use Rattle.std.proofs.Common.{length, sym, ◌∙◌}
use borrow.Author.Tests.{ne_eqb}
use Rattle.laws.specs.Bytes.{byte_at}
use Rattle.state_timed.specs.TimedLayout.{timed_bytes, is_timed}
use Rattle.state_timed.proofs.TimedLaws.{timed-tested}
use Rattle.state_timed.proofs.is_timed.Goals as goal

pub returns-then-bytes-ne-TIMED_BYTES : goal.returns-then-bytes-ne-TIMED_BYTES
unfolding is_timed
returns-then-bytes-ne-TIMED_BYTES c = rw (ne_eqb (length c.args.bytes.now) timed_bytes c.if-bytes-ne-TIMED_BYTES.true)

pub returns-then-known : goal.returns-then-known
unfolding byte_at
returns-then-known c = rw (sym c.known.ensures ∙ c.if-known.true) at (timed-tested c.args.bytes.now c.if-bytes-ne-TIMED_BYTES.false)

pub returns-else-known : goal.returns-else-known
unfolding byte_at
returns-else-known c = c.if-known.false ∙ (rw (sym c.known.ensures ∙ c.if-known.false) at (timed-tested c.args.bytes.now c.if-bytes-ne-TIMED_BYTES.false))
