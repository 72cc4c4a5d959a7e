-- By the length of the buffer.
use lib.ListN.{length}
use borrow.Author.Tests.{eq-eqb, ne_eqb}
use Rattle.state_timed.specs.TimedLayout.{timed_bytes, timed_encoded_over}
use Rattle.cabinet_held.proofs.placing.fresh_state.Goals as goal

pub returns-then-state-eq-TIMED_BYTES : goal.returns-then-state-eq-TIMED_BYTES
unfolding timed_encoded_over
returns-then-state-eq-TIMED_BYTES c = rw (eq-eqb (length c.args.state.now) timed_bytes c.if-state-eq-TIMED_BYTES.true) c.put_fresh.ensures

pub returns-else-state-eq-TIMED_BYTES : goal.returns-else-state-eq-TIMED_BYTES
unfolding timed_encoded_over
returns-else-state-eq-TIMED_BYTES c = rw (ne_eqb (length c.args.state.now) timed_bytes c.if-state-eq-TIMED_BYTES.false)
