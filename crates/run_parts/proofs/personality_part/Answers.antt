-- By the number of bytes and by the verdict on them.
use borrow.Author.Tests.{lt-ltb, le-ltb}
use mathlib.Core.Path.{refl, sym, ◌∙◌}
use lib.ListN.{length}
use Rattle.rules.specs.Trace.{verdict_part, personality_part}
use Rattle.run_parts.specs.Parts.{state_for}
use Rattle.run_parts.proofs.personality_part.Goals as goal

pub returns-then-bytes-size : goal.returns-then-bytes-size
unfolding personality_part state_for
returns-then-bytes-size c =
    let a = c.args in
    rw (lt-ltb (length a.bytes.now) a.size c.if-bytes-size.true) (c.refuse_cut.ensures, refl)

pub returns-in-Err : goal.returns-in-Err
unfolding personality_part verdict_part state_for
returns-in-Err c =
    let a = c.args in
    rw (le-ltb (length a.bytes.now) a.size c.if-bytes-size.false, sym c.read-verdict.ensures ∙ c.in-Err.is) (c.refuse.ensures, c.fresh.ensures.1)

pub returns : goal.returns
unfolding personality_part verdict_part state_for
returns c =
    let a = c.args in
    rw (le-ltb (length a.bytes.now) a.size c.if-bytes-size.false, sym c.read-verdict.ensures ∙ c.in_default.is)
    (record { text = c.put_header-length.ensures; more = refl }, c.fresh.ensures.1)
