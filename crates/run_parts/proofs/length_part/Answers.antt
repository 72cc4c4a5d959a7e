use borrow.Author.Tests.{lt-ltb, le-ltb}
use mathlib.Core.Bool.{true}
use lib.ListN.{length}
use Rattle.rules.specs.Trace.{length_part}
use Rattle.run_parts.proofs.Parts.{nothing}
use Rattle.run_parts.proofs.length_part.Goals as goal

pub returns-then-bytes-lt2 : goal.returns-then-bytes-lt2
unfolding length_part
returns-then-bytes-lt2 c = rw (lt-ltb (length c.args.bytes.now) 2 c.if-bytes-lt2.true) c.refuse_cut.ensures

pub returns : goal.returns
unfolding length_part
returns c =
    let a = c.args in
    rw (le-ltb (length a.bytes.now) 2 c.if-bytes-lt2.false) (nothing a.out.now true)
