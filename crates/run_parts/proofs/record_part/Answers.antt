-- By the number of bytes.
use borrow.Author.Tests.{lt-ltb, le-ltb, eqb-true}
use mathlib.Core.Bool.{true, false}
use mathlib.Core.Path.{◌≡◌, refl, sym, ◌∙◌}
use native.Mathlib.Omega.{arith}
use lib.Dec.{eqb}
use lib.ListN.{length}
use Rattle.rules.specs.Trace.{record_part}
use Rattle.run_parts.specs.Parts.{part_of, state_of}
use Rattle.run_parts.proofs.Parts.{nothing}
use Rattle.run_parts.proofs.record_part.Goals as goal

pub returns-then-is_empty : goal.returns-then-is_empty
unfolding part_of record_part state_of
returns-then-is_empty c =
    let a = c.args in
    let size = length a.bytes.now in
    let none : eqb (length a.bytes.now) 0 ≡ true = sym c.is_empty.ensures ∙ c.if-is_empty.true in
    rw (none, lt-ltb size 8 (omega (arith, eqb-true size 0 none))) (nothing a.out.now false, refl)

pub returns-then-bytes-lt8 : goal.returns-then-bytes-lt8
unfolding part_of record_part state_of
returns-then-bytes-lt8 c =
    let size = length c.args.bytes.now in
    let some : eqb (length c.args.bytes.now) 0 ≡ false = sym c.is_empty.ensures ∙ c.if-is_empty.false in
    rw (some, lt-ltb size 8 c.if-bytes-lt8.true) (c.refuse_cut.ensures, refl)

pub returns : goal.returns
unfolding part_of record_part state_of
returns c =
    let size = length c.args.bytes.now in
    let some : eqb (length c.args.bytes.now) 0 ≡ false = sym c.is_empty.ensures ∙ c.if-is_empty.false in
    rw (some, le-ltb size 8 c.if-bytes-lt8.false, ← c.eight_at-inputs.ensures) c.call_part.ensures
