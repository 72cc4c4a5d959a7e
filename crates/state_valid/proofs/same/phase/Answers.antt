-- Equal numbers have equal pairs of bytes.
use Rattle.std.proofs.Common.{sym, ◌∙◌, arith}
use lib.Dec.{eqb}
use borrow.Author.Tests.{eqb-true}
use Rattle.laws.specs.Bytes.{byte_at}
use Rattle.laws.proofs.Booleans.{and_left, and_right}
use Rattle.state_valid.proofs.Words.{phase-same}
use Rattle.state_valid.proofs.same.phase.Goals as goal

pub returns : goal.returns
unfolding byte_at
returns c = λ t.
    phase-same (record { each = λ i. omega (arith, c.type_inv.s i) }) (record { each = λ i. omega (arith, c.type_inv.t i) })
    c.args.i c.args.j
    (sym c.eight_in.ensures ∙ eqb-true _ _ (and_left _ _ t) ∙ c.eight_in-2.ensures)
    (sym c.four_in.ensures ∙ eqb-true _ _ (and_right (eqb c.eight_in.result c.eight_in-2.result) _ t) ∙ c.four_in-2.ensures)
