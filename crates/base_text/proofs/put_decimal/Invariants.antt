use Rattle.std.proofs.Common.{◌+◌, ◌<◌, ◌≡◌, length}
use Rattle.std.proofs.lemmas.List.Edits.{sets}
use Rattle.laws.specs.Decimal.{decimal}
use Rattle.base_text.proofs.put_decimal.Given as goal

-- with the digits of the rest put before those that are stored, the buffer is the one promised
abbrev pub invariant-loop-front : goal.invariant-loop-front
invariant-loop-front g l =
    let number = g.D.Decimal.number in
    record {
      place : l.i + 1 ≡ l.at + length (decimal (number l.rest));
      inside : l.i < l.end;
      stored : sets l.out l.at (decimal (number l.rest)) ≡ sets l.fn.out l.at (decimal (number l.fn.n));
    }

abbrev pub decreases-loop-front : goal.decreases-loop-front
decreases-loop-front g l = g.D.Decimal.number l.rest
