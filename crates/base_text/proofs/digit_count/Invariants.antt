use Rattle.std.proofs.Common.{◌+◌, ◌≤◌, ◌≡◌, length, max}
use Rattle.laws.specs.Decimal.{decimal}
use Rattle.base_text.proofs.digit_count.Given as goal

-- the digits counted and those of the rest are one more than the number has
abbrev pub invariant-loop-front : goal.invariant-loop-front
invariant-loop-front g l =
    let number = g.D.Decimal.number in
    record {
      digits : l.count + length (decimal (number l.rest)) ≡ 1 + length (decimal (number l.fn.n));
      few : length (decimal (number l.fn.n)) ≤ max g.D.Decimal.most (length (decimal (number l.rest)));
    }

abbrev pub decreases-loop-front : goal.decreases-loop-front
decreases-loop-front g l = g.D.Decimal.number l.rest
