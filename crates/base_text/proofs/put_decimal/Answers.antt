use Rattle.std.proofs.Common.{◌+◌, ◌/◌, ◌%◌, ◌≡◌, arith, rules, length, sym, ap, ◌∙◌, ℕ}
use Rattle.std.proofs.lemmas.List.Edits.{sets}
use Rattle.std.proofs.Math.ListN.{set}
use Rattle.laws.specs.Decimal.{decimal}
use Rattle.laws.proofs.Decimals.{one-digit, one_digit_more, length-one, length_more, some-digit}
use Rattle.base_text.proofs.Puts.{sets_last}
use Rattle.base_text.proofs.put_decimal.Goals as goal

pub overflow_sub-i : goal.overflow_sub-i
overflow_sub-i g c = omega (arith, some-digit (g.D.Decimal.number c.args.n))

pub loop-front-init : goal.loop-front-init
loop-front-init g c =
    let some = some-digit (g.D.Decimal.number c.args.n) in
    search rules

pub overflow_sub-i-in-Some : goal.overflow_sub-i-in-Some
overflow_sub-i-in-Some g c =
    let rest = g.D.Decimal.number c.loop-front.rest in
    omega (arith, length_more rest c.in-Some.ensures.cut.0, some-digit (rest / 10))

pub loop-front-preserved : goal.loop-front-preserved
loop-front-preserved g c =
    let at = c.loop-front in
    let rest = g.D.Decimal.number at.rest in
    let front = decimal (rest / 10) in
    let many = c.in-Some.ensures.cut.0 in
    let more = length_more rest many in
    let some = some-digit (rest / 10) in
    let place : at.i ≡ c.args.at + length front = omega arith in
    rw (c.in-Some.ensures.cut.1, c.last.ensures) (record {
      place = omega arith;
      inside = omega arith;
      stored =
          ap (λ (i : ℕ). sets (set at.out i (48 + rest % 10)) c.args.at front) place
          ∙ sets_last front at.out c.args.at (48 + rest % 10)
          ∙ ap (sets at.out c.args.at) (sym (one_digit_more rest many))
          ∙ at.invariant.stored;
    })

pub returns : goal.returns
returns g c =
    let at = c.loop-front in
    let rest = g.D.Decimal.number at.rest in
    let few = c.in_default.ensures.cut in
    let one = length-one rest few in
    let place : at.i ≡ c.args.at = omega arith in
    let last : c.last-2.result ≡ rest = omega (arith, c.last-2.ensures, few) in
    rw (last, place) (record {
      place = omega arith;
      bytes = ap (sets at.out c.args.at) (sym (one-digit rest few)) ∙ at.invariant.stored;
    })
