-- Each stream is asked.
use Rattle.std.proofs.Common.{◌≡◌, ℕ, ◌/◌, length, refl, true, false, arith, rules, tests}
use Rattle.std.proofs.lemmas.Iterator.{cases_from_any, YieldsList-from_range}
use Rattle.road_streams.specs.Road.{bad_stream, stream_at, stream_count}
use Rattle.laws.proofs.Ranges.{any_of_range}
use Rattle.road_streams.proofs.some_bad.Goals as goal

pub returns : goal.returns
unfolding stream_count
returns c =
    let n = length c.args.streams.now / 4 in
    let bad = λ (i : ℕ). bad_stream c.args.site.now (stream_at c.args.streams.now i) in
    any_of_range bad n _
    (cases_from_any _ _ _ (λ i. bad i ≡ true) (λ i. bad i ≡ false) c.any.ensures.ran
    (YieldsList-from_range 0 n n refl (omega arith))
    (λ x q k. search (rules, tests))
    (λ x q k. search (rules, tests)))
