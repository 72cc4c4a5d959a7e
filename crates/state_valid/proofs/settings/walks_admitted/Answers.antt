use Rattle.std.proofs.Common.{◌≡◌, ◌+◌, ℕ, refl, true, false, rules, tests}
use Rattle.std.proofs.lemmas.Iterator.{cases_from_all, YieldsList-from_range}
use Rattle.rules.specs.Limits.{limits}
use Rattle.rules.specs.Personality.{movement_count, edition_of}
use Rattle.rules.specs.SiteTimes.{record_limits, walk_within}
use Rattle.state_times.specs.TimeRows.{walks_at, walk_in}
use Rattle.laws.proofs.Ranges.{all_of_range}
use Rattle.state_valid.proofs.settings.walks_admitted.Goals as goal

pub returns : goal.returns
returns c =
    let a = c.args in
    let passes = λ (k : ℕ). walk_within (record_limits (limits (edition_of a.own.now)) (movement_count a.own.now) k) (walk_in a.bytes.now (a.at + walks_at) k) in
    all_of_range passes 8 _
    (cases_from_all _ _ _ (λ k. passes k ≡ true) (λ k. passes k ≡ false) c.all.ensures.ran
    (YieldsList-from_range 0 8 8 refl refl)
    (λ x q k. search (rules, tests))
    (λ x q k. search (rules, tests)))
