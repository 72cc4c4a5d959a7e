use Rattle.std.proofs.Common.{◌≡◌, ◌+◌, ℕ, refl, true, false, rules, tests}
use Rattle.std.proofs.lemmas.Iterator.{cases_from_all, YieldsList-from_range}
use Rattle.rules.specs.Limits.{limits}
use Rattle.rules.specs.Personality.{phase_count, has_early, edition_of}
use Rattle.rules.specs.SiteTimes.{record_limits, phase_within}
use Rattle.state_times.specs.TimeRows.{phases_at, earlies_at, phase_in}
use Rattle.laws.proofs.Ranges.{all_of_range}
use Rattle.state_valid.proofs.settings.phases_admitted.Goals as goal

pub returns : goal.returns
returns c =
    let a = c.args in
    let b = a.own.now in
    let passes = λ (p : ℕ).
    phase_within (record_limits (limits (edition_of b)) (phase_count b) p) (has_early b) (phase_in a.bytes.now (a.at + phases_at) (a.at + earlies_at) true p) in
    all_of_range passes 7 _
    (cases_from_all _ _ _ (λ p. passes p ≡ true) (λ p. passes p ≡ false) c.all.ensures.ran
    (YieldsList-from_range 0 7 7 refl refl)
    (λ x q k. search (rules, tests))
    (λ x q k. search (rules, tests)))
