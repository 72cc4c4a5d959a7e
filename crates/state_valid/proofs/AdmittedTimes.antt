-- Times that a site may have are the times of the site in their bytes: the settings that the site does not have are 0.
use Prim.Native.Nat.{ℕ, ◌+◌, ◌*◌, ◌≤◌, ◌<◌}
use mathlib.Core.Bool.{Bool, true, false}
use mathlib.Core.List.{List}
use mathlib.Core.Path.{◌≡◌, refl, sym, ap, ◌∙◌}
use native.Mathlib.Omega.{arith}
use Rattle.rules.specs.declared.site.PhaseTimes.{PhaseTimes}
use Rattle.rules.specs.declared.site.Site.{Site}
use Rattle.laws.specs.Bytes.{two_at}
use Rattle.std.specs.Prelude.{if◌then◌else◌}
use Rattle.laws.specs.Folds.{row_of}
use Rattle.rules.specs.Site.{no_phase_times, no_walk_times, phase_times, walk_times}
use Rattle.rules.specs.SiteTimes.{admitted}
use Rattle.laws.proofs.Lists.{list_length, row_told}
use Rattle.proof_change.proofs.Admitted.{Admitted, admitted-told}
use Rattle.state_times.specs.TimesLayout.{six, phase_of, times}
use Rattle.state_times.specs.TimeRows.{phases_at, walks_at, earlies_at, phase_in, walk_in, site_times}
use Rattle.state_times.proofs.TimesRead.{phase-read, walk-read}

module _
    (site : Site)
    (b : List ℕ)
    (at : ℕ)
    (seven : site.size.phases ≤ 7)
    (eight : site.size.movements ≤ 8)
    (ok : admitted site (times.read b at) ≡ true)
  where
    fine : Admitted site (times.read b at)
    fine = admitted-told site (times.read b at) seven eight ok

    -- without kind 7 the time in the bytes is 0
    early-same : (early : Bool) (x : ℕ) → (early ≡ false → x ≡ 0) → (if early then x else 0) ≡ x
    early-same true x zero = refl
    early-same false x zero = sym (zero refl)

    phase-same : (p : ℕ) → p < site.size.phases → phase_in b (at + phases_at) (at + earlies_at) site.early p ≡ phase_times (times.read b at) p
    phase-same p l =
        let read = phase-read b at p (omega arith) in
        ap (phase_of (six.read b (at + phases_at + p * 12)))
        (early-same site.early (two_at b (at + earlies_at + p * 2)) (λ none. sym (ap (λ (t : PhaseTimes). t.early) read) ∙ fine.no_early p l none))
        ∙ sym read

    pub site-times : site_times site.size.phases site.size.movements site.early b at ≡ times.read b at
    unfolding phase_times walk_times
    site-times = rw (phases-same, walks_same)
      where
        phases-same :
            row_of (phase_in b (at + phases_at) (at + earlies_at) site.early) site.size.phases 7 no_phase_times ≡ (times.read b at).phases
        phases-same =
            row_told (phase_in b (at + phases_at) (at + earlies_at) site.early) (times.read b at).phases site.size.phases 7 no_phase_times seven
            (list_length _ 7) phase-same fine.no_phase

        walks_same : row_of (walk_in b (at + walks_at)) site.size.movements 8 no_walk_times ≡ (times.read b at).walks
        walks_same =
            row_told (walk_in b (at + walks_at)) (times.read b at).walks site.size.movements 8 no_walk_times eight
            (list_length _ 8) (λ k l. sym (walk-read b at k (omega arith))) fine.no_walk
