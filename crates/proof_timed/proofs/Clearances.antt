-- Part b with changes of times: a group that was green is cleared by the times in force when its green ended, be it a vehicle or a pedestrian group.
use Prim.Native.Nat.{ℕ}
use mathlib.Core.Bool.{Bool, true, false}
use mathlib.Core.List.{List, ◌∷◌, ◌++◌, append_assoc}
use mathlib.Core.Path.{◌≡◌, refl, sym, subst, ◌∙◌}
use Rattle.rules.specs.declared.site.Site.{Site}
use Rattle.rules.specs.declared.site.Times.{Times}
use Rattle.rules.specs.declared.state.State.{State}
use Rattle.rules.specs.Site.{is_pedestrian, conflict}
use Rattle.rules.specs.Colours.{green}
use Rattle.rules.specs.SiteTimes.{under}
use Rattle.rules.specs.Runs.{Step, site_after}
use Rattle.rules.specs.DemandThree.{shows, StartsGreen, VehicleCleared, PedestrianCleared, Cleared, FullClearances}
use Rattle.rules.specs.Laws.{Sound}
use Rattle.rules.proofs.Settings.{phase-timed}
use Rattle.proof_timed.proofs.Induction.{TimedLink, TimedRun, past}
use Rattle.proof_timed.proofs.Countdowns.{Since}
use Rattle.proof_timed.proofs.VehicleClearances.{fades, vehicle-cleared}
use Rattle.proof_timed.proofs.PedestrianClearances.{walk-shown, pedestrian-cleared}

cleared :
    (site : Site) (g j : ℕ) (apart : conflict site g j ≡ true) (start : Step) (later : List Step) (green_g : shows start g ≡ green)
    (s : State) (ruling : Times) (last : Step) (steps : List Step) →
    TimedLink site s ruling last →
    shows last j ≡ green →
    Since site j start later last.after last.ruling steps →
    Cleared (under site last.ruling) j last steps
unfolding Cleared VehicleCleared PedestrianCleared
cleared site g j apart start later green_g s ruling last steps link e since = by_kind (is_pedestrian site.groups j) refl
  where
    sound : Sound (under site last.ruling)
    sound = link.plain.sound

    by_kind : (test : Bool) → is_pedestrian site.groups j ≡ test → Cleared (under site last.ruling) j last steps
    by_kind true kind =
        rw kind
        (pedestrian-cleared site g j apart start later green_g last.ruling sound kind last.after last.ruling steps refl
        (sym (walk-shown site g j apart start later green_g last.ruling sound kind s ruling last link) ∙ e)
        since)
    by_kind false kind =
        let p = last.after.position.phase in
        let times = phase-timed (under site last.ruling) sound p link.plain.there.phase in
        rw kind
        (vehicle-cleared site g j apart start later green_g last.ruling sound kind p times last.after last.ruling steps refl refl
        ((fades site g j apart start later green_g last.ruling sound kind p times s ruling last link).was-green e)
        since)

pub timed-clearances :
    (site : Site) (s : State) (ruling : Times) (steps : List Step) → TimedRun site s ruling steps → FullClearances (site_after site) site steps
unfolding FullClearances StartsGreen
timed-clearances site s ruling steps run earlier since later last start split g j apart starts green_j never =
    let rest = since ++ start ∷ later in
    let whole =
    subst (λ (l : List Step). TimedRun site s ruling l) (split ∙ append_assoc earlier (last ∷ since) (start ∷ later)) run in
    let cut = past site earlier (last ∷ rest) s ruling whole in
    cleared site g j apart start later starts.0 cut.0 cut.1 last since cut.2.0 green_j (record { run = cut.2.1; never = never })
