-- Lamps are served. After every step the greens of the state are shown, so a green that lasts is shown as long, and a demand that demand 3 meets in
-- time is met by light in time.
use Prim.Native.Nat.{ℕ, ◌<◌}
use native.Mathlib.Numerals.{add-one}
use native.Mathlib.Omega.{arith}
use mathlib.Core.Bool.{Bool, true}
use mathlib.Core.List.{List, [], ◌∷◌, ◌++◌}
use mathlib.Core.Path.{◌≡◌, subst}
use Rattle.rules.specs.declared.site.Site.{Site}
use Rattle.rules.specs.declared.site.Times.{Times}
use Rattle.rules.specs.declared.state.State.{State}
use Rattle.rules.specs.Site.{site_of, phase_times, walk_times}
use Rattle.rules.specs.SiteTimes.{under}
use Rattle.rules.specs.Timed.{fresh_timed}
use Rattle.rules.specs.Laws.{Sound, AcceptedIsSound}
use Rattle.rules.specs.Runs.{Step, by_rules, taken_from, accepted_steps}
use Rattle.rules.specs.DemandThree.{shows, in_minimum_green, in_running, in_walk, minimum_green_begins, walk_begins, MetInTime, DemandsMet, RunsMeetDemands}
use Rattle.rules.specs.Lamps.{is_vehicle_group, is_movement_group, shows_green, GreensShown, stays_in_minimum, then_runs, stays_green, stays_in_walk, walk_stays_green, MinimumLasts, WalkLasts, GreensLast, minimum_lit, walk_lit, MetByLight, LampsServedOf, RunsServeLamps}
use Rattle.laws.proofs.Booleans.{and_left, or_left, or_right}
use Rattle.proof_acceptance.proofs.Acceptance.{accepted-is-sound}
use Rattle.proof_runs.proofs.Each.{Each, each_at}
use Rattle.proof_timed.proofs.Induction.{viewed, plain_from, TimedLink, TimedRun}
use Rattle.proof_timed.proofs.Runs.{timed-run}
use Rattle.proof_guarantees.proofs.DemandThree.{runs-meet-demands}
use Rattle.proof_lamps_step.proofs.Shown.{ShownAfter, movement-group, shown-after}
use Rattle.proof_lamps.proofs.Groups.{movements-have-groups}
use Rattle.proof_lamps.proofs.Minimum.{minimum-lasts}
use Rattle.proof_lamps.proofs.Walks.{walk-lasts}
use Rattle.proof_lamps.proofs.Lights.{Lights, lit-throughout, lit-through-both, unseen}

-- after each of the steps the greens of the state are shown
abbrev Shown : Site → List Step → Type 0
Shown site = Each (λ (step : Step) later. ShownAfter site step)

-- ── Shown ──

shown_of : (site : Site) (s : State) (ruling : Times) (step : Step) → TimedLink site s ruling step → ShownAfter site step
unfolding is_vehicle_group is_movement_group shows_green shows
shown_of site s ruling step link =
    let from = plain_from step.changed s in
    let plain = shown-after (under site step.ruling) from (viewed from step) link.plain in
    record { vehicle = plain.vehicle; walk = plain.walk }

all_shown : (site : Site) (steps : List Step) (s : State) (ruling : Times) → TimedRun site s ruling steps → Shown site steps
all_shown site [] s ruling run = tt
all_shown site (step ∷ later) s ruling run = (shown_of site s ruling step run.0, all_shown site later step.after step.ruling run.1)

greens-shown : (site : Site) (steps : List Step) → Shown site steps → GreensShown site steps
unfolding GreensShown
greens-shown site steps shown earlier later step split g =
    let here = each_at (λ (step : Step) later. ShownAfter site step) steps earlier later step split shown in
    (λ p. here.vehicle p g, λ k. here.walk k g)

-- a light that shows if a test passes
lights :
    (site : Site) (test light : Step → Bool) →
    ((step : Step) → ShownAfter site step → test step ≡ true → light step ≡ true) →
    (steps : List Step) →
    Shown site steps →
    Lights test light steps
lights site test light shows [] shown = tt
lights site test light shows (step ∷ later) shown = (shows step shown.0, lights site test light shows later shown.1)

module _ (site : Site) (g : ℕ) where
  -- the group of phase p shows green in minimum green and in running
  module _ (p : ℕ) (vehicle : is_vehicle_group site p g ≡ true) where
    in-minimum : (steps : List Step) → Shown site steps → Lights (λ step. in_minimum_green step.after p) (shows_green g) steps
    in-minimum =
        lights site (λ step. in_minimum_green step.after p) (shows_green g)
        (λ step shown h. shown.vehicle p g vehicle (or_left (in_running step.after p) h))

    in-running : (steps : List Step) → Shown site steps → Lights (λ step. in_running step.after p) (shows_green g) steps
    in-running =
        lights site (λ step. in_running step.after p) (shows_green g)
        (λ step shown h. shown.vehicle p g vehicle (or_right (in_minimum_green step.after p) h))

    when-begun : (steps : List Step) → Shown site steps → Lights (minimum_green_begins p) (shows_green g) steps
    unfolding minimum_green_begins
    when-begun =
        lights site (minimum_green_begins p) (shows_green g)
        (λ step shown h.
        shown.vehicle p g vehicle (or_left (in_running step.after p) (and_left (in_minimum_green step.after p) _ h)))

  -- the group of movement k shows green in walk
  module _ (k : ℕ) (own : is_movement_group site k g ≡ true) where
    in-walk : (steps : List Step) → Shown site steps → Lights (λ step. in_walk step.after k) (shows_green g) steps
    in-walk = lights site (λ step. in_walk step.after k) (shows_green g) (λ step shown h. shown.walk k g own h)

    when-walk-begun : (steps : List Step) → Shown site steps → Lights (walk_begins k) (shows_green g) steps
    unfolding walk_begins
    when-walk-begun =
        lights site (walk_begins k) (shows_green g) (λ step shown h. shown.walk k g own (and_left (in_walk step.after k) _ h))

    exists : Sound site → k < site.size.movements
    exists sound =
        let group = movement-group site k g own in
        rw group.2 at (sound.movement_of_group g group.0 group.1)

-- ── Lasting ──

module _
    (site : Site) (s : State) (ruling : Times) (step : Step) (later : List Step)
    (run : TimedRun site s ruling (step ∷ later)) (shown : Shown site (step ∷ later)) where
  minimum-from : (p : ℕ) → minimum_green_begins p step ≡ true → MinimumLasts site p step later
  unfolding stays_in_minimum then_runs stays_green
  minimum-from p h =
      let lasts = minimum-lasts site p s ruling step later run h in
      record {
        minimum = lasts.0;
        running = lasts.1;
        shown = λ g vehicle.
            rw add-one
            (lit-through-both (λ step. in_minimum_green step.after p) (λ step. in_running step.after p) (shows_green g)
            (phase_times step.ruling p).minimum
            (step ∷ later)
            (in-minimum site g p vehicle (step ∷ later) shown)
            (in-running site g p vehicle (step ∷ later) shown)
            lasts.0
            lasts.1);
      }

  walk_from : (k : ℕ) → k < 8 → walk_begins k step ≡ true → WalkLasts site k step later
  unfolding stays_in_walk walk_stays_green
  walk_from k room h =
      let walks = walk-lasts site k room s ruling step later run h in
      record {
        walk = walks;
        shown = λ g own.
            lit-throughout (λ step. in_walk step.after k) (shows_green g) (walk_times step.ruling k).walk (step ∷ later)
            (in-walk site g k own (step ∷ later) shown)
            walks;
      }

-- the claim at one step, for the steps after it
abbrev LastsFrom : Site → Step → List Step → Type 0
LastsFrom site step later =
    ((p : ℕ) → minimum_green_begins p step ≡ true → MinimumLasts site p step later)
    × ((k : ℕ) → k < site.size.movements → walk_begins k step ≡ true → WalkLasts site k step later)

lasts-each :
    (site : Site) →
    Sound site →
    (steps : List Step) (s : State) (ruling : Times) →
    TimedRun site s ruling steps →
    Shown site steps →
    Each (LastsFrom site) steps
lasts-each site sound [] s ruling run shown = tt
lasts-each site sound (step ∷ later) s ruling run shown = (
  (minimum-from site s ruling step later run shown, λ k below. walk_from site s ruling step later run shown k (omega (arith, sound.movements))),
  lasts-each site sound later step.after step.ruling run.1 shown.1,
)

greens-last :
    (site : Site) →
    Sound site →
    (steps : List Step) (s : State) (ruling : Times) →
    TimedRun site s ruling steps →
    Shown site steps →
    GreensLast site steps
unfolding GreensLast
greens-last site sound steps s ruling run shown earlier later step split =
    each_at (LastsFrom site) steps earlier later step split (lasts-each site sound steps s ruling run shown)

-- ── Met by light ──

-- from the later steps of a list on
past : (site : Site) (earlier later : List Step) → Shown site (earlier ++ later) → Shown site later
past site [] later shown = shown
past site (step ∷ earlier) later shown = past site earlier later shown.1

met-by-light : (site : Site) → Sound site → (steps : List Step) → Shown site steps → DemandsMet site steps → MetByLight site steps
unfolding MetByLight DemandsMet MetInTime minimum_lit walk_lit
met-by-light site sound steps shown met earlier between later step split g =
    let rest = past site earlier (step ∷ (between ++ later)) (subst (Shown site) split shown) in
    let by = met earlier between later step split in (
      λ p vehicle registers none.
          by.0 p registers
          (unseen (minimum_green_begins p) (shows_green g) (step ∷ between) later (when-begun site g p vehicle (step ∷ (between ++ later)) rest) none),
      λ k own registers none.
          by.1 k (exists site g k own sound) registers
          (unseen (walk_begins k) (shows_green g) (step ∷ between) later (when-walk-begun site g k own (step ∷ (between ++ later)) rest) none),
    )

-- ── The promise ──

pub runs-serve-lamps : RunsServeLamps
unfolding RunsServeLamps LampsServedOf RunsMeetDemands by_rules AcceptedIsSound
runs-serve-lamps b known calls =
    let site = site_of b in
    let s = fresh_timed site in
    let steps = accepted_steps (taken_from by_rules b s calls) in
    let sound = accepted-is-sound b known in
    let run = timed-run b sound calls s in
    let shown = all_shown site steps s.core s.ruling run in
    record {
      movements = movements-have-groups b;
      shown = greens-shown site steps shown;
      lasting = greens-last site sound steps s.core s.ruling run shown;
      met = met-by-light site sound steps shown (runs-meet-demands b known calls);
    }
