-- Part b for a vehicle group, with changes of times. No times take over while it is green and about to stop, in its yellow or before the end of its
-- all-red; so it is cleared by the times in force when its green ended. After that only red is shown, whichever times rule.
use Rattle.std.specs.Prelude.{Option}
use Prim.Native.Nat.{ℕ, suc, ◌+◌, ◌≤◌, ◌<◌}
use native.Mathlib.Omega.{arith}
use mathlib.Core.Bool.{Bool, true, false, false≢true}
use mathlib.Core.List.{List, [], ◌∷◌, ◌++◌}
use mathlib.Core.Logic.{◌⊎◌, inl, inr, ⊎_elim}
use mathlib.Core.Path.{◌≡◌, refl, sym, ap, ap₂, ◌∙◌}
use lib.Dec.{leb}
use lib.ListN.{length, replicate}
use borrow.Author.Tests.{leb-true, lt-leb}
use Rattle.rules.specs.declared.site.Site.{Site}
use Rattle.rules.specs.declared.site.Times.{Times}
use Rattle.rules.specs.declared.state.Interval.{Interval}
use Rattle.rules.specs.declared.state.Interval.TheVariants.{StartRed, LateStart, MinimumGreen, Running, EarlyCutOff, Yellow, AllRed}
use Rattle.rules.specs.declared.state.Position.{Position}
use Rattle.rules.specs.declared.state.State.{State}
use Rattle.rules.specs.Site.{phase_times, group_of, in_phase, is_pedestrian, conflict}
use Rattle.rules.specs.IntervalTable.{is_before_start}
use Rattle.rules.specs.Interval.{ends, following}
use Rattle.rules.specs.Colours.{red, yellow, green, vehicle_colour}
use Rattle.rules.specs.SiteTimes.{under}
use Rattle.rules.specs.Timed.{starts_next}
use Rattle.rules.specs.Runs.{Step}
use Rattle.rules.specs.DemandThree.{shows, shown_by}
use Rattle.rules.specs.Laws.{Sound}
use Rattle.laws.proofs.Booleans.{and_left, never_both, decided}
use Rattle.rules.proofs.Settings.{Timed}
use Rattle.proof_runs.proofs.Chains.{ValidLink}
use Rattle.proof_clearance.proofs.Shown.{keeps, vehicle-shows, green-of-phase}
use Rattle.proof_clearance.proofs.VehicleColours.{Fades, closing_at, shown-fades, green-stays, target-green}
use Rattle.proof_clearance.proofs.Stopped.{Stopped, in-early, in-yellow, in-red, stopped-member, stopped-shows, all-red-closed}
use Rattle.proof_clearance.proofs.Vehicles.{stopped-on, YellowsLeft, in-green, stopped, yellows-member, yellows-fall, yellows-over, red-stays}
use Rattle.proof_change.proofs.Starts.{starts-before}
use Rattle.proof_timed.proofs.Induction.{viewed, plain_from, TimedLink}
use Rattle.proof_timed.proofs.Countdowns.{Since, since-next, only-red, barred, counts-down, plain-link, starts_by}

-- ── Where times take over ──

not-before : (site : Site) (s : State) (i : Interval) → starts_next site s ≡ true → s.position.interval ≡ i → is_before_start i ≡ false → ⊥
not-before site s i h e n = never_both (ap is_before_start (sym e) ∙ starts-before site s h) n

all-red-lasted : (site : Site) (s : State) → starts_next site s ≡ true → s.position.interval ≡ AllRed → (phase_times site.times s.position.phase).red ≤ s.position.age
unfolding starts_next ends
all-red-lasted site s h e =
    leb-true _ _ (and_left (leb (phase_times site.times s.position.phase).red s.position.age) _ (rw e at h))

-- a group of the phase that is green before a start is green after it
green-goes-on :
    (site : Site) (j : ℕ) (new : Times) (next : Option ℕ) (position : Position) (i : Interval) →
    is_before_start i ≡ true →
    in_phase site.groups j position.phase ≡ true →
    vehicle_colour i true position.previous position.target (group_of site.groups j) ≡ green →
    closing_at site j (following i new next position) ≡ green
unfolding following vehicle_colour
green-goes-on site j new next position StartRed h member e = absurd (omega arith)
green-goes-on site j new next position LateStart h member e = absurd (false≢true h)
green-goes-on site j new next position MinimumGreen h member e = absurd (false≢true h)
green-goes-on site j new next position Running h member e = absurd (false≢true h)
green-goes-on site j new next position EarlyCutOff h member e = absurd (false≢true h)
green-goes-on site j new next position Yellow h member e = absurd (false≢true h)
green-goes-on site j new next position AllRed h member e =
    target-green site j new position.phase position.target member
    (green-stays (keeps site j position.target) red (λ (z : red ≡ green). omega arith) e)

module _
    (site : Site) (g j : ℕ) (apart : conflict site g j ≡ true) (start : Step) (later : List Step) (green_g : shows start g ≡ green)
    (r0 : Times) (sound : Sound (under site r0)) (kind : is_pedestrian site.groups j ≡ false) (p : ℕ) (times : Timed (phase_times r0 p)) where
  abbrev old : Site
  old = under site r0

  within : j < site.size.groups
  unfolding conflict
  within = (sound.conflict_groups g j apart).1

  abbrev y : ℕ
  y = (phase_times r0 p).yellow

  abbrev Yellows : ℕ → Times → State → Type 0
  Yellows n ruling s = (ruling ≡ r0) × YellowsLeft old j p n s.position

  abbrev Red : Times → State → Type 0
  Red ruling s = closing_at site j s.position ≡ red

  module _ (s : State) (ruling : Times) (step : Step) (link : TimedLink site s ruling step) where
    abbrev from : State
    from = plain_from step.changed s

    pub fades : Fades (shows step j) (closing_at site j step.after.position)
    unfolding shows
    fades =
        rw (vehicle-shows (under site step.ruling) from (viewed from step) link.plain.taken j within kind)
        (shown-fades (under site step.ruling) j step.after.position)

    -- no times take over while the group is green and is not green after the step, or while yellow steps are left
    yellow-unchanged :
        (n : ℕ) →
        (shows step j ≡ green → ⊥) →
        ruling ≡ r0 →
        YellowsLeft old j p (suc n) s.position →
        step.changed ≡ true →
        ⊥
    yellow-unchanged n other q (in-green here e c) changed =
        let begun = link.begun changed in
        let member = green-of-phase (in_phase site.groups j s.position.phase) _ e in
        other
        (fades.green
        (ap (closing_at site j) begun.1
        ∙ green-goes-on site j step.ruling begun.0 s.position s.position.interval
        (starts-before old s (starts_by site r0 s ruling step link q changed))
        member
        (rw member at e)))
    yellow-unchanged n other q (stopped c (in-early mark row most) e) changed =
        not-before old s EarlyCutOff (starts_by site r0 s ruling step link q changed) row.interval refl
    yellow-unchanged n other q (stopped c (in-yellow row most) e) changed =
        not-before old s Yellow (starts_by site r0 s ruling step link q changed) row.interval refl
    yellow-unchanged n other q (stopped c (in-red row more) e) changed = omega arith

    yellow-falls :
        (n : ℕ) →
        (shows step j ≡ green → ⊥) →
        Yellows (suc n) ruling s →
        Yellows n step.ruling step.after × (shows step j ≡ yellow)
    unfolding shows
    yellow-falls n other left =
        ⊎_elim
        (λ (changed : step.changed ≡ true). absurd (yellow-unchanged n other left.0 left.1 changed))
        (λ (same : step.changed ≡ false).
        let plain = plain-link site r0 s ruling step link left.0 same in
        let fall = yellows-fall old j p times s (viewed s step) plain.taken n left.1 (λ e. other (fades.green e)) in
        ((link.kept same ∙ left.0, fall.0), vehicle-shows old s (viewed s step) plain.taken j within kind ∙ fall.1))
        (decided step.changed)

    red-rests : (shows step j ≡ green → ⊥) → Red ruling s → Red step.ruling step.after × (shows step j ≡ red)
    red-rests other e =
        let kept = red-stays (under site step.ruling) from (viewed from step) link.plain.taken j (same step.changed ∙ e) (λ e. other (fades.green e)) in
        (kept, fades.red kept)
      where
        same : (c : Bool) → closing_at site j (plain_from c s).position ≡ closing_at site j s.position
        same true = refl
        same false = refl

    -- stopped for one step more, or for Y + R and red
    goes_on :
        (c : ℕ) →
        ruling ≡ r0 →
        Stopped old j p c s.position →
        ((step.ruling ≡ r0) × Stopped old j p (suc c) step.after.position × ValidLink old s (viewed s step))
        ⊎ ((y + (phase_times r0 p).red ≤ c) × (closing_at site j s.position ≡ red))
    goes_on c q row =
        ⊎_elim
        (λ (changed : step.changed ≡ true). inr (over row (starts_by site r0 s ruling step link q changed)))
        (λ (same : step.changed ≡ false).
        let plain = plain-link site r0 s ruling step link q same in
        ⊎_elim
        (λ (row' : Stopped old j p (suc c) step.after.position). inl (link.kept same ∙ q, row', plain))
        (λ done. inr done)
        (stopped-on old j p times s (viewed s step) plain.taken c row))
        (decided step.changed)
      where
        over : Stopped old j p c s.position → starts_next old s ≡ true → (y + (phase_times r0 p).red ≤ c) × (closing_at site j s.position ≡ red)
        over (in-early mark row most) h = absurd (not-before old s EarlyCutOff h row.interval refl)
        over (in-yellow row most) h = absurd (not-before old s Yellow h row.interval refl)
        over (in-red row more) h =
            let lasted = rw row.phase at (all-red-lasted old s h row.interval) in
            (omega (arith, row.age, lasted), all-red-closed row)

  red-clears :
      (c : ℕ) (s : State) (ruling : Times) (steps : List Step) →
      y ≤ c →
      ruling ≡ r0 →
      Stopped old j p c s.position →
      Since site j start later s ruling steps →
      (n : ℕ) × (y + (phase_times r0 p).red ≤ c + n) × (shown_by j steps ≡ replicate n red)
  unfolding shown_by shows
  red-clears c s ruling [] h q row since =
      ⊎_elim
      (λ (on : (start.ruling ≡ r0) × Stopped old j p (suc c) start.after.position × ValidLink old s (viewed s start)).
      absurd (barred site g j apart start later green_g s ruling since.run.0 (stopped-member on.1)))
      (λ over. (0, omega (arith, over.0), refl))
      (goes_on s ruling start since.run.0 c q row)
  red-clears c s ruling (step ∷ steps) h q row since =
      ⊎_elim
      (λ (on : (step.ruling ≡ r0) × Stopped old j p (suc c) step.after.position × ValidLink old s (viewed s step)).
      let more = red-clears (suc c) step.after step.ruling steps (omega arith) on.0 on.1 (since-next since) in (
        suc more.0,
        omega (arith, more.1),
        ap₂ ◌∷◌
            (vehicle-shows old s (viewed s step) on.2.taken j within kind
            ∙ stopped-shows on.1
            ∙ rw (lt-leb (suc c) y (omega arith)))
            more.2,
      ))
      (λ over.
      (suc (length steps), omega (arith, over.0), only-red site j start later Red red-rests s ruling (step ∷ steps) over.1 since))
      (goes_on s ruling step since.run.0 c q row)

  pub vehicle-cleared :
      (s : State) (ruling : Times) (steps : List Step) →
      ruling ≡ r0 →
      s.position.phase ≡ p →
      closing_at site j s.position ≡ green →
      Since site j start later s ruling steps →
      (n : ℕ) × ((phase_times r0 p).red ≤ n) × (shown_by j steps ≡ replicate y yellow ++ replicate n red)
  vehicle-cleared s ruling steps q here e since =
      let down =
      counts-down site g j apart start later green_g Yellows yellow
      (λ n r s sane left. yellows-member old j p n s.position left.1)
      (λ n s r step link. yellow-falls s r step link n)
      y
      s
      ruling
      steps
      (q, in-green here e refl)
      since in
      let reds = red-clears y down.0 down.1 down.2 (omega arith) down.3.0 (yellows-over old j p times down.0.position down.3.1) down.4 in
      (reds.0, omega (arith, reds.1), rw (← reds.2) down.5)
