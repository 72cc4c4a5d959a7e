-- Part b for a pedestrian group, with changes of times. No times take over before its flashing red is over, so it is cleared by the times in force
-- when its green ended. After that only red is shown, whichever times rule.
use Prim.Native.Nat.{ℕ, suc, ◌+◌, ◌<◌}
use native.Mathlib.Omega.{arith}
use mathlib.Core.Bool.{Bool, true, false, false≢true}
use mathlib.Core.List.{List, ◌++◌}
use mathlib.Core.Logic.{⊎_elim}
use mathlib.Core.Path.{◌≡◌, refl, sym, ap, subst, ◌∙◌}
use lib.Dec.{leb}
use lib.ListN.{length, replicate, get_or-replicate}
use borrow.Author.Tests.{lt-leb}
use Rattle.rules.specs.declared.site.Site.{Site}
use Rattle.rules.specs.declared.site.Times.{Times}
use Rattle.rules.specs.declared.site.WalkTimes.{WalkTimes}
use Rattle.rules.specs.declared.state.Movement.{Movement}
use Rattle.rules.specs.declared.state.Stage.TheVariants.{Idle, ClearanceOne, ClearanceTwo}
use Rattle.rules.specs.declared.state.State.{State}
use Rattle.std.specs.Prelude.{if◌then◌else◌}
use Rattle.rules.specs.Site.{walk_times, is_pedestrian, movement_of, conflict}
use Rattle.rules.specs.IntervalTable.{is_idle, is_walk}
use Rattle.rules.specs.State.{idle, movement}
use Rattle.rules.specs.Movements.{older, lasting, advanced}
use Rattle.rules.specs.Colours.{red, green, flashing, movement_colour}
use Rattle.rules.specs.SiteTimes.{under}
use Rattle.rules.specs.TimedLaws.{ready_core}
use Rattle.rules.specs.Runs.{Step}
use Rattle.rules.specs.DemandThree.{shows, shown_by}
use Rattle.rules.specs.Laws.{Sound}
use Rattle.laws.proofs.Booleans.{never_both, decided}
use Rattle.rules.proofs.Settings.{walk-reached}
use Rattle.proof_runs.proofs.ValidStates.{ValidState}
use Rattle.proof_runs.proofs.Steps.{may_end}
use Rattle.proof_clearance.proofs.Shown.{pedestrian-shows, green-walks}
use Rattle.proof_clearance.proofs.Greens.{busy-has-phase}
use Rattle.proof_clearance.proofs.Pedestrians.{next, FlashesLeft, in-walk, in-first, in-second, flashes-busy, flashes-fall, flashes-over, idle-stays, movement-after}
use Rattle.proof_timed.proofs.Induction.{viewed, plain_from, TimedLink}
use Rattle.proof_change.proofs.Change.{starts-clear}
use Rattle.proof_timed.proofs.Countdowns.{Since, only-red, counts-down, plain-link, starts_by, sane-by}

module _
    (site : Site) (g j : ℕ) (apart : conflict site g j ≡ true) (start : Step) (later : List Step) (green_g : shows start g ≡ green)
    (r0 : Times) (sound : Sound (under site r0)) (kind : is_pedestrian site.groups j ≡ true) where
  abbrev old : Site
  old = under site r0

  within : j < site.size.groups
  unfolding conflict
  within = (sound.conflict_groups g j apart).1

  abbrev k : ℕ
  k = movement_of site.groups j

  abbrev mine : State → Movement
  mine s = movement s k

  abbrev walks : WalkTimes
  walks = walk_times r0 k

  below : k < site.size.movements
  below = sound.movement_of_group j within kind

  room : k < 8
  room = omega (arith, below, sound.movements)

  abbrev Flashes : ℕ → Times → State → Type 0
  Flashes n ruling s = (ruling ≡ r0) × FlashesLeft walks n (mine s)

  abbrev Idles : Times → State → Type 0
  Idles ruling s = (may_end : Bool) → (next may_end (walk_times ruling k) (mine s)).stage ≡ Idle

  -- a movement with flashing steps to come is not idle after part 2
  flashes-last : (n : ℕ) (m : Movement) → FlashesLeft walks (suc n) m → is_walk m.stage ≡ false → next false walks m ≡ idle → ⊥
  unfolding advanced lasting
  flashes-last n m (in-walk e c) still over = never_both (rw e) still
  flashes-last n m (in-first e l c) still over = first (leb walks.first m.age) (rw e at over)
    where
      first : (t : Bool) → ◌≡◌ {A = Movement} (if t then record { stage = ClearanceTwo; age = 1 } else record { stage = ClearanceOne; age = older m.age }) idle → ⊥
      first true h = false≢true (ap (λ (m : Movement). is_idle m.stage) h)
      first false h = false≢true (ap (λ (m : Movement). is_idle m.stage) h)
  flashes-last n m (in-second e c) still over =
      let h : ◌≡◌ {A = Movement} (record { stage = ClearanceTwo; age = older m.age }) idle = rw (e, lt-leb walks.second m.age (omega arith)) at over in
      false≢true (ap (λ (m : Movement). is_idle m.stage) h)

  module _ (s : State) (ruling : Times) (step : Step) (link : TimedLink site s ruling step) where
    abbrev from : State
    from = plain_from step.changed s

    pub walk-shown : shows step j ≡ movement_colour (mine step.after).stage
    unfolding shows
    walk-shown =
        pedestrian-shows (under site step.ruling) from (viewed from step) link.plain.taken j within kind

    mine-after :
        (shows step j ≡ green → ⊥) →
        mine step.after ≡ next (may_end (under site step.ruling) from step.inputs) (walk_times step.ruling k) (mine from)
    mine-after other =
        movement-after (under site step.ruling) from (viewed from step) link.plain.taken k room
        (λ e. other (walk-shown ∙ e))

    flashing-falls :
        (n : ℕ) →
        (shows step j ≡ green → ⊥) →
        Flashes (suc n) ruling s →
        Flashes n step.ruling step.after × (shows step j ≡ flashing)
    unfolding shows movement
    flashing-falls n other left =
        ⊎_elim
        (λ (changed : step.changed ≡ true).
        let clear = starts-clear old sound s (sane-by site r0 s ruling step link left.0) (starts_by site r0 s ruling step link left.0 changed) k room in
        absurd (flashes-last n (mine s) left.1 clear.still clear.over))
        (λ (same : step.changed ≡ false).
        let plain = plain-link site r0 s ruling step link left.0 same in
        let here = movement-after old s (viewed s step) plain.taken k room (λ e. other (walk-shown ∙ e)) in
        let shown = rw here at walk-shown in
        let fall = flashes-fall walks (walk-reached old sound k below) (may_end old s step.inputs) n (mine s) left.1 (λ e. other (shown ∙ e)) in
        ((link.kept same ∙ left.0, rw here fall.0), shown ∙ fall.1))
        (decided step.changed)

    idle-rests : (shows step j ≡ green → ⊥) → Idles ruling s → Idles step.ruling step.after × (shows step j ≡ red)
    unfolding movement_colour movement
    idle-rests other e =
        let may = may_end (under site step.ruling) from step.inputs in
        let idles = ap (λ (m : Movement). m.stage) (mine-after other) ∙ now-idle step.changed refl may in
        (idle-stays (walk_times step.ruling k) (mine step.after) idles, walk-shown ∙ ap movement_colour idles)
      where
        now-idle : (c : Bool) → step.changed ≡ c → (may : Bool) → (next may (walk_times step.ruling k) (mine (plain_from c s))).stage ≡ Idle
        now-idle true h may = idle-stays (walk_times step.ruling k) (mine (ready_core s)) (ap (λ (m : Movement). m.stage) (get_or-replicate 8 k idle idle room)) may
        now-idle false h may = subst (λ (r : Times). (next may (walk_times r k) (mine s)).stage ≡ Idle) (sym (link.kept h)) (e may)

  pub pedestrian-cleared :
      (s : State) (ruling : Times) (steps : List Step) →
      ruling ≡ r0 →
      movement_colour (mine s).stage ≡ green →
      Since site j start later s ruling steps →
      (n : ℕ) × (shown_by j steps ≡ replicate (walks.first + walks.second) flashing ++ replicate n red)
  pedestrian-cleared s ruling steps q e since =
      let down =
      counts-down site g j apart start later green_g Flashes flashing
      (λ n r s sane left.
      busy-has-phase old sound s (subst (λ (r : Times). ValidState (under site r) s) left.0 sane) j within kind (flashes-busy walks n (mine s) left.1))
      (λ n s r step link. flashing-falls s r step link n)
      (walks.first + walks.second)
      s
      ruling
      steps
      (q, in-walk (green-walks (mine s).stage e) refl)
      since in
      let idles = flashes-over walks (walk-reached old sound k below) (mine down.0) down.3.1 in
      let reds =
      only-red site j start later Idles idle-rests down.0 down.1 down.2
      (subst (λ (r : Times). Idles r down.0) (sym down.3.0) idles)
      down.4 in
      (length down.2, rw (← reds) down.5)
