-- Every wait is met, through changes of times too: what is left by the greatest turns among the times that rule falls in each step, and a change
-- leaves it as it is.
use Prim.Native.Nat.{ℕ, ◌≤◌, ◌<◌}
use mathlib.Core.Bool.{Bool, true, false, not, ◌||◌}
use mathlib.Core.List.{List, [], ◌∷◌, ◌++◌}
use mathlib.Core.Logic.{◌⊎◌}
use mathlib.Core.Path.{◌≡◌, refl, ap, ◌∙◌}
use native.Mathlib.Omega.{arith}
use Rattle.rules.specs.declared.site.Site.{Site}
use Rattle.rules.specs.declared.site.Times.{Times}
use Rattle.rules.specs.declared.state.State.{State}
use Rattle.rules.specs.Site.{phase_times, crosses}
use Rattle.rules.specs.Demands.{detected, in_green, registers_lock, registers_button, calls, locks_after, demands_after, demanded}
use Rattle.rules.specs.SiteTimes.{under}
use Rattle.rules.specs.TimedLaws.{ready_core}
use Rattle.rules.specs.Waits.{turn_of}
use Rattle.rules.specs.Laws.{Sound}
use Rattle.rules.specs.Runs.{Step}
use Rattle.rules.specs.DemandThree.{in_walk, minimum_green_begins, walk_begins, some_step}
use Rattle.rules.specs.PhaseWaits.{demanded_in, every_step, greatest_among, turn_through, late_through, phase_wait_through, movement_wait_through, ComesBefore, WaitsMet}
use Rattle.laws.proofs.Booleans.{and_left, and_right, or-false-left, or-false-right, or-false-both}
use Rattle.proof_runs.proofs.Chains.{ValidLink}
use Rattle.proof_runs.proofs.Demanded.{lock-below}
use Rattle.proof_runs.proofs.Each.{Each}
use Rattle.proof_waits.proofs.Demand.{Waits}
use Rattle.proof_waits.proofs.Away.{away-told}
use Rattle.proof_waits.proofs.Locked.{LockStands, registers-away}
use Rattle.proof_waits.proofs.Pressed.{ButtonStands, registers-still, button-room}
use Rattle.proof_waits.proofs.PhaseTurns.{PhaseLeft, phase-never, phase-within}
use Rattle.proof_waits.proofs.ButtonTurns.{button-turn-never}
use Rattle.proof_waits.proofs.ButtonBound.{button-within}
use Rattle.proof_waits.proofs.TurnDemands.{met_or_dropped, Away, lock-turn-registers, lock-turn-goes, lasting-goes, MovementLeft, button-turn-registers, button-turn-goes}
use Rattle.proof_waits.proofs.Registers.{green-same}
use Rattle.proof_timed.proofs.Induction.{viewed, plain_from, TimedRun, SeenReady, part-with, comes-before}
use Rattle.proof_timed.proofs.Across.{away-again, lock-again, button-again, lasting-seen, lock-seen, button-seen, lock-from, button-from}
use Rattle.proof_timed.proofs.TurnsAcross.{phase-again, button-turn-again, clearing-ready, Kept, kept-plain, kept-after}

-- ── The times that rule meanwhile ──

-- the turns are at most these, and the late start of phase q is
pub record Fits (site : Site) (turn : ℕ → ℕ) (q tail : ℕ) (times : Times) : Type 0 where
  pub whole : (p : ℕ) → turn_of (under site times) p ≤ turn p
  pub enough : (phase_times times q).late ≤ tail

all_fit :
    (site : Site) (turn : ℕ → ℕ) (q tail : ℕ) (steps : List Step) →
    ((p : ℕ) → greatest_among (λ times. turn_of (under site times) p) steps ≤ turn p) →
    greatest_among (λ times. (phase_times times q).late) steps ≤ tail →
    Each (λ (step : Step) later. Fits site turn q tail step.ruling) steps
unfolding greatest_among
all_fit site turn q tail [] whole enough = tt
all_fit site turn q tail (step ∷ later) whole enough = (
  record { whole = λ p. omega (arith, whole p); enough = omega arith },
  all_fit site turn q tail later (λ p. omega (arith, whole p)) (omega arith),
)

-- ── A run from a step on ──

-- if the event has not come, no step has dropped the demand
none_dropped :
    (met held : Step → Bool) (steps : List Step) →
    some_step met steps ≡ false →
    every_step held steps ≡ true →
    some_step (λ step. met step || not (held step)) steps ≡ false
unfolding some_step every_step
none_dropped met held [] none all = refl
none_dropped met held (step ∷ later) none all =
    or-false-both
    (or-false-both (or-false-left (met step) (some_step met later) none) (ap not (and_left (held step) (every_step held later) all)))
    (none_dropped met held later (or-false-right (met step) (some_step met later) none) (and_right (held step) (every_step held later) all))

module _
    (site : Site) (s : State) (ruling : Times) (step : Step) (between : List Step)
    (run : TimedRun site s ruling (step ∷ between)) (kept : Kept (under site ruling) s) where
  abbrev now : Site
  now = under site step.ruling

  -- the state that the first step is plain from
  abbrev from : State
  from = plain_from step.changed s

  abbrev plain : ValidLink now from (viewed from step)
  plain = run.0.plain

  kept_from : Kept now from
  kept_from = kept-plain site s ruling step run.0 kept

  abbrev turn : ℕ → ℕ
  turn = turn_through site step between

  -- for phase q
  module _ (q : ℕ) (below : q < site.size.phases) where
    abbrev tail : ℕ
    tail = late_through site step between q

    fits : Each (λ (step : Step) later. Fits site turn q tail step.ruling) (step ∷ between)
    unfolding turn_through late_through
    fits = all_fit site turn q tail (step ∷ between) (λ p. omega arith) (omega arith)

    -- of a demand of a phase that is away
    module _
        (met : Step → Bool) (Stands : State → Type 0)
        (goes :
        (times : Times) →
        Fits site turn q tail times →
        (s : State) (step : Step) →
        ValidLink (under site times) s step →
        Stands s →
        (met step ≡ true) ⊎ Waits Stands (PhaseLeft turn tail q (under site times)) s step)
        (again : (s : State) → Stands s → Stands (ready_core s))
        (seen : SeenReady met)
        (away : Away q from)
        (first : (met (viewed from step) ≡ true) ⊎ Waits Stands (PhaseLeft turn tail q now) from (viewed from step))
      where
        phase-comes : ComesBefore (phase_wait_through site step between q) met (step ∷ between)
        phase-comes =
            comes-before site met (Fits site turn q tail) Stands (λ times. PhaseLeft turn tail q (under site times)) goes
            (λ times. phase-never turn tail q (under site times))
            again
            (λ s ruling step n link changed. phase-again site s ruling step link changed turn tail q n)
            seen
            s
            ruling
            step
            between
            (phase_wait_through site step between q)
            run
            fits.1
            (phase-within now plain.sound q below turn fits.0.whole tail fits.0.enough from plain.here kept_from.entered away)
            first

    lasting-comes :
        Away q s →
        every_step (demanded_in site q) (step ∷ between) ≡ true →
        ComesBefore (phase_wait_through site step between q) (minimum_green_begins q) (step ∷ between)
    unfolding ComesBefore demanded_in demanded demands_after calls locks_after detected registers_lock
    lasting-comes away all quiet =
        let away-from = by-change step.changed away in
        phase-comes (met_or_dropped site q) (Away q)
        (λ times fit s step link.
        lasting-goes (under site times) link.sound q below turn fit.whole tail fit.enough s step link)
        (away-again q)
        (lasting-seen site q)
        away-from
        (lasting-goes now plain.sound q below turn fits.0.whole tail fits.0.enough from (viewed from step) plain away-from)
        (none_dropped (minimum_green_begins q) (demanded_in site q) (step ∷ between) quiet all)
      where
        by-change : (c : Bool) → Away q s → Away q (plain_from c s)
        by-change true away = away-again q s away
        by-change false away = away

    lock-comes :
        registers_lock now from step.inputs q ≡ true →
        ComesBefore (phase_wait_through site step between q) (minimum_green_begins q) (step ∷ between)
    lock-comes r =
        phase-comes (minimum_green_begins q) (LockStands q)
        (λ times fit s step link.
        lock-turn-goes (under site times) link.sound q below turn fit.whole tail fit.enough s step link)
        (lock-again q)
        (lock-seen q)
        (registers-away now q from step.inputs r)
        (lock-turn-registers now plain.sound q below turn fits.0.whole tail fits.0.enough from (viewed from step) plain r)

    -- of movement m of the phase
    module _
        (m : ℕ)
        (exists : m < site.size.movements)
        (crossing : crosses site.crossings m q ≡ true)
        (only : (p : ℕ) → crosses site.crossings m p ≡ true → p ≡ q)
      where
        button-comes :
            registers_button from.movements step.inputs m ≡ true →
            ComesBefore (movement_wait_through site step between q m) (walk_begins m) (step ∷ between)
        unfolding in_walk
        button-comes r =
            let room = button-room now plain.sound q m exists crossing in
            comes-before site (walk_begins m) (Fits site turn q tail) (ButtonStands m) (λ times. MovementLeft turn q m (under site times))
            (λ times fit s step link.
            button-turn-goes (under site times) link.sound q m below exists crossing turn fit.whole s step link)
            (λ times s left. button-turn-never turn q m (under site times) s left.1)
            (button-again m room)
            (λ s ruling step n link changed left. (
              clearing-ready s,
              button-turn-again site s ruling step link changed turn q m n room left.1,
            ))
            (button-seen m room)
            s
            ruling
            step
            between
            (movement_wait_through site step between q m)
            run
            fits.1 (
              kept_from.clearing,
              button-within now plain.sound q m below exists crossing only turn fits.0.whole from plain.here kept_from.entered
                  kept_from.clearing
                  (registers-still from step.inputs m r),
            )
            (button-turn-registers now plain.sound q m below exists crossing turn fits.0.whole from (viewed from step) plain r)

-- ── Over a run ──

pub waits-met :
    (site : Site) →
    Sound site →
    (s : State) (ruling : Times) (steps : List Step) →
    Kept (under site ruling) s →
    TimedRun site s ruling steps →
    WaitsMet site steps
unfolding WaitsMet
waits-met site sound s ruling steps kept run =
    record {
      lasting = λ earlier between later step e q below off all.
          let cut = from-here earlier between later step e in
          let away : in_green cut.0.position q ≡ false = green-same cut.0 q ∙ (rw cut.3.0.before at off) in
          lasting-comes site cut.0 cut.1 step between cut.3 cut.2 q below (away-told cut.0 q away) all;
      locks = λ earlier between later step e q r.
          let cut = from-here earlier between later step e in
          let here = lock-from site cut.0 cut.1 step cut.3.0 q r in
          let plain = cut.3.0.plain in
          let below = lock-below (under site step.ruling) plain.sound (plain_from step.changed cut.0) step.inputs q here in
          lock-comes site cut.0 cut.1 step between cut.3 cut.2 q below here;
      buttons = λ earlier between later step e q m exists crossing r.
          let cut = from-here earlier between later step e in
          let of = sound.crossing m exists in
          let room : m < 8 = omega (arith, sound.movements) in
          rw (of.3 q crossing)
          (button-comes site cut.0 cut.1 step between cut.3 cut.2 of.0 of.1 m exists of.2 of.3
          (button-from site cut.0 cut.1 step cut.3.0 m room r));
    }
  where
    -- the state and the times that the earlier steps lead to, and the run from there through the steps between
    from-here :
        (earlier between later : List Step) (step : Step) →
        steps ≡ earlier ++ step ∷ (between ++ later) →
        (t : State) × (r : Times) × Kept (under site r) t × TimedRun site t r (step ∷ between)
    from-here = part-with site s ruling steps run (λ times. Kept (under site times)) (kept-after site) kept
