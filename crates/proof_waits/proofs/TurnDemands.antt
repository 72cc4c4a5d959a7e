-- A step meets a demand or leaves it standing with one step less by turns: a locked demand, a demand of a phase that lasts, and a button demand.
use Prim.Native.Nat.{ℕ, suc, ◌≤◌, ◌<◌}
use mathlib.Core.Bool.{Bool, true, false, not, ◌||◌}
use mathlib.Core.Logic.{◌⊎◌, inl, inr, ⊎_elim}
use mathlib.Core.Path.{◌≡◌}
use Rattle.rules.specs.declared.site.Site.{Site}
use Rattle.rules.specs.declared.state.State.{State}
use Rattle.rules.specs.Site.{crosses}
use Rattle.rules.specs.Demands.{demanded, registers_lock, registers_button}
use Rattle.rules.specs.Step.{stepped}
use Rattle.rules.specs.Waits.{turn_of}
use Rattle.rules.specs.Laws.{Sound}
use Rattle.rules.specs.Runs.{Step}
use Rattle.rules.specs.DemandThree.{in_walk, minimum_green_begins, walk_begins}
use Rattle.rules.specs.PhaseWaits.{has_started, demanded_in}
use Rattle.laws.proofs.Booleans.{or_left, or_right, decided}
use Rattle.proof_runs.proofs.ValidStates.{ValidState}
use Rattle.proof_runs.proofs.Steps.{asked_now, begun}
use Rattle.proof_runs.proofs.Chains.{ValidLink}
use Rattle.proof_waits.proofs.Demand.{Waits}
use Rattle.proof_waits.proofs.Away.{AwayAt, NotBegun}
use Rattle.proof_waits.proofs.Own.{late, away-kept, begins-or-not}
use Rattle.proof_waits.proofs.Locked.{LockStands, lock-registers-by, lock-goes-by}
use Rattle.proof_waits.proofs.Pressed.{ButtonStands, button-registers-by, button-goes-by}
use Rattle.proof_waits.proofs.Clearing.{Clearing, clearing-after}
use Rattle.proof_waits.proofs.PhaseTurns.{PhaseLeft, started-falls, demanded-falls}
use Rattle.proof_waits.proofs.ButtonTurns.{ButtonTurn, button-falls}

-- what a link says of the state after the step
there : (site : Site) (s : State) (step : Step) → ValidLink site s step → ValidState site (stepped site s step.inputs)
there site s step link = rw link.taken.after at link.there

-- ── A phase ──

-- the wait for the phase is over: its minimum green begins, or its demand has dropped away
abbrev pub met_or_dropped : Site → ℕ → Step → Bool
met_or_dropped site q step = minimum_green_begins q step || not (demanded_in site q step)

abbrev pub Away : ℕ → State → Type 0
Away q s = AwayAt q s.position

module _
    (site : Site)
    (sound : Sound site)
    (q : ℕ)
    (below : q < site.size.phases)
    (turn : ℕ → ℕ)
    (whole : (p : ℕ) → turn_of site p ≤ turn p)
    (tail : ℕ)
    (enough : late site q ≤ tail)
    (s : State)
    (step : Step)
    (link : ValidLink site s step)
  where
    abbrev Left : ℕ → State → Type 0
    Left = PhaseLeft turn tail q site

    abbrev after : State
    after = stepped site s step.inputs

    falls : demanded site s step.inputs q ≡ true → Away q s → NotBegun q after.position → (n : ℕ) → Left (suc n) s → Left n after
    falls d away none =
        demanded-falls site sound q below turn whole tail enough s step.inputs away none link.here (there site s step link) d

    pub lock-turn-registers :
        registers_lock site s step.inputs q ≡ true → (minimum_green_begins q step ≡ true) ⊎ Waits (LockStands q) Left s step
    lock-turn-registers = lock-registers-by site sound q below Left s step link falls

    pub lock-turn-goes : LockStands q s → (minimum_green_begins q step ≡ true) ⊎ Waits (LockStands q) Left s step
    lock-turn-goes = lock-goes-by site sound q below Left s step link falls

    pub lasting-goes : Away q s → (met_or_dropped site q step ≡ true) ⊎ Waits (Away q) Left s step
    unfolding demanded_in
    lasting-goes away =
        ⊎_elim
        (λ (e : minimum_green_begins q step ≡ true). inl (or_left (not (demanded_in site q step)) e))
        (λ (none : NotBegun q after.position).
        let goes : ((n : ℕ) → Left (suc n) s → Left n after) → Waits (Away q) Left s step =
        λ falls.
        record {
          stands = rw link.taken.after (away-kept site sound q below s step.inputs none away);
          falls = λ n left. rw link.taken.after (falls n left);
        } in
        ⊎_elim
        (λ (d : demanded site s step.inputs q ≡ true). inr (goes (falls d away none)))
        (λ (d : demanded site s step.inputs q ≡ false).
        ⊎_elim
        (λ (h : has_started s q ≡ true). inr (goes (started-falls site sound q below turn whole tail enough s step.inputs away none h)))
        (λ (h : has_started s q ≡ false). inl (or_right (minimum_green_begins q step) (rw (link.taken.before, d, h))))
        (decided (has_started s q)))
        (decided (demanded site s step.inputs q)))
        (begins-or-not site q s step link away)

-- ── A movement ──

-- what is left for a demand of movement m of phase q, and what runs keep of C1 and C2
abbrev pub MovementLeft : (turn : ℕ → ℕ) → (q m : ℕ) → Site → ℕ → State → Type 0
MovementLeft turn q m site n s = Clearing s × ButtonTurn turn q m site n s

module _
    (site : Site)
    (sound : Sound site)
    (q m : ℕ)
    (below : q < site.size.phases)
    (exists : m < site.size.movements)
    (crossing : crosses site.crossings m q ≡ true)
    (turn : ℕ → ℕ)
    (whole : (p : ℕ) → turn_of site p ≤ turn p)
    (s : State)
    (step : Step)
    (link : ValidLink site s step)
  where
    button-falls-on :
        asked_now site s step.inputs m ≡ true →
        begun site s step.inputs m ≡ false →
        in_walk s m ≡ false →
        (n : ℕ) →
        MovementLeft turn q m site (suc n) s →
        MovementLeft turn q m site n (stepped site s step.inputs)
    unfolding in_walk
    button-falls-on standing quiet still n left = (
      clearing-after site sound s step.inputs link.here left.0,
      button-falls site sound q m below exists crossing turn whole s step.inputs standing quiet still left.0 link.here
          (there site s step link)
          n
          left.1,
    )

    pub button-turn-registers :
        registers_button s.movements step.inputs m ≡ true → (walk_begins m step ≡ true) ⊎ Waits (ButtonStands m) (MovementLeft turn q m site) s step
    button-turn-registers = button-registers-by site sound q m exists crossing (MovementLeft turn q m site) s step link button-falls-on

    pub button-turn-goes : ButtonStands m s → (walk_begins m step ≡ true) ⊎ Waits (ButtonStands m) (MovementLeft turn q m site) s step
    button-turn-goes = button-goes-by site sound q m exists crossing (MovementLeft turn q m site) s step link button-falls-on
