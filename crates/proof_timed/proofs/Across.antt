-- A demand across a change of times: what stands stands in the ready state too, a step that meets it is seen to from there, and so is one that
-- registers it.
use Prim.Native.Nat.{ℕ, ◌<◌}
use mathlib.Core.Bool.{Bool, true, false, not, ◌&&◌, ◌||◌}
use mathlib.Core.Path.{◌≡◌, refl, sym, ap, ◌∙◌}
use lib.ListN.{get_or-replicate}
use Rattle.rules.specs.declared.site.Site.{Site}
use Rattle.rules.specs.declared.site.Times.{Times}
use Rattle.rules.specs.declared.state.State.{State}
use Rattle.laws.specs.Bytes.{bit}
use Rattle.rules.specs.State.{idle, locked, asked, movement}
use Rattle.rules.specs.Demands.{pressed, detected, in_green, registers_lock, registers_button, calls, locks_after, buttons_after, demands_after, stands, demanded}
use Rattle.rules.specs.SiteTimes.{under}
use Rattle.rules.specs.TimedLaws.{ready_core}
use Rattle.rules.specs.Runs.{Step}
use Rattle.rules.specs.DemandThree.{in_minimum_green, in_walk, minimum_green_begins, walk_begins, registers_locked, registers_pressed}
use Rattle.rules.specs.PhaseWaits.{has_started, demanded_in}
use Rattle.laws.proofs.Booleans.{and_left, and_both}
use Rattle.laws.proofs.ByteSets.{set_same}
use Rattle.proof_waits.proofs.Locked.{LockStands}
use Rattle.proof_waits.proofs.Pressed.{ButtonStands}
use Rattle.proof_waits.proofs.TurnDemands.{met_or_dropped, Away}
use Rattle.proof_waits.proofs.Registers.{lock-same, button-same}
use Rattle.proof_timed.proofs.Induction.{plain_from, TimedLink, SeenReady}

-- in the ready state every movement is idle, and none is in walk
pub ready-idle : (k : ℕ) → k < 8 → (s : State) → movement (ready_core s) k ≡ idle
unfolding movement
ready-idle k l s = get_or-replicate 8 k idle idle l

idle-still : (k : ℕ) → k < 8 → (s : State) → in_walk (ready_core s) k ≡ false
unfolding in_walk
idle-still k l s = rw (ready-idle k l s)

pub lock-again : (p : ℕ) (s : State) → LockStands p s → LockStands p (ready_core s)
unfolding locked
lock-again p s stands = record { locked = stands.locked; away = stands.away }

pub button-again : (k : ℕ) → k < 8 → (s : State) → ButtonStands k s → ButtonStands k (ready_core s)
unfolding asked
button-again k l s stands = record { asked = stands.asked; still = idle-still k l s }

pub away-again : (q : ℕ) (s : State) → Away q s → Away q (ready_core s)
away-again q s away = away

-- if no movement is in walk, the same phases are demanded in the ready state
demanded-same :
    (site : Site) (s : State) (inputs q : ℕ) →
    ((k : ℕ) → k < 8 → in_walk s k ≡ false) →
    demanded site (ready_core s) inputs q ≡ demanded site s inputs q
unfolding demanded calls demands_after locks_after buttons_after registers_lock registers_button in_green locked in_walk movement
demanded-same site s inputs q still =
    ap (λ (set : ℕ). stands site.crossings site.size.movements (record { locks = locks_after site s inputs; buttons = set }) q || calls site s inputs q)
    (set_same (λ k. bit k s.demands.buttons || registers_button (ready_core s).movements inputs k)
    (λ k. bit k s.demands.buttons || registers_button s.movements inputs k)
    (λ k l. ap (λ (walks : Bool). bit k s.demands.buttons || (pressed inputs k && not walks)) (idle-still k l s ∙ sym (still k l))))

pub lasting-seen : (site : Site) (q : ℕ) → SeenReady (met_or_dropped site q)
unfolding minimum_green_begins in_minimum_green demanded_in has_started
lasting-seen site q step still h = rw (demanded-same site step.before step.inputs q still) at h

pub lock-seen : (p : ℕ) → SeenReady (minimum_green_begins p)
unfolding minimum_green_begins in_minimum_green
lock-seen p step still h = h

pub button-seen : (k : ℕ) → k < 8 → SeenReady (walk_begins k)
unfolding walk_begins
button-seen k l step still h = and_both (and_left (in_walk step.after k) _ h) (ap not (still k l))

-- what a step registers is so of the state that it is plain from
module _ (site : Site) (s : State) (ruling : Times) (step : Step) (link : TimedLink site s ruling step) where
  pub lock-from :
      (p : ℕ) →
      registers_locked site step p ≡ true →
      registers_lock (under site step.ruling) (plain_from step.changed s) step.inputs p ≡ true
  unfolding registers_lock detected in_green
  lock-from p r =
      by-change step.changed
      (ap (λ (b : State). registers_lock site b step.inputs p) (sym link.before) ∙ sym (lock-same site step p) ∙ r)
    where
      by-change :
          (c : Bool) →
          registers_lock site s step.inputs p ≡ true →
          registers_lock (under site step.ruling) (plain_from c s) step.inputs p ≡ true
      by-change true h = h
      by-change false h = h

  pub button-from :
      (k : ℕ) →
      k < 8 →
      registers_pressed step k ≡ true →
      registers_button (plain_from step.changed s).movements step.inputs k ≡ true
  unfolding registers_button
  button-from k l r =
      by-change step.changed
      (ap (λ (b : State). registers_button b.movements step.inputs k) (sym link.before) ∙ sym (button-same step k) ∙ r)
    where
      by-change :
          (c : Bool) →
          registers_button s.movements step.inputs k ≡ true →
          registers_button (plain_from c s).movements step.inputs k ≡ true
      by-change true h = rw (get_or-replicate 8 k idle idle l) (and_both (and_left (pressed step.inputs k) _ h) refl)
      by-change false h = h
