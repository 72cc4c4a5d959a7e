-- A button demand of a movement m of phase q: the start of q meets it.
use Prim.Native.Nat.{ℕ, ◌≤◌, ◌<◌}
use mathlib.Core.Bool.{true, false, not, ◌&&◌}
use mathlib.Core.Logic.{◌⊎◌, ⊎_elim}
use mathlib.Core.Path.{◌≡◌, refl, sym, ap, ◌∙◌}
use native.Mathlib.Omega.{arith}
use borrow.Author.Tests.{not-true}
use Rattle.rules.specs.declared.site.Site.{Site}
use Rattle.rules.specs.declared.state.Position.{Position}
use Rattle.rules.specs.declared.state.State.{State}
use Rattle.rules.specs.Site.{crosses}
use Rattle.rules.specs.IntervalTable.{is_before_start}
use Rattle.rules.specs.State.{asked}
use Rattle.rules.specs.Demands.{registers_button}
use Rattle.rules.specs.Interval.{staying}
use Rattle.rules.specs.Step.{stepped}
use Rattle.rules.specs.Laws.{Sound}
use Rattle.rules.specs.Runs.{Step}
use Rattle.rules.specs.DemandThree.{walk_begins}
use Rattle.rules.specs.OnceEach.{some_starts}
use Rattle.laws.proofs.Booleans.{and_left, and_right, or_left, or_right, decided, never_both}
use Rattle.proof_runs.proofs.Chains.{ValidLink}
use Rattle.proof_runs.proofs.Demanded.{button-demands}
use Rattle.proof_runs.proofs.Ends.{next-in, started-in}
use Rattle.proof_runs.proofs.Steps.{ended, started, asked_now, begun, position-of, asked_of}
use Rattle.proof_waits.proofs.Pressed.{ButtonStands, not-started, button-registers-by, button-goes-by}
use Rattle.proof_waits.proofs.Demand.{Waits, standing_on}
use Rattle.proof_waits.proofs.Paths.{ring_in}
use Rattle.proof_once.proofs.Ways.{starts_between, none_stays, starts_left, step-way}
use Rattle.proof_once.proofs.Nears.{Near, Nears, way-nears}

-- a start that the states show is one of the step: an interval that goes on starts none
start-told : (site : Site) (s : State) (step : Step) → ValidLink site s step → some_starts step ≡ true → started site s step.inputs ≡ true
unfolding some_starts staying
start-told site s step link h =
    let i = s.position.interval in
    let seen : starts_between i (stepped site s step.inputs).position.interval ≡ true = rw (link.taken.before, link.taken.after) at h in
    ⊎_elim
    (λ (e : ended site s step.inputs ≡ true). started-in site s step.inputs i refl true e ∙ and_left (is_before_start i) _ seen)
    (λ (e : ended site s step.inputs ≡ false).
    absurd (never_both (rw (next-in site s step.inputs i refl false e) at seen) (none_stays i)))
    (decided (ended site s step.inputs))

-- the demand is never about to be met: the start of its phase meets it
abbrev pub Nowhere : Position → Type 0
Nowhere position = ⊥

module _ (site : Site) (q m : ℕ) where
  abbrev pub ButtonNear : ℕ → State → Type 0
  ButtonNear = Near (ring_in site) q (walk_begins m) (ButtonStands m) Nowhere

  abbrev pub ButtonNears : ℕ → Step → Type 0
  ButtonNears = Nears (ring_in site) q (walk_begins m) (ButtonStands m) Nowhere

  module _
      (sound : Sound site)
      (below : q < site.size.phases)
      (exists : m < site.size.movements)
      (crossing : crosses site.crossings m q ≡ true)
      (only : (p : ℕ) → crosses site.crossings m p ≡ true → p ≡ q)
      (s : State)
      (step : Step)
      (link : ValidLink site s step)
    where
      room : m < 8
      room = omega (arith, sound.movements)

      start-meets : ButtonStands m step.after → some_starts step ≡ true → step.after.position.phase ≡ q → ⊥
      start-meets stands h same =
          let inputs = step.inputs in
          let kept : (asked_now site s inputs m && not (begun site s inputs m)) ≡ true =
          sym (asked_of site s inputs m room) ∙ (rw link.taken.after at stands.asked) in
          not-started site sound q m exists crossing s inputs (and_left (asked_now site s inputs m) _ kept)
          (not-true (begun site s inputs m) (and_right (asked_now site s inputs m) _ kept))
          (start-told site s step link h)
          (sym (ap (λ (p : Position). p.phase) (position-of site s inputs)) ∙ (rw link.taken.after at same))

      nears :
          (n : ℕ) →
          asked_now site s step.inputs m ≡ true →
          (walk_begins m step ≡ true) ⊎ Waits (ButtonStands m) (λ n s. Unit {0}) s step →
          starts_left (ring_in site) q s.position ≤ n →
          ButtonNears n step
      nears n standing goes most =
          way-nears (ring_in site) q (walk_begins m) (ButtonStands m) Nowhere n step
          (rw (link.taken.before, link.taken.after)
          (step-way site q sound below s step.inputs link.here.phase (button-demands site s step.inputs m q room exists crossing standing)))
          (rw link.taken.before most)
          (standing_on goes)
          start-meets

      pub button-nears : (n : ℕ) → ButtonNear n s → ButtonNears n step
      unfolding asked_now
      button-nears n near =
          nears n (or_left (registers_button s.movements step.inputs m) near.stands.asked)
          (button-goes-by site sound q m exists crossing (λ n s. Unit {0}) s step link (λ standing quiet still n left. left) near.stands)
          (⊎_elim (λ (most : starts_left (ring_in site) q s.position ≤ n). most) (λ last. absurd last) near.bound)

      -- from the step that registers it on
      pub button-first : registers_button s.movements step.inputs m ≡ true → ButtonNears (starts_left (ring_in site) q s.position) step
      unfolding asked_now
      button-first r =
          nears (starts_left (ring_in site) q s.position) (or_right (asked s m) r)
          (button-registers-by site sound q m exists crossing (λ n s. Unit {0}) s step link (λ standing quiet still n left. left) r)
          (omega arith)
