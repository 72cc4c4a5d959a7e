-- Every movement record after a step is valid: a walk begins only in a phase that starts or runs, and only of a movement that
-- crosses the phase.
use Prim.Native.Nat.{ℕ, ◌<◌}
use mathlib.Core.Bool.{Bool, true, false, not, ◌&&◌, ◌||◌, false≢true}
use mathlib.Core.Logic.{⊎_elim}
use mathlib.Core.Path.{◌≡◌, refl}
use Rattle.rules.specs.declared.site.Site.{Site}
use Rattle.rules.specs.declared.site.Times.{Times}
use Rattle.rules.specs.declared.state.Interval.{Interval}
use Rattle.rules.specs.declared.state.Interval.TheVariants.{StartRed, LateStart, MinimumGreen, Running, EarlyCutOff, Yellow, AllRed}
use Rattle.rules.specs.declared.state.Position.{Position}
use Rattle.rules.specs.declared.state.Stage.TheVariants.{Walk}
use Rattle.rules.specs.declared.state.State.{State}
use Rattle.std.specs.Prelude.{if◌then◌else◌, Option, Some}
use Rattle.rules.specs.Site.{crosses}
use Rattle.rules.specs.IntervalTable.{is_idle, is_running, is_before_start, phase_held}
use Rattle.rules.specs.State.{movement}
use Rattle.rules.specs.Demands.{next_demanded}
use Rattle.rules.specs.Interval.{following, starts}
use Rattle.rules.specs.Step.{stepped}
use Rattle.rules.specs.Laws.{Sound}
use Rattle.laws.proofs.Booleans.{and_left, and_right, or_cases, never_both}
use Rattle.laws.proofs.Indices.{passes-below}
use Rattle.rules.proofs.IntervalTests.{running-only}
use Rattle.proof_runs.proofs.ValidStates.{ValidMovement, ValidState}
use Rattle.proof_runs.proofs.Steps.{another, ended, now, started, moved, asked_now, begun, movement-of}
use Rattle.proof_runs.proofs.Ends.{by_end}
use Rattle.proof_validity.proofs.Positions.{new-aged, Open, start-open}
use Rattle.proof_validity.proofs.Movements.{moved-valid}

-- a movement that crosses a phase exists
crossing-exists : (site : Site) → Sound site → (k p : ℕ) → crosses site.crossings k p ≡ true → k < site.size.movements
crossing-exists site sound k p c = passes-below (crosses site.crossings k p) k site.size.movements (sound.no_crossing k p) c

-- a walk that begins is valid in an open interval of a phase that the movement crosses
walk-valid :
    (site : Site) →
    Sound site →
    (position : Position) (k : ℕ) →
    crosses site.crossings k position.phase ≡ true →
    Open position.interval →
    ValidMovement site position k (record { stage = Walk; age = 1 })
walk-valid site sound position k c opens =
    record {
      age = new-aged;
      of_phase = λ q. (crossing-exists site sound k position.phase c, c);
      leaving = λ q. absurd (never_both q opens.1);
      start_red = λ q. absurd (never_both q opens.0);
      idle_age = λ q. absurd (false≢true q);
    }

-- running is open
running-open : (interval : Interval) → is_running interval ≡ true → Open interval
running-open interval h = rw (running-only interval h) (refl, refl)

-- what follows start red or all-red is open
following-open :
    (interval : Interval) (times : Times) (next : Option ℕ) (position : Position) →
    is_before_start interval ≡ true →
    Open (following interval times next position).interval
unfolding following
following-open StartRed times next position h = start-open times position.phase position.previous
following-open LateStart times next position h = absurd (false≢true h)
following-open MinimumGreen times next position h = absurd (false≢true h)
following-open Running times next position h = absurd (false≢true h)
following-open EarlyCutOff times next position h = absurd (false≢true h)
following-open Yellow times next position h = absurd (false≢true h)
following-open AllRed times next position h = start-open times (phase_held position.target) (Some position.phase)

module _ (site : Site) (sound : Sound site) (s : State) (inputs k : ℕ) where
  started-open : started site s inputs ≡ true → Open (now site s inputs).interval
  unfolding started starts
  started-open h =
      let before = is_before_start s.position.interval in
      by_end site s inputs (λ (p : Position). Open p.interval)
      (λ over.
      following-open s.position.interval site.times (next_demanded site s inputs) s.position
      (and_right (ended site s inputs) before h))
      (λ still. absurd (never_both (and_left (ended site s inputs) before h) still))

  begun-valid : begun site s inputs k ≡ true → ValidMovement site (now site s inputs) k (record { stage = Walk; age = 1 })
  unfolding begun
  begun-valid h =
      let of_phase = crosses site.crossings k (now site s inputs).phase in
      let rests = is_running (now site s inputs).interval && not (another site s inputs) in
      let idles = is_idle (moved site s inputs k).stage in
      let start = started site s inputs in
      walk-valid site sound (now site s inputs) k
      (and_right (asked_now site s inputs k) of_phase (and_left (asked_now site s inputs k && of_phase) (start || (rests && idles)) h))
      (⊎_elim
      (λ (e : start ≡ true). started-open e)
      (λ (e : (rests && idles) ≡ true).
      running-open (now site s inputs).interval (and_left _ (not (another site s inputs)) (and_left rests idles e)))
      (or_cases start (rests && idles) (and_right (asked_now site s inputs k && of_phase) (start || (rests && idles)) h)))

  pub next-movement : k < 8 → ValidState site s → ValidMovement site (now site s inputs) k (movement (stepped site s inputs) k)
  next-movement l v = rw (movement-of site s inputs k l) (step (begun site s inputs k) refl)
    where
      step :
          (t : Bool) →
          begun site s inputs k ≡ t →
          ValidMovement site (now site s inputs) k (if t then record { stage = Walk; age = 1 } else moved site s inputs k)
      step true e = begun-valid e
      step false e = moved-valid site s inputs k l v
