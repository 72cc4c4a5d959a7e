-- Over the accepted steps of a run, with changes of times among them: while a demand waits, the starts fall along the ring. A change is a plain step
-- from the ready state, which has the same phase, interval and target, so the starts that are left are the same.
use Prim.Native.Nat.{ℕ, ◌≤◌, ◌<◌}
use mathlib.Core.Bool.{Bool, true, false}
use mathlib.Core.List.{List, [], ◌∷◌}
use mathlib.Core.Logic.{⊎_elim}
use mathlib.Core.Path.{◌≡◌}
use native.Mathlib.Omega.{arith}
use Rattle.rules.specs.declared.site.Site.{Site}
use Rattle.rules.specs.declared.site.Times.{Times}
use Rattle.rules.specs.declared.state.Position.{Position}
use Rattle.rules.specs.declared.state.State.{State}
use Rattle.rules.specs.Site.{crosses}
use Rattle.rules.specs.SiteTimes.{under}
use Rattle.rules.specs.TimedLaws.{ready_core}
use Rattle.rules.specs.Laws.{Sound}
use Rattle.rules.specs.Runs.{Step}
use Rattle.rules.specs.DemandThree.{minimum_green_begins, walk_begins, registers_locked, registers_pressed}
use Rattle.rules.specs.OnceEach.{some_starts, phase_starts, other_starts, how_many, until_met, WhileWaiting}
use Rattle.laws.proofs.Booleans.{decided, never_both}
use Rattle.proof_runs.proofs.Chains.{ValidLink}
use Rattle.proof_runs.proofs.Demanded.{lock-below}
use Rattle.proof_runs.proofs.Each.{Each, each_at}
use Rattle.proof_waits.proofs.Pressed.{ButtonStands}
use Rattle.proof_waits.proofs.Locked.{LockStands}
use Rattle.proof_waits.proofs.Paths.{ring_in}
use Rattle.proof_timed.proofs.Induction.{viewed, plain_from, TimedLink, TimedRun, SeenReady, truly}
use Rattle.proof_timed.proofs.Across.{lock-again, button-again, lock-seen, button-seen, lock-from, button-from}
use Rattle.proof_once.proofs.Ways.{from_start, other-some, starts_left, starts-most}
use Rattle.proof_once.proofs.Falling.{Falls, Falling, falling-more, starts-once, others-few}
use Rattle.proof_once.proofs.Nears.{Near, Nears}
use Rattle.proof_once.proofs.Locks.{InLate, lock-nears, lock-first}
use Rattle.proof_once.proofs.Buttons.{Nowhere, button-nears, button-first}

-- a start is one seen from the state that the step is plain from
starts_from :
    (c : Bool) (s : State) (step : Step) →
    step.before ≡ s →
    (r : ℕ) →
    phase_starts r step ≡ true →
    phase_starts r (viewed (plain_from c s) step) ≡ true
unfolding phase_starts some_starts
starts_from true s step e r h = rw e at h
starts_from false s step e r h = rw e at h

-- ── A demand of either kind ──

module _
    (site : Site) (q : ℕ) (met : Step → Bool) (Stands : State → Type 0) (Last : Position → Type 0)
    (seen : SeenReady met)
    (again : (n : ℕ) (s : State) → Near (ring_in site) q met Stands Last n s → Near (ring_in site) q met Stands Last n (ready_core s))
    (one :
    (ruling : Times) (n : ℕ) (s : State) (step : Step) →
    ValidLink (under site ruling) s step →
    Near (ring_in site) q met Stands Last n s →
    Nears (ring_in site) q met Stands Last n step) where
  abbrev key : ℕ → ℕ
  key = from_start (ring_in site) q

  -- the steps from one on that was seen to near the demand, by whether it meets it
  from_step :
      (n : ℕ) (s : State) (ruling : Times) (step : Step) (later : List Step) →
      TimedLink site s ruling step →
      Nears (ring_in site) q met Stands Last n (viewed (plain_from step.changed s) step) →
      ((m : ℕ) → Near (ring_in site) q met Stands Last m step.after → Falling key m (until_met met later)) →
      Falling key n (until_met met (step ∷ later))
  unfolding until_met
  from_step n s ruling step later link nears rest =
      ⊎_elim
      (λ (e : met step ≡ true). rw e (nears.left, falls, tt))
      (λ (e : met step ≡ false).
      rw e (
        nears.left,
        falls,
        ⊎_elim
            (λ (m : met (viewed (plain_from step.changed s) step) ≡ true).
            absurd (never_both (truly site met seen s ruling step link m) e))
            (rest nears.left)
            nears.near,
      ))
      (decided (met step))
    where
      falls : Falls key n step nears.left
      falls = (nears.falls.0, λ r e. nears.falls.1 r (starts_from step.changed s step link.before r e))

  near-from : (c : Bool) (n : ℕ) (s : State) → Near (ring_in site) q met Stands Last n s → Near (ring_in site) q met Stands Last n (plain_from c s)
  near-from true n s near = again n s near
  near-from false n s near = near

  falling :
      (later : List Step) (n : ℕ) (s : State) (ruling : Times) →
      TimedRun site s ruling later →
      Near (ring_in site) q met Stands Last n s →
      Falling key n (until_met met later)
  unfolding until_met
  falling [] n s ruling run near = tt
  falling (step ∷ later) n s ruling run near =
      let from = plain_from step.changed s in
      from_step n s ruling step later run.0
      (one step.ruling n from (viewed from step) run.0.plain (near-from step.changed n s near))
      (λ m near. falling later m step.after step.ruling run.1 near)

  -- from the step that registers it on
  pub falling-first :
      (s : State) (ruling : Times) (step : Step) (later : List Step) →
      TimedRun site s ruling (step ∷ later) →
      q < site.size.phases →
      (let from = plain_from step.changed s in
      Nears (ring_in site) q met Stands Last (starts_left (ring_in site) q from.position) (viewed from step)) →
      Falling key site.size.phases (until_met met (step ∷ later))
  falling-first s ruling step later run below nears =
      let from = plain_from step.changed s in
      let n = starts_left (ring_in site) q from.position in
      falling-more key n site.size.phases (until_met met (step ∷ later))
      (starts-most (under site step.ruling) q run.0.plain.sound below from run.0.plain.here)
      (from_step n s ruling step later run.0 nears (λ m near. falling later m step.after step.ruling run.1 near))

-- ── Both kinds ──

-- the starts fall, and there are no more than phases
abbrev pub FallingTo : Site → ℕ → List Step → Type 0
FallingTo site p steps = Falling (from_start (ring_in site) p) site.size.phases steps

pub falls-once : (site : Site) (p : ℕ) (steps : List Step) → FallingTo site p steps → (r : ℕ) → how_many (phase_starts r) steps ≤ 1
falls-once site p steps falling r = starts-once (from_start (ring_in site) p) r site.size.phases steps falling

pub falls-few :
    (site : Site) → Sound site → (p : ℕ) (steps : List Step) → FallingTo site p steps → how_many (other_starts p) steps < site.size.phases
falls-few site sound p steps falling =
    omega (arith, others-few (from_start (ring_in site) p) p (other-some (ring_in site) p) site.size.phases steps falling, sound.phases)

module _
    (site : Site) (sound : Sound site) (s : State) (ruling : Times) (step : Step) (later : List Step)
    (run : TimedRun site s ruling (step ∷ later)) where
  lock-falling : (p : ℕ) → registers_locked site step p ≡ true → FallingTo site p (until_met (minimum_green_begins p) (step ∷ later))
  lock-falling p r =
      let from = plain_from step.changed s in
      let now = under site step.ruling in
      let here = lock-from site s ruling step run.0 p r in
      let below = lock-below now run.0.plain.sound from step.inputs p here in
      falling-first site p (minimum_green_begins p) (LockStands p) (InLate p) (lock-seen p)
      (λ n s near. record { stands = lock-again p s near.stands; bound = near.bound })
      (λ r n s step link near. lock-nears (under site r) p link.sound below s step link n near)
      s
      ruling
      step
      later
      run
      below
      (lock-first now p run.0.plain.sound below from (viewed from step) run.0.plain here)

  button-falling :
      (k p : ℕ) →
      k < site.size.movements →
      crosses site.crossings k p ≡ true →
      registers_pressed step k ≡ true →
      FallingTo site p (until_met (walk_begins k) (step ∷ later))
  button-falling k p l crossing r =
      let from = plain_from step.changed s in
      let of = sound.crossing k l in
      let q = of.0 in
      let room : k < 8 = omega (arith, sound.movements) in
      rw (of.3 p crossing)
      (falling-first site q (walk_begins k) (ButtonStands k) Nowhere (button-seen k room)
      (λ n s near. record { stands = button-again k room s near.stands; bound = near.bound })
      (λ r n s step link near. button-nears (under site r) q k link.sound of.1 l of.2 of.3 s step link n near)
      s
      ruling
      step
      later
      run
      of.1
      (button-first (under site step.ruling) q k run.0.plain.sound of.1 l of.2 of.3 from (viewed from step) run.0.plain
      (button-from site s ruling step run.0 k room r)))

-- ── Over a run ──

-- the claim at one step, for the steps after it
abbrev At : Site → Step → List Step → Type 0
At site step later =
    ((p : ℕ) → registers_locked site step p ≡ true → FallingTo site p (until_met (minimum_green_begins p) (step ∷ later)))
    × ((k p : ℕ) →
    k < site.size.movements →
    crosses site.crossings k p ≡ true →
    registers_pressed step k ≡ true →
    FallingTo site p (until_met (walk_begins k) (step ∷ later)))

at_each :
    (site : Site) → Sound site → (steps : List Step) (s : State) (ruling : Times) → TimedRun site s ruling steps → Each (At site) steps
at_each site sound [] s ruling run = tt
at_each site sound (step ∷ later) s ruling run = (
  (lock-falling site sound s ruling step later run, button-falling site sound s ruling step later run),
  at_each site sound later step.after step.ruling run.1,
)

pub starts-fall :
    (site : Site) →
    Sound site →
    (s : State) (ruling : Times) (steps : List Step) →
    TimedRun site s ruling steps →
    WhileWaiting (FallingTo site) site steps
starts-fall site sound s ruling steps run earlier later step split =
    each_at (At site) steps earlier later step split (at_each site sound steps s ruling run)
