-- Accepted steps with changes of times among them, and induction over them: a plain link under the times that rule, or, where others take over,
-- a plain link under those from the ready state.
use Prim.Native.Nat.{ℕ, zero, suc, ◌+◌, ◌≤◌, ◌<◌}
use mathlib.Core.Bool.{Bool, true, false}
use mathlib.Core.List.{List, [], ◌∷◌, ◌++◌}
use mathlib.Core.Logic.{◌⊎◌, ⊎_elim}
use mathlib.Core.Path.{◌≡◌, refl, sym, ap, subst, ◌∙◌}
use native.Mathlib.Omega.{arith}
use lib.ListN.{length}
use Rattle.rules.specs.declared.site.Site.{Site}
use Rattle.rules.specs.declared.site.Times.{Times}
use Rattle.rules.specs.declared.state.State.{State}
use Rattle.std.specs.Prelude.{if◌then◌else◌, Option}
use Rattle.rules.specs.Interval.{following}
use Rattle.rules.specs.SiteTimes.{under}
use Rattle.rules.specs.Timed.{starts_next}
use Rattle.rules.specs.TimedLaws.{ready_core}
use Rattle.rules.specs.Runs.{Step}
use Rattle.rules.specs.DemandThree.{in_walk, some_step}
use Rattle.rules.specs.PhaseWaits.{ComesBefore}
use Rattle.laws.proofs.Booleans.{or-false-left, or-false-right, never_both}
use Rattle.proof_runs.proofs.ValidStates.{ValidState}
use Rattle.proof_runs.proofs.Chains.{ValidLink}
use Rattle.proof_runs.proofs.Each.{Each}
use Rattle.proof_waits.proofs.Demand.{Waits, waits-on}

-- the step, seen as one from such a state
abbrev pub viewed : State → Step → Step
viewed s step =
    record {
      before = s;
      inputs = step.inputs;
      room = step.room;
      outcome = step.outcome;
      after = step.after;
      shown = step.shown;
      ruling = step.ruling;
      changed = step.changed;
    }

-- the state that a step is plain from
abbrev pub plain_from : Bool → State → State
plain_from changed s = if changed then ready_core s else s

pub record TimedLink (site : Site) (s : State) (ruling : Times) (step : Step) : Type 0 where
  pub before : step.before ≡ s
  pub kept : step.changed ≡ false → step.ruling ≡ ruling
  pub plain : ValidLink (under site step.ruling) (plain_from step.changed s) (viewed (plain_from step.changed s) step)
  pub still : step.changed ≡ true → (k : ℕ) → k < 8 → in_walk s k ≡ false
  pub sane : ValidState (under site ruling) s
  pub over : step.changed ≡ true → starts_next (under site ruling) s ≡ true
  pub begun : step.changed ≡ true → (next : Option ℕ) × (step.after.position ≡ following s.position.interval step.ruling next s.position)

abbrev pub TimedRun : Site → State → Times → List Step → Type 0
TimedRun site s ruling [] = Unit {0}
TimedRun site s ruling (step ∷ later) = TimedLink site s ruling step × TimedRun site step.after step.ruling later

-- a change is plain from the ready state
pub ready-link :
    (site : Site) (s : State) (ruling : Times) (step : Step) →
    TimedLink site s ruling step →
    step.changed ≡ true →
    ValidLink (under site step.ruling) (ready_core s) (viewed (ready_core s) step)
ready-link site s ruling step link e = by step.changed e link.plain
  where
    by :
        (c : Bool) →
        c ≡ true →
        ValidLink (under site step.ruling) (plain_from c s) (viewed (plain_from c s) step) →
        ValidLink (under site step.ruling) (ready_core s) (viewed (ready_core s) step)
    by true e plain = plain
    by false e plain = absurd (never_both e refl)

-- the later steps of a run are linked from the state and the times that the earlier ones lead to, and what each step keeps holds there
past-with :
    (site : Site) (P : Times → State → Type 0) →
    ((s : State) (ruling : Times) (step : Step) → TimedLink site s ruling step → P ruling s → P step.ruling step.after) →
    (earlier later : List Step) (s : State) (ruling : Times) →
    P ruling s →
    TimedRun site s ruling (earlier ++ later) →
    (t : State) × (r : Times) × P r t × TimedRun site t r later
past-with site P keeps [] later s ruling p run = (s, ruling, p, run)
past-with site P keeps (step ∷ earlier) later s ruling p run =
    past-with site P keeps earlier later step.after step.ruling (keeps s ruling step run.0 p) run.1

pub past :
    (site : Site) (earlier later : List Step) (s : State) (ruling : Times) →
    TimedRun site s ruling (earlier ++ later) →
    (t : State) × (r : Times) × TimedRun site t r later
past site earlier later s ruling run =
    let cut = past-with site (λ times s. Unit {0}) (λ s ruling step link p. tt) earlier later s ruling tt run in
    (cut.0, cut.1, cut.3)

-- the earlier steps of a run are a run
front :
    (site : Site) (earlier later : List Step) (s : State) (ruling : Times) →
    TimedRun site s ruling (earlier ++ later) →
    TimedRun site s ruling earlier
front site [] later s ruling run = tt
front site (step ∷ earlier) later s ruling run = (run.0, front site earlier later step.after step.ruling run.1)

-- a part of a run is a run, from a state and times for which holds what each step keeps
module _ (site : Site) (s : State) (ruling : Times) (steps : List Step) (run : TimedRun site s ruling steps) where
  pub part-with :
      (P : Times → State → Type 0) →
      ((s : State) (ruling : Times) (step : Step) → TimedLink site s ruling step → P ruling s → P step.ruling step.after) →
      P ruling s →
      (earlier between later : List Step) (step : Step) →
      steps ≡ earlier ++ step ∷ (between ++ later) →
      (t : State) × (r : Times) × P r t × TimedRun site t r (step ∷ between)
  part-with P keeps p earlier between later step e =
      let cut =
      past-with site P keeps earlier (step ∷ (between ++ later)) s ruling p (subst (λ (l : List Step). TimedRun site s ruling l) e run) in
      (cut.0, cut.1, cut.2, front site (step ∷ between) later cut.0 cut.1 cut.3)

  pub part :
      (earlier between later : List Step) (step : Step) →
      steps ≡ earlier ++ step ∷ (between ++ later) →
      (t : State) × (r : Times) × TimedRun site t r (step ∷ between)
  part earlier between later step e =
      let cut = part-with (λ times s. Unit {0}) (λ s ruling step link p. tt) tt earlier between later step e in
      (cut.0, cut.1, cut.3)

-- ── A demand of either kind ──

-- that its event comes in a step is seen from the state that the step is plain from
abbrev pub SeenReady : (Step → Bool) → Type 0
SeenReady met =
    (step : Step) → ((k : ℕ) → k < 8 → in_walk step.before k ≡ false) → met (viewed (ready_core step.before) step) ≡ true → met step ≡ true

pub truly :
    (site : Site) (met : Step → Bool) →
    SeenReady met →
    (s : State) (ruling : Times) (step : Step) →
    TimedLink site s ruling step →
    met (viewed (plain_from step.changed s) step) ≡ true →
    met step ≡ true
truly site met seen s ruling step link = by step.changed refl
  where
    by : (c : Bool) → step.changed ≡ c → met (viewed (plain_from c s) step) ≡ true → met step ≡ true
    by false e h = ap (λ (b : State). met (viewed b step)) link.before ∙ h
    by true e h =
        seen step (λ k l. ap (λ (b : State). in_walk b k) link.before ∙ link.still e k l)
        (ap (λ (b : State). met (viewed (ready_core b) step)) link.before ∙ h)

-- Each step meets the demand, or leaves it standing with one step less of what is left. A change may set what is left anew, at the cost of `more`.
module _
    (site : Site) (met : Step → Bool) (Fits : Times → Type 0) (Stands : State → Type 0) (Left : Times → ℕ → State → Type 0)
    (more : List Step → ℕ)
    (goes :
    (ruling : Times) →
    Fits ruling →
    (s : State) (step : Step) →
    ValidLink (under site ruling) s step →
    Stands s →
    (met step ≡ true) ⊎ Waits Stands (Left ruling) s step)
    (never : (ruling : Times) (s : State) → Left ruling zero s → ⊥)
    (again : (s : State) → Stands s → Stands (ready_core s))
    (costs : (step : Step) (later : List Step) → more later ≤ more (step ∷ later))
    (across :
    (s : State) (ruling : Times) (step : Step) (later : List Step) (n : ℕ) →
    TimedLink site s ruling step →
    step.changed ≡ true →
    Stands s →
    Left ruling n s →
    (m : ℕ) × (m + more later ≤ n + more (step ∷ later)) × Left step.ruling m (ready_core s))
    (seen : SeenReady met) where
  -- the demand stands, and so many steps are left at most
  abbrev Holds : Times → ℕ → State → Type 0
  Holds ruling n s = Stands s × Left ruling n s

  abbrev AllFit : List Step → Type 0
  AllFit = Each (λ (step : Step) later. Fits step.ruling)

  -- some step is left
  some_left : (s : State) (ruling : Times) (n : ℕ) → Left ruling n s → (m : ℕ) × (n ≡ suc m)
  some_left s ruling zero h = absurd (never ruling s h)
  some_left s ruling (suc n) h = (n, refl)

  -- what is left in the state that a step is plain from
  plain-holds :
      (s : State) (ruling : Times) (step : Step) (later : List Step) (n : ℕ) →
      TimedLink site s ruling step →
      Holds ruling n s →
      (m : ℕ) × (m + more later ≤ n + more (step ∷ later)) × Holds step.ruling m (plain_from step.changed s)
  plain-holds s ruling step later n link w = by step.changed refl
    where
      by : (c : Bool) → step.changed ≡ c → (m : ℕ) × (m + more later ≤ n + more (step ∷ later)) × Holds step.ruling m (plain_from c s)
      by true e = let over = across s ruling step later n link e w.0 w.1 in (over.0, over.1, (again s w.0, over.2))
      by false e = (n, omega (arith, costs step later), (w.0, subst (λ (r : Times). Left r n s) (sym (link.kept e)) w.1))

  -- a step that does not meet the demand leaves it standing
  standing-after :
      (s : State) (ruling : Times) (step : Step) (n : ℕ) →
      TimedLink site s ruling step →
      (met (viewed (plain_from step.changed s) step) ≡ true) ⊎ Holds step.ruling n step.after →
      met step ≡ false →
      Holds step.ruling n step.after
  standing-after s ruling step n link first none =
      ⊎_elim
      (λ (e : met (viewed (plain_from step.changed s) step) ≡ true). absurd (never_both (truly site met seen s ruling step link e) none))
      (λ (holds : Holds step.ruling n step.after). holds)
      first

  lasts :
      (steps : List Step) (s : State) (ruling : Times) (n : ℕ) →
      TimedRun site s ruling steps →
      AllFit steps →
      Holds ruling n s →
      some_step met steps ≡ false →
      length steps < n + more steps
  unfolding some_step
  lasts [] s ruling n run fit w none = omega (arith, (some_left s ruling n w.1).1)
  lasts (step ∷ later) s ruling n run fit w none =
      let from = plain_from step.changed s in
      let plain = plain-holds s ruling step later n run.0 w in
      let left = some_left from step.ruling plain.0 plain.2.1 in
      let after =
      standing-after s ruling step left.0 run.0
      (waits-on left.0 (subst (λ (k : ℕ). Left step.ruling k from) left.1 plain.2.1)
      (goes step.ruling fit.0 from (viewed from step) run.0.plain plain.2.0))
      (or-false-left (met step) (some_step met later) none) in
      let rest =
      lasts later step.after step.ruling left.0 run.1 fit.1 after
      (or-false-right (met step) (some_step met later) none) in
      omega (arith, rest, left.1, plain.1)

  -- from a step on that meets the demand or leaves it standing
  pub from_step :
      (s : State) (ruling : Times) (step : Step) (later : List Step) (n : ℕ) →
      TimedRun site s ruling (step ∷ later) →
      AllFit later →
      (met (viewed (plain_from step.changed s) step) ≡ true) ⊎ Holds step.ruling n step.after →
      some_step met (step ∷ later) ≡ false →
      length later < n + more later
  unfolding some_step
  from_step s ruling step later n run fit first none =
      lasts later step.after step.ruling n run.1 fit
      (standing-after s ruling step n run.0 first (or-false-left (met step) (some_step met later) none))
      (or-false-right (met step) (some_step met later) none)

-- ── Within a wait ──

-- A change leaves as much as there was.
module _
    (site : Site) (met : Step → Bool) (Fits : Times → Type 0) (Stands : State → Type 0) (Left : Times → ℕ → State → Type 0)
    (goes :
    (ruling : Times) →
    Fits ruling →
    (s : State) (step : Step) →
    ValidLink (under site ruling) s step →
    Stands s →
    (met step ≡ true) ⊎ Waits Stands (Left ruling) s step)
    (never : (ruling : Times) (s : State) → Left ruling zero s → ⊥)
    (again : (s : State) → Stands s → Stands (ready_core s))
    (across :
    (s : State) (ruling : Times) (step : Step) (n : ℕ) →
    TimedLink site s ruling step →
    step.changed ≡ true →
    Left ruling n s →
    Left step.ruling n (ready_core s))
    (seen : SeenReady met) where
  -- from the step that registers it on, if no more than the wait is left in the state that it is plain from
  pub comes-before :
      (s : State) (ruling : Times) (step : Step) (between : List Step) (wait : ℕ) →
      TimedRun site s ruling (step ∷ between) →
      Each (λ (step : Step) later. Fits step.ruling) between →
      (let from = plain_from step.changed s in
      Left step.ruling wait from →
      (met (viewed from step) ≡ true) ⊎ Waits Stands (Left step.ruling) from (viewed from step) →
      ComesBefore wait met (step ∷ between))
  unfolding ComesBefore
  comes-before s ruling step between zero run fit left first none = absurd (never step.ruling (plain_from step.changed s) left)
  comes-before s ruling step between (suc n) run fit left first none =
      let rest =
      from_step site met Fits Stands Left (λ steps. 0) goes never again (λ step later. omega arith)
      (λ s ruling step later n link changed stands left. (n, omega arith, across s ruling step n link changed left))
      seen
      s
      ruling
      step
      between
      n
      run
      fit
      (waits-on n left first)
      none in
      omega (arith, rest)
