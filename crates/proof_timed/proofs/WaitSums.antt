-- The waits through changes of times: through no change they are those of the times that rule, and through changes they are at most the wait bound
-- plus that of each change.
use Prim.Native.Nat.{ℕ, ◌+◌, ◌≤◌, ◌<◌, max}
use mathlib.Core.Bool.{Bool, true, false, not}
use mathlib.Core.List.{List, [], ◌∷◌, ◌++◌}
use mathlib.Core.Logic.{⊎_elim}
use mathlib.Core.Path.{◌≡◌, refl, ap}
use native.Mathlib.Omega.{arith}
use lib.Dec.{eqb}
use borrow.Author.Tests.{not-true}
use Rattle.rules.specs.declared.site.Site.{Site}
use Rattle.rules.specs.declared.site.Times.{Times}
use Rattle.rules.specs.declared.state.State.{State}
use Rattle.std.specs.Prelude.{if◌then◌else◌}
use Rattle.rules.specs.Site.{phase_times, crosses}
use Rattle.rules.specs.SiteTimes.{under}
use Rattle.rules.specs.WaitBound.{wait_bound}
use Rattle.rules.specs.Waits.{turn_of, rest_of, phase_wait_by, movement_wait_by, phase_wait, movement_wait}
use Rattle.rules.specs.Laws.{Sound}
use Rattle.rules.specs.Runs.{Step, site_after}
use Rattle.rules.specs.DemandThree.{minimum_green_begins, walk_begins, changed_waits}
use Rattle.rules.specs.PhaseWaits.{greatest_among, turn_through, late_through, phase_wait_through, movement_wait_through, none_changes, ComesBefore, WaitsMet, PlainWaitsMet, WithinSum}
use Rattle.laws.proofs.Booleans.{and_left, and_right, decided}
use Rattle.laws.proofs.Sums.{sum-most, sum_both}
use Rattle.proof_waits.proofs.WithinBound.{phase-wait-within, movement-wait-within}
use Rattle.proof_timed.proofs.Induction.{TimedRun, part}

-- ── One turn of each phase but q ──

module _ (site : Site) (q : ℕ) where
  -- by turns that are no longer
  rest-most : (turn turn' : ℕ → ℕ) → ((p : ℕ) → turn p ≤ turn' p) → rest_of site turn q ≤ rest_of site turn' q
  unfolding rest_of
  rest-most turn turn' most =
      sum-most (λ p. if eqb p q then 0 else turn p) (λ p. if eqb p q then 0 else turn' p) site.size.phases (λ p l. by (eqb p q) p)
    where
      by : (b : Bool) (p : ℕ) → (if b then 0 else turn p) ≤ (if b then 0 else turn' p)
      by true p = omega arith
      by false p = most p

  -- by the turns of two together
  rest_both : (turn turn' : ℕ → ℕ) → rest_of site (λ p. turn p + turn' p) q ≡ rest_of site turn q + rest_of site turn' q
  unfolding rest_of
  rest_both turn turn' =
      sum_both (λ p. if eqb p q then 0 else turn p) (λ p. if eqb p q then 0 else turn' p) (λ p. if eqb p q then 0 else turn p + turn' p)
      site.size.phases
      (λ p. by (eqb p q) p)
    where
      by : (b : Bool) (p : ℕ) → (if b then 0 else turn p + turn' p) ≡ (if b then 0 else turn p) + (if b then 0 else turn' p)
      by true p = omega arith
      by false p = refl

-- ── Through no change ──

-- the same times rule all the while
greatest-same :
    (site : Site) (number : Times → ℕ) (steps : List Step) (s : State) (ruling : Times) →
    TimedRun site s ruling steps →
    none_changes steps ≡ true →
    greatest_among number steps ≤ number ruling
unfolding greatest_among none_changes
greatest-same site number [] s ruling run none = omega arith
greatest-same site number (step ∷ later) s ruling run none =
    let kept : step.ruling ≡ ruling = run.0.kept (not-true step.changed (and_left (not step.changed) (none_changes later) none)) in
    let rest =
    greatest-same site number later step.after step.ruling run.1 (and_right (not step.changed) (none_changes later) none) in
    omega (arith, rest, ap number kept)

module _
    (site : Site) (s : State) (ruling : Times) (step : Step) (between : List Step)
    (run : TimedRun site s ruling (step ∷ between)) (none : none_changes between ≡ true) where
  among : (number : Times → ℕ) → greatest_among number (step ∷ between) ≤ number step.ruling
  unfolding greatest_among
  among number = omega (arith, greatest-same site number between step.after step.ruling run.1 none)

  rest_plain : (q : ℕ) → rest_of site (turn_through site step between) q ≤ rest_of site (turn_of (site_after site step)) q
  unfolding turn_through
  rest_plain q = rest-most site q (turn_through site step between) (turn_of (site_after site step)) (λ p. among (λ times. turn_of (under site times) p))

  phase-plain : (q : ℕ) → phase_wait_through site step between q ≤ phase_wait (site_after site step) q
  unfolding phase_wait_by rest_of late_through
  phase-plain q = omega (arith, rest_plain q, among (λ times. (phase_times times q).late))

  movement-plain : (q m : ℕ) → movement_wait_through site step between q m ≤ movement_wait (site_after site step) q m
  unfolding movement_wait_by rest_of
  movement-plain q m = omega (arith, rest_plain q)

comes-earlier : (wait wait' : ℕ) (met : Step → Bool) (steps : List Step) → wait ≤ wait' → ComesBefore wait met steps → ComesBefore wait' met steps
unfolding ComesBefore
comes-earlier wait wait' met steps less comes none = omega (arith, comes none)

-- ── Through changes ──

module _ (site : Site) (q : ℕ) (late : Times → ℕ) where
  abbrev turn_by : Times → ℕ → ℕ
  turn_by times p = turn_of (under site times) p

  -- the greatest turns among these times and those of the steps
  abbrev turns : Times → List Step → ℕ → ℕ
  turns ruling steps p = max (turn_by ruling p) (greatest_among (λ times. turn_by times p) steps)

  sum_through :
      ((times : Times) → Sound (under site times) → late times + rest_of site (turn_by times) q ≤ wait_bound (under site times)) →
      (steps : List Step) (s : State) (ruling : Times) →
      TimedRun site s ruling steps →
      max (late ruling) (greatest_among late steps) + rest_of site (turns ruling steps) q
      ≤ late ruling + rest_of site (turn_by ruling) q + changed_waits site steps
  unfolding greatest_among changed_waits
  sum_through within [] s ruling run = omega (arith, rest-most site q (turns ruling []) (turn_by ruling) (λ p. omega arith))
  sum_through within (step ∷ later) s ruling run =
      let rest = sum_through within later step.after step.ruling run.1 in
      ⊎_elim
      (λ (e : step.changed ≡ true).
      rw e
      (omega (
        arith,
        rest,
        within step.ruling run.0.plain.sound,
        rest-most site q (turns ruling (step ∷ later)) (λ p. turn_by ruling p + turns step.ruling later p) (λ p. omega arith),
        rest_both site q (turn_by ruling) (turns step.ruling later),
      )))
      (λ (e : step.changed ≡ false).
      let kept = run.0.kept e in
      rw e
      (omega (
        arith,
        rest,
        ap late kept,
        ap (λ (times : Times). rest_of site (turn_by times) q) kept,
        rest-most site q (turns ruling (step ∷ later)) (turns step.ruling later) (λ p. omega (arith, ap (λ (times : Times). turn_by times p) kept)),
      )))
      (decided step.changed)

module _
    (site : Site) (s : State) (ruling : Times) (step : Step) (between : List Step)
    (run : TimedRun site s ruling (step ∷ between)) (q : ℕ) (below : q < site.size.phases) where
  abbrev now : Site
  now = site_after site step

  -- the late start and the turns of any times are within their bound
  times-within : (times : Times) → Sound (under site times) → (phase_times times q).late + rest_of site (turn_of (under site times)) q ≤ wait_bound (under site times)
  unfolding phase_wait_by rest_of
  times-within times sound = omega (arith, phase-wait-within (under site times) sound q below)

  phase-sum : phase_wait_through site step between q ≤ wait_bound now + changed_waits site between
  unfolding phase_wait_by rest_of turn_through late_through greatest_among
  phase-sum =
      omega (
        arith,
        sum_through site q (λ times. (phase_times times q).late) times-within between step.after step.ruling run.1,
        phase-wait-within now run.0.plain.sound q below,
      )

  movement-sum :
      (m : ℕ) →
      m < site.size.movements →
      crosses site.crossings m q ≡ true →
      movement_wait_through site step between q m ≤ wait_bound now + changed_waits site between
  unfolding movement_wait_by rest_of turn_through greatest_among
  movement-sum m exists crossing =
      omega (
        arith,
        sum_through site q (λ times. 0) (λ times sound. omega (arith, times-within times sound)) between step.after step.ruling run.1,
        movement-wait-within now run.0.plain.sound q below m exists crossing,
      )

-- ── Over a run ──

module _ (site : Site) (s : State) (ruling : Times) (steps : List Step) (run : TimedRun site s ruling steps) where
  pub waits-within-sum : WithinSum site steps
  unfolding WithinSum
  waits-within-sum earlier between later step e q below =
      let cut = part site s ruling steps run earlier between later step e in (
        phase-sum site cut.0 cut.1 step between cut.2 q below,
        movement-sum site cut.0 cut.1 step between cut.2 q below,
      )

  pub plain-waits-met : WaitsMet site steps → PlainWaitsMet site steps
  unfolding WaitsMet PlainWaitsMet
  plain-waits-met met =
      record {
        lasting = λ earlier between later step e q below off all none.
            plain-phase earlier between later step e q none (met.lasting earlier between later step e q below off all);
        locks = λ earlier between later step e q r none.
            plain-phase earlier between later step e q none (met.locks earlier between later step e q r);
        buttons = λ earlier between later step e q m exists crossing r none.
            let cut = part site s ruling steps run earlier between later step e in
            comes-earlier (movement_wait_through site step between q m) (movement_wait (site_after site step) q m) (walk_begins m) (step ∷ between)
            (movement-plain site cut.0 cut.1 step between cut.2 none q m)
            (met.buttons earlier between later step e q m exists crossing r);
      }
    where
      plain-phase :
          (earlier between later : List Step) (step : Step) →
          steps ≡ earlier ++ step ∷ (between ++ later) →
          (q : ℕ) →
          none_changes between ≡ true →
          ComesBefore (phase_wait_through site step between q) (minimum_green_begins q) (step ∷ between) →
          ComesBefore (phase_wait (site_after site step) q) (minimum_green_begins q) (step ∷ between)
      plain-phase earlier between later step e q none =
          let cut = part site s ruling steps run earlier between later step e in
          comes-earlier (phase_wait_through site step between q) (phase_wait (site_after site step) q) (minimum_green_begins q) (step ∷ between)
          (phase-plain site cut.0 cut.1 step between cut.2 none q)
