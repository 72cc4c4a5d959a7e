-- How many starts there may be until a demanded phase has started: one for each phase on the way along the ring, that phase included. A start
-- leaves fewer, and a step without one no more. Times say when an interval ends and whether a phase has a late start or an early cut-off green; the
-- way is the same.
use Prim.Native.Nat.{ℕ, ◌≤◌, ◌<◌}
use mathlib.Core.Bool.{Bool, true, false, ◌&&◌}
use mathlib.Core.List.{List}
use mathlib.Core.Logic.{⊎_elim}
use mathlib.Core.Path.{◌≡◌, refl, ap}
use native.Mathlib.Omega.{arith}
use lib.Dec.{eqb}
use Rattle.rules.specs.declared.site.Site.{Site}
use Rattle.rules.specs.declared.site.Times.{Times}
use Rattle.rules.specs.declared.state.Interval.{Interval}
use Rattle.rules.specs.declared.state.Interval.TheVariants.{StartRed, LateStart, MinimumGreen, Running, EarlyCutOff, Yellow, AllRed}
use Rattle.rules.specs.declared.state.Position.{Position}
use Rattle.rules.specs.declared.state.State.{State}
use Rattle.std.specs.Prelude.{if◌then◌else◌, Option, Some, None}
use Rattle.rules.specs.Site.{phase_times}
use Rattle.rules.specs.IntervalTable.{is_before_start, is_leaving, phase_held}
use Rattle.rules.specs.Demands.{demanded, next_demanded}
use Rattle.rules.specs.Interval.{following, entering, starting, staying}
use Rattle.rules.specs.Step.{stepped}
use Rattle.rules.specs.Laws.{Sound}
use Rattle.rules.specs.OnceEach.{is_first}
use Rattle.laws.proofs.Booleans.{never_both}
use Rattle.laws.proofs.Indices.{same-or-apart}
use Rattle.laws.proofs.Sums.{sum-within}
use Rattle.proof_runs.proofs.ValidStates.{ValidState, leaving-target}
use Rattle.proof_runs.proofs.Steps.{position-of}
use Rattle.proof_runs.proofs.Ends.{by-early, by_end, running-ends}
use Rattle.proof_waits.proofs.Paths.{ring_in, ahead, onward, onward-some, ahead_apart, ahead-most, onward-most, onward-own, next-near}

-- a phase starts between the two intervals
abbrev pub starts_between : Interval → Interval → Bool
starts_between i j = is_before_start i && is_first j

-- an interval that goes on starts none
pub none_stays : (i : Interval) → starts_between i i ≡ false
unfolding is_first
none_stays StartRed = refl
none_stays LateStart = refl
none_stays MinimumGreen = refl
none_stays Running = refl
none_stays EarlyCutOff = refl
none_stays Yellow = refl
none_stays AllRed = refl

-- ── The starts that are left ──

-- the weight of a phase: its start
abbrev pub one : ℕ → ℕ
one p = 1

module _ (phases : List ℕ) (q : ℕ) where
  -- from the start of phase t on, and from the end of phase p on
  abbrev pub from_start : ℕ → ℕ
  from_start = ahead one phases q 1

  abbrev pub from_end : ℕ → ℕ
  from_end = onward one phases q 1

  -- another phase and q itself
  pub other-some : (t : ℕ) → (t ≡ q → ⊥) → 2 ≤ from_start t
  other-some t other = omega (arith, ahead_apart one phases q 1 t other, onward-some one phases q 1 t)

  -- in an interval of a phase
  unfoldable pub starts_in : Interval → ℕ → Option ℕ → ℕ
  starts_in StartRed phase target = from_start phase
  starts_in LateStart phase target = from_end phase
  starts_in MinimumGreen phase target = from_end phase
  starts_in Running phase target = from_end phase
  starts_in EarlyCutOff phase target = from_start (phase_held target)
  starts_in Yellow phase target = from_start (phase_held target)
  starts_in AllRed phase target = from_start (phase_held target)

  abbrev pub starts_left : Position → ℕ
  starts_left position = starts_in position.interval position.phase position.target

  -- ── From one position to the next ──

  -- From interval i of a position to the position now: a phase that starts was the next on the way, which now goes on from its end.
  pub record Way (i : Interval) (position now : Position) : Type 0 where
    pub starts :
        starts_between i now.interval ≡ true →
        (starts_in i position.phase position.target ≡ from_start now.phase) × (starts_left now ≡ from_end now.phase)
    pub quiet : starts_between i now.interval ≡ false → starts_left now ≤ starts_in i position.phase position.target

  -- no phase starts
  none-starts :
      (i : Interval) (position now : Position) →
      starts_between i now.interval ≡ false →
      starts_left now ≤ starts_in i position.phase position.target →
      Way i position now
  none-starts i position now none most = record { starts = λ h. absurd (never_both h none); quiet = λ h. most }

  -- phase t starts
  one-starts :
      (i : Interval) (position : Position) (times : Times) (t : ℕ) (previous : Option ℕ) →
      is_before_start i ≡ true →
      starts_in i position.phase position.target ≡ from_start t →
      Way i position (starting times t previous)
  unfolding starting starts_in is_first
  one-starts i position times t previous before e = by (eqb (phase_times times t).late 0)
    where
      by :
          (b : Bool) →
          Way i position (record { phase = t; interval = if b then MinimumGreen else LateStart; age = 1; previous = previous; target = None })
      by true = record { starts = λ h. (e, refl); quiet = λ h. absurd (never_both (rw before) h) }
      by false = record { starts = λ h. (e, refl); quiet = λ h. absurd (never_both (rw before) h) }

  following-way :
      (i : Interval) (times : Times) (next : Option ℕ) (position : Position) →
      (i ≡ Running → from_start (phase_held next) ≤ from_end position.phase) →
      Way i position (following i times next position)
  unfolding following entering starts_in is_first
  following-way StartRed times next position near = one-starts StartRed position times position.phase position.previous refl refl
  following-way LateStart times next position near = none-starts LateStart position (entering MinimumGreen None position) refl (omega arith)
  following-way MinimumGreen times next position near = none-starts MinimumGreen position (entering Running None position) refl (omega arith)
  following-way Running times next position near =
      by-early (λ (p : Position). Way Running position p) times next position
      (λ skipped. none-starts Running position (entering Yellow next position) refl (near refl))
      (λ some. none-starts Running position (entering EarlyCutOff next position) refl (near refl))
  following-way EarlyCutOff times next position near =
      none-starts EarlyCutOff position (entering Yellow position.target position) refl (omega arith)
  following-way Yellow times next position near = none-starts Yellow position (entering AllRed position.target position) refl (omega arith)
  following-way AllRed times next position near =
      one-starts AllRed position times (phase_held position.target) (Some position.phase) refl refl

  staying-way : (position : Position) → Way position.interval position (staying position)
  unfolding staying
  staying-way position = none-starts position.interval position (staying position) (none_stays position.interval) (omega arith)

-- ── A step in which phase q is demanded ──

pub step-way :
    (site : Site) (q : ℕ) →
    Sound site →
    q < site.size.phases →
    (s : State) (inputs : ℕ) →
    s.position.phase < site.size.phases →
    demanded site s inputs q ≡ true →
    Way (ring_in site) q s.position.interval s.position (stepped site s inputs).position
step-way site q sound below s inputs here d =
    rw (position-of site s inputs)
    (by_end site s inputs (λ (p : Position). Way (ring_in site) q s.position.interval s.position p)
    (λ over.
    following-way (ring_in site) q s.position.interval site.times (next_demanded site s inputs) s.position
    (λ running. next-near site q sound below s inputs d one 1 here (running-ends site s inputs running over)))
    (λ still. staying-way (ring_in site) q s.position))

-- ── At most one for each phase ──

module _ (site : Site) (q : ℕ) (sound : Sound site) (below : q < site.size.phases) where
  start-most : (t : ℕ) → t < site.size.phases → from_start (ring_in site) q t ≤ site.size.phases
  start-most t l =
      omega (
        arith,
        ahead-most site q sound below one 1 t l,
        sum-within one site.size.phases 1 (λ i h. omega arith),
      )

  end-most : (p : ℕ) → p < site.size.phases → from_end (ring_in site) q p ≤ site.size.phases
  end-most p l =
      let phases = sum-within one site.size.phases 1 (λ i h. omega arith) in
      ⊎_elim
      (λ (same : p ≡ q). rw same (omega (arith, onward-own site q sound below one 1, phases)))
      (λ (other : p ≡ q → ⊥). omega (arith, onward-most site q sound below one 1 p l other, phases))
      (same-or-apart p q)

  pub starts-most : (s : State) → ValidState site s → starts_left (ring_in site) q s.position ≤ site.size.phases
  unfolding starts_in
  starts-most s v = by s.position.interval refl
    where
      target : is_leaving s.position.interval ≡ true → from_start (ring_in site) q (phase_held s.position.target) ≤ site.size.phases
      target h = start-most (phase_held s.position.target) (leaving-target site s v h)

      by :
          (i : Interval) →
          s.position.interval ≡ i →
          starts_in (ring_in site) q i s.position.phase s.position.target ≤ site.size.phases
      by StartRed e = start-most s.position.phase v.phase
      by LateStart e = end-most s.position.phase v.phase
      by MinimumGreen e = end-most s.position.phase v.phase
      by Running e = end-most s.position.phase v.phase
      by EarlyCutOff e = target (ap is_leaving e)
      by Yellow e = target (ap is_leaving e)
      by AllRed e = target (ap is_leaving e)
