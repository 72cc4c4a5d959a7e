-- A locked demand of phase q: once q has started only its late start is left, in which nothing starts.
use Prim.Native.Nat.{ℕ, ◌≤◌, ◌<◌}
use mathlib.Core.Bool.{true, false}
use mathlib.Core.Logic.{◌⊎◌, inl, inr, ⊎_elim}
use mathlib.Core.Path.{◌≡◌, refl}
use native.Mathlib.Omega.{arith}
use Rattle.rules.specs.declared.site.Site.{Site}
use Rattle.rules.specs.declared.state.Interval.{Interval}
use Rattle.rules.specs.declared.state.Interval.TheVariants.{StartRed, LateStart, MinimumGreen, Running, EarlyCutOff, Yellow, AllRed}
use Rattle.rules.specs.declared.state.Position.{Position}
use Rattle.rules.specs.declared.state.State.{State}
use Rattle.rules.specs.IntervalTable.{is_before_start, is_green}
use Rattle.rules.specs.State.{locked}
use Rattle.rules.specs.Demands.{registers_lock}
use Rattle.rules.specs.Interval.{following, entering, staying}
use Rattle.rules.specs.Step.{stepped}
use Rattle.rules.specs.Laws.{Sound}
use Rattle.rules.specs.Runs.{Step}
use Rattle.rules.specs.DemandThree.{minimum_green_begins}
use Rattle.rules.specs.OnceEach.{is_first, some_starts}
use Rattle.laws.proofs.Booleans.{and_right, or_left, or_right, decided, never_both}
use Rattle.proof_runs.proofs.Chains.{ValidLink}
use Rattle.proof_runs.proofs.Demanded.{lock-demands}
use Rattle.proof_runs.proofs.Ends.{next-in}
use Rattle.proof_runs.proofs.Steps.{ended, locked_now}
use Rattle.proof_waits.proofs.Away.{AwayAt}
use Rattle.proof_waits.proofs.Demand.{Waits, standing_on}
use Rattle.proof_waits.proofs.Locked.{LockStands, lock-registers-by, lock-goes-by}
use Rattle.proof_waits.proofs.Paths.{ring_in}
use Rattle.proof_once.proofs.Ways.{starts_left, step-way}
use Rattle.proof_once.proofs.Nears.{Near, Nears, last-nears, way-nears}

-- the phase is in late start
abbrev pub InLate : ℕ → Position → Type 0
InLate q position = (position.interval ≡ LateStart) × (position.phase ≡ q)

late-told : (i : Interval) → is_first i ≡ true → is_green i ≡ false → i ≡ LateStart
unfolding is_first
late-told StartRed h g = absurd (never_both h refl)
late-told LateStart h g = refl
late-told MinimumGreen h g = absurd (never_both refl g)
late-told Running h g = absurd (never_both h refl)
late-told EarlyCutOff h g = absurd (never_both h refl)
late-told Yellow h g = absurd (never_both h refl)
late-told AllRed h g = absurd (never_both h refl)

module _ (site : Site) (q : ℕ) where
  abbrev pub LockNear : ℕ → State → Type 0
  LockNear = Near (ring_in site) q (minimum_green_begins q) (LockStands q) (InLate q)

  abbrev pub LockNears : ℕ → Step → Type 0
  LockNears = Nears (ring_in site) q (minimum_green_begins q) (LockStands q) (InLate q)

  module _ (sound : Sound site) (below : q < site.size.phases) (s : State) (step : Step) (link : ValidLink site s step) where
    -- the late start goes on, or minimum green follows
    late-on : InLate q s.position → AwayAt q (stepped site s step.inputs).position → InLate q (stepped site s step.inputs).position
    unfolding following entering staying
    late-on late away =
        ⊎_elim
        (λ (e : ended site s step.inputs ≡ true).
        absurd (never_both refl ((rw (next-in site s step.inputs LateStart late.0 true e) at away) late.1)))
        (λ (e : ended site s step.inputs ≡ false). rw (next-in site s step.inputs LateStart late.0 false e) late)
        (decided (ended site s step.inputs))

    nears :
        (n : ℕ) →
        locked_now site s step.inputs q ≡ true →
        (minimum_green_begins q step ≡ true) ⊎ Waits (LockStands q) (λ n s. Unit {0}) s step →
        (starts_left (ring_in site) q s.position ≤ n) ⊎ InLate q s.position →
        LockNears n step
    unfolding some_starts
    nears n standing goes (inl most) =
        way-nears (ring_in site) q (minimum_green_begins q) (LockStands q) (InLate q) n step
        (rw (link.taken.before, link.taken.after)
        (step-way site q sound below s step.inputs link.here.phase
        (lock-demands site s step.inputs q (omega (arith, sound.phases)) standing)))
        (rw link.taken.before most)
        (standing_on goes)
        (λ stands h same.
        (late-told step.after.position.interval (and_right (is_before_start step.before.position.interval) _ h) (stands.away same), same))
    nears n standing goes (inr late) =
        last-nears (ring_in site) q (minimum_green_begins q) (LockStands q) (InLate q) n step (rw (link.taken.before, late.0))
        (standing_on goes)
        (λ stands. rw link.taken.after (late-on late (rw link.taken.after at stands.away)))

    pub lock-nears : (n : ℕ) → LockNear n s → LockNears n step
    unfolding locked_now
    lock-nears n near =
        nears n (or_left (registers_lock site s step.inputs q) near.stands.locked)
        (lock-goes-by site sound q below (λ n s. Unit {0}) s step link (λ d away none n left. left) near.stands)
        near.bound

    -- from the step that registers it on
    pub lock-first : registers_lock site s step.inputs q ≡ true → LockNears (starts_left (ring_in site) q s.position) step
    unfolding locked_now
    lock-first r =
        nears (starts_left (ring_in site) q s.position) (or_right (locked s q) r)
        (lock-registers-by site sound q below (λ n s. Unit {0}) s step link (λ d away none n left. left) r)
        (inl (omega arith))
