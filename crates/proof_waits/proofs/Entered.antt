-- A fact of runs: late start and early cut-off green are entered only if their time is above 0.
use Prim.Native.Nat.{ℕ, ◌≤◌}
use mathlib.Core.Bool.{Bool, true, false}
use mathlib.Core.Path.{◌≡◌, refl, sym, ◌∙◌}
use native.Mathlib.Omega.{arith}
use lib.Dec.{eqb}
use borrow.Author.Tests.{leb-false, eqb-false}
use Rattle.rules.specs.declared.site.PhaseTimes.{PhaseTimes}
use Rattle.rules.specs.declared.site.Site.{Site}
use Rattle.rules.specs.declared.state.Interval.{Interval}
use Rattle.rules.specs.declared.state.Interval.TheVariants.{StartRed, LateStart, MinimumGreen, Running, EarlyCutOff, Yellow, AllRed}
use Rattle.rules.specs.declared.state.Position.{Position}
use Rattle.rules.specs.declared.state.State.{State}
use Rattle.std.specs.Prelude.{if◌then◌else◌, Option}
use Rattle.rules.specs.Site.{phase_times}
use Rattle.rules.specs.IntervalTable.{phase_held, is_before_start}
use Rattle.rules.specs.Demands.{next_demanded}
use Rattle.rules.specs.Interval.{ends, following, entering, starting, staying}
use Rattle.rules.specs.Step.{stepped}
use Rattle.laws.proofs.Booleans.{never_both}
use Rattle.proof_runs.proofs.Steps.{times_now, ended, position-of}
use Rattle.proof_runs.proofs.Ends.{by-early, by_end, ended-in}

abbrev pub EnteredIn : Interval → PhaseTimes → Type 0
EnteredIn StartRed times = Unit {0}
EnteredIn LateStart times = 1 ≤ times.late
EnteredIn MinimumGreen times = Unit {0}
EnteredIn Running times = Unit {0}
EnteredIn EarlyCutOff times = 1 ≤ times.early
EnteredIn Yellow times = Unit {0}
EnteredIn AllRed times = Unit {0}

abbrev EnteredAt : Site → Position → Type 0
EnteredAt site position = EnteredIn position.interval (phase_times site.times position.phase)

abbrev pub Entered : Site → State → Type 0
Entered site s = EnteredAt site s.position

-- before a start there is nothing to tell
pub before-entered : (i : Interval) (times : PhaseTimes) → is_before_start i ≡ true → EnteredIn i times
before-entered StartRed times h = tt
before-entered LateStart times h = absurd (never_both h refl)
before-entered MinimumGreen times h = tt
before-entered Running times h = tt
before-entered EarlyCutOff times h = absurd (never_both h refl)
before-entered Yellow times h = tt
before-entered AllRed times h = tt

start-entered : (times : PhaseTimes) (b : Bool) → eqb times.late 0 ≡ b → EnteredIn (if b then MinimumGreen else LateStart) times
start-entered times true e = tt
start-entered times false e = omega (arith, eqb-false times.late 0 e)

following-entered : (site : Site) (i : Interval) (next : Option ℕ) (position : Position) → EnteredAt site (following i site.times next position)
unfolding following entering starting
following-entered site StartRed next position =
    start-entered (phase_times site.times position.phase) (eqb (phase_times site.times position.phase).late 0) refl
following-entered site LateStart next position = tt
following-entered site MinimumGreen next position = tt
following-entered site Running next position =
    by-early (EnteredAt site) site.times next position (λ skipped. tt) (λ some. omega (arith, some))
following-entered site EarlyCutOff next position = tt
following-entered site Yellow next position = tt
following-entered site AllRed next position =
    let times = phase_times site.times (phase_held position.target) in
    start-entered times (eqb times.late 0) refl

-- so it is after every step, whatever the state before it: an interval that goes on has a time above its age
module _ (site : Site) (s : State) (inputs : ℕ) where
  stays-entered : (i : Interval) → s.position.interval ≡ i → ended site s inputs ≡ false → EnteredIn i (times_now site s)
  unfolding ends
  stays-entered StartRed e b = tt
  stays-entered LateStart e b =
      omega (arith, leb-false (times_now site s).late s.position.age (sym (ended-in site s inputs LateStart e) ∙ b))
  stays-entered MinimumGreen e b = tt
  stays-entered Running e b = tt
  stays-entered EarlyCutOff e b =
      omega (arith, leb-false (times_now site s).early s.position.age (sym (ended-in site s inputs EarlyCutOff e) ∙ b))
  stays-entered Yellow e b = tt
  stays-entered AllRed e b = tt

  pub entered-after : Entered site (stepped site s inputs)
  unfolding staying
  entered-after =
      rw (position-of site s inputs)
      (by_end site s inputs (EnteredAt site)
      (λ over. following-entered site s.position.interval (next_demanded site s inputs) s.position)
      (λ still. stays-entered s.position.interval refl still))
