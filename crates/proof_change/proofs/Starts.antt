-- A phase starts in the next step, whatever its inputs, exactly where the step's own part 4 starts one.
use Prim.Native.Nat.{ℕ}
use mathlib.Core.Bool.{Bool, true, false, not, ◌&&◌}
use mathlib.Core.List.{List}
use lib.Dec.{leb, eqb}
use mathlib.Core.Path.{◌≡◌, refl, sym, ap, ◌∙◌}
use Rattle.rules.specs.declared.site.Site.{Site}
use Rattle.rules.specs.declared.site.Times.{Times}
use Rattle.rules.specs.declared.state.Position.{Position}
use Rattle.rules.specs.declared.state.Interval.{Interval}
use Rattle.rules.specs.declared.state.Interval.TheVariants.{StartRed, LateStart, MinimumGreen, Running, EarlyCutOff, Yellow, AllRed}
use Rattle.rules.specs.declared.state.State.{State}
use Rattle.rules.specs.IntervalTable.{is_second, is_before_start, phase_held}
use Rattle.rules.specs.Movements.{walk_may_end, movements_after}
use Rattle.rules.specs.Site.{phase_times}
use Rattle.rules.specs.declared.state.Movement.{Movement}
use Rattle.rules.specs.Interval.{some_movement, ends, starting, following, staying}
use Rattle.rules.specs.Timed.{starts_next}
use Rattle.rules.specs.TimedLaws.{starts_phase}
use Rattle.rules.specs.Step.{stepped}
use Rattle.rules.specs.Demands.{next_demanded}
use Rattle.std.specs.Prelude.{if◌then◌else◌, Option}
use Rattle.laws.proofs.Booleans.{and_left}
use Rattle.proof_runs.proofs.Steps.{ended, moving, started}
use Rattle.proof_runs.proofs.Ends.{ended-in, next-in, started-in}

and-true : (a : Bool) → (a && true) ≡ a
and-true true = refl
and-true false = refl

and_none : (a : Bool) → (a && false) ≡ false
and_none true = refl
and_none false = refl

pub starts-before : (site : Site) (s : State) → starts_next site s ≡ true → is_before_start s.position.interval ≡ true
unfolding starts_next
starts-before site s h = and_left (is_before_start s.position.interval) _ h

module _ (site : Site) (s : State) (inputs : ℕ) where
  abbrev asks : Interval → Bool
  asks i =
      ends i site.times.start (phase_times site.times s.position.phase) s.position.age false (movements_after site.times false s.movements) s.counts

  asked_in : (i : Interval) → s.position.interval ≡ i → starts_next site s ≡ (is_before_start i && asks i)
  unfolding starts_next
  asked_in i e = rw e

  none-starts : (i : Interval) → s.position.interval ≡ i → is_before_start i ≡ false → starts_next site s ≡ started site s inputs
  none-starts i e n =
      asked_in i e
      ∙ ap (λ (t : Bool). t && asks i) n
      ∙ sym (started-in site s inputs i e (ended site s inputs) refl ∙ ap (λ (t : Bool). ended site s inputs && t) n ∙ and_none (ended site s inputs))

  moving-in : s.position.interval ≡ AllRed → moving site s inputs ≡ movements_after site.times false s.movements
  unfolding moving walk_may_end
  moving-in e = rw e

  by-interval : (i : Interval) → s.position.interval ≡ i → starts_next site s ≡ started site s inputs
  unfolding ends
  by-interval StartRed e =
      asked_in StartRed e
      ∙ sym (started-in site s inputs StartRed e (ended site s inputs) refl ∙ and-true (ended site s inputs) ∙ ended-in site s inputs StartRed e)
  by-interval LateStart e = none-starts LateStart e refl
  by-interval MinimumGreen e = none-starts MinimumGreen e refl
  by-interval Running e = none-starts Running e refl
  by-interval EarlyCutOff e = none-starts EarlyCutOff e refl
  by-interval Yellow e = none-starts Yellow e refl
  by-interval AllRed e =
      asked_in AllRed e
      ∙ sym
      (started-in site s inputs AllRed e (ended site s inputs) refl
      ∙ and-true (ended site s inputs)
      ∙ ended-in site s inputs AllRed e
      ∙ ap (λ (m : List Movement). leb (phase_times site.times s.position.phase).red s.position.age && not (some_movement is_second m)) (moving-in e))

  pub starts-is-started : starts_next site s ≡ started site s inputs
  starts-is-started = by-interval s.position.interval refl

-- ── What the states before and after the step show of it ──

-- the interval that follows start red or all-red is neither
pub follows : (i : Interval) (times : Times) (next : Option ℕ) (position : Position) → (is_before_start i && not (is_before_start (following i times next position).interval)) ≡ is_before_start i
unfolding following starting
follows StartRed times next position = begins (eqb (phase_times times position.phase).late 0)
  where
    begins : (t : Bool) → not (is_before_start (if t then MinimumGreen else LateStart)) ≡ true
    begins true = refl
    begins false = refl
follows LateStart times next position = refl
follows MinimumGreen times next position = refl
follows Running times next position = refl
follows EarlyCutOff times next position = refl
follows Yellow times next position = refl
follows AllRed times next position = begins (eqb (phase_times times (phase_held position.target)).late 0)
  where
    begins : (t : Bool) → not (is_before_start (if t then MinimumGreen else LateStart)) ≡ true
    begins true = refl
    begins false = refl

and-not : (a : Bool) → (a && not a) ≡ false
and-not true = refl
and-not false = refl

pub starts-shown : (site : Site) (s : State) (inputs : ℕ) → starts_phase s (stepped site s inputs) ≡ starts_next site s
unfolding staying
starts-shown site s inputs = by (ended site s inputs) refl ∙ sym (starts-is-started site s inputs)
  where
    i : Interval
    i = s.position.interval

    by : (t : Bool) → ended site s inputs ≡ t → starts_phase s (stepped site s inputs) ≡ started site s inputs
    by true h = rw (next-in site s inputs i refl true h, started-in site s inputs i refl true h) (follows i site.times (next_demanded site s inputs) s.position)
    by false h = rw (next-in site s inputs i refl false h, started-in site s inputs i refl false h) (and-not (is_before_start i))
