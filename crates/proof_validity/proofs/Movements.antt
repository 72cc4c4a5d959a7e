-- Every movement record after part 2 is valid at the position after part 4. Running ends with no movement in walk or C1, and
-- all-red with none in C2 either, so that all are idle when the phase changes.
use Rattle.std.specs.Prelude.{Option, Some, None}
use Prim.Native.Nat.{ℕ, ◌<◌}
use mathlib.Core.Bool.{true, false, false≢true}
use mathlib.Core.Path.{◌≡◌, refl, sym, ap, ◌∙◌}
use lib.Dec.{leb}
use borrow.Author.Tests.{not-true}
use Rattle.rules.specs.declared.site.Site.{Site}
use Rattle.rules.specs.declared.site.Times.{Times}
use Rattle.rules.specs.declared.state.Interval.{Interval}
use Rattle.rules.specs.declared.state.Interval.TheVariants.{StartRed, LateStart, MinimumGreen, Running, EarlyCutOff, Yellow, AllRed}
use Rattle.rules.specs.declared.state.Movement.{Movement}
use Rattle.rules.specs.declared.state.Position.{Position}
use Rattle.rules.specs.declared.state.Stage.{Stage}
use Rattle.rules.specs.declared.state.State.{State}
use Rattle.rules.specs.Site.{walk_times}
use Rattle.rules.specs.IntervalTable.{is_idle, is_walk_or_first, is_second, is_start_red, is_leaving, phase_held}
use Rattle.rules.specs.State.{movement}
use Rattle.rules.specs.Demands.{next_demanded}
use Rattle.rules.specs.Interval.{ends, entering, starting, following, staying}
use Rattle.laws.proofs.Booleans.{and_left, and_right, never_both}
use Rattle.proof_runs.proofs.ValidStates.{ValidMovement, ValidState}
use Rattle.proof_runs.proofs.Steps.{times_now, another, may_end, ended, now, moved}
use Rattle.proof_runs.proofs.Ends.{by-early, by_end, ended-in, none-moved}
use Rattle.proof_validity.proofs.Stages.{cleared-idle, idle-valid, advanced-valid}

-- what the end of an interval tells of a movement's stage
record Cleared (interval : Interval) (stage : Stage) : Type 0 where
  running : interval ≡ Running → is_walk_or_first stage ≡ false
  all_red : interval ≡ AllRed → is_second stage ≡ false

ended-cleared :
    (site : Site) (s : State) (inputs : ℕ) →
    ended site s inputs ≡ true →
    (k : ℕ) →
    k < 8 →
    Cleared s.position.interval (moved site s inputs k).stage
unfolding ends
ended-cleared site s inputs over k l =
    record {
      running = λ e.
          none-moved site s inputs is_walk_or_first
          (not-true _ (and_right (another site s inputs) _ (and_left _ _ (sym (ended-in site s inputs Running e) ∙ over))))
          k
          l;
      all_red = λ e.
          none-moved site s inputs is_second
          (not-true _ (and_right (leb (times_now site s).red s.position.age) _ (sym (ended-in site s inputs AllRed e) ∙ over)))
          k
          l;
    }

module _
    (site : Site)
    (times : Times)
    (next : Option ℕ)
    (position : Position)
    (k : ℕ)
    (m : Movement)
    (v : ValidMovement site position k m)
  where
    -- the phase goes on in another interval
    entered-valid :
        (interval : Interval) (target : Option ℕ) →
        is_start_red interval ≡ false →
        (is_leaving interval ≡ true → is_walk_or_first m.stage ≡ false) →
        ValidMovement site (entering interval target position) k m
    unfolding entering
    entered-valid interval target s h =
        record { age = v.age; of_phase = v.of_phase; leaving = h; start_red = λ q. absurd (never_both q s); idle_age = v.idle_age }

    -- the interval ends
    following-movement :
        (interval : Interval) →
        position.interval ≡ interval →
        Cleared interval m.stage →
        ValidMovement site (following interval times next position) k m
    unfolding following
    following-movement StartRed e c =
        let i : is_idle m.stage ≡ true = v.start_red (ap is_start_red e) in
        idle-valid site (starting times position.phase position.previous) k m i (v.idle_age i)
    following-movement LateStart e c = entered-valid MinimumGreen None refl (λ q. absurd (false≢true q))
    following-movement MinimumGreen e c = entered-valid Running None refl (λ q. absurd (false≢true q))
    following-movement Running e c =
        by-early (λ (p : Position). ValidMovement site p k m) times next position
        (λ none. entered-valid Yellow next refl (λ q. c.running refl))
        (λ some. entered-valid EarlyCutOff next refl (λ q. c.running refl))
    following-movement EarlyCutOff e c = entered-valid Yellow position.target refl (λ q. v.leaving (ap is_leaving e))
    following-movement Yellow e c = entered-valid AllRed position.target refl (λ q. v.leaving (ap is_leaving e))
    following-movement AllRed e c =
        let i : is_idle m.stage ≡ true = cleared-idle m.stage (v.leaving (ap is_leaving e)) (c.all_red refl) in
        idle-valid site (starting times (phase_held position.target) (Some position.phase)) k m i (v.idle_age i)

    -- it stays
    staying-movement : ValidMovement site (staying position) k m
    unfolding staying
    staying-movement = record { age = v.age; of_phase = v.of_phase; leaving = v.leaving; start_red = v.start_red; idle_age = v.idle_age }

-- movement k after part 2 is valid at the position after part 4
pub moved-valid :
    (site : Site) (s : State) (inputs k : ℕ) →
    k < 8 →
    ValidState site s →
    ValidMovement site (now site s inputs) k (moved site s inputs k)
unfolding moved
moved-valid site s inputs k l v =
    let m = moved site s inputs k in
    let next = next_demanded site s inputs in
    let kept = advanced-valid site s.position k (may_end site s inputs) (movement s k).stage (walk_times site.times k) (movement s k).age (v.movements k l) in
    by_end site s inputs (λ (p : Position). ValidMovement site p k m)
    (λ over.
    following-movement site site.times next s.position k m kept s.position.interval refl
    (ended-cleared site s inputs over k l))
    (λ still. staying-movement site site.times next s.position k m kept)
