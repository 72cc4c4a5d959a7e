-- Red for ever: the steps are those of the controller with other colours, so what does not look at colours holds of them, and nothing is green. So demand 3
-- holds. That lamps are not served, by this controller and by others, is computed: each has one run in which one clause fails.
use Prim.Native.Nat.{ℕ, suc, ◌+◌, ◌-◌, ◌^◌, ◌≤◌, ◌<◌}
use mathlib.Core.Bool.{Bool, true, false, ◌||◌}
use mathlib.Core.List.{List, [], ◌∷◌, ◌++◌, map, append-nil}
use mathlib.Core.Logic.{⊎_elim}
use mathlib.Core.Path.{◌≡◌, refl, sym, ap, ap₂, subst, ◌∙◌}
use native.Mathlib.Omega.{arith}
use lib.Dec.{eqb, leb, ltb}
use lib.ListN.{length, get_or, take, drop, length-map, get_or-eq_default}
use lib.Seq.{split_at}
use borrow.Author.Tests.{ltb-true, leb-true}
use Rattle.std.specs.Prelude.{if◌then◌else◌, Ok, Err}
use Rattle.laws.specs.Folds.{list_of}
use Rattle.rules.specs.Verdicts.{Outcome, Stepped, StepRefused, Verdict, Accepted}
use Rattle.rules.specs.declared.site.Site.{Site}
use Rattle.rules.specs.declared.site.Times.{Times}
use Rattle.rules.specs.declared.state.State.{State}
use Rattle.rules.specs.Personality.{verdict_of}
use Rattle.rules.specs.Site.{site_of}
use Rattle.rules.specs.SiteTimes.{under, no_times}
use Rattle.rules.specs.State.{fresh}
use Rattle.rules.specs.Colours.{red, green, shown_in}
use Rattle.rules.specs.WaitBound.{wait_bound}
use Rattle.rules.specs.Kept.{kept_valid}
use Rattle.rules.specs.Timed.{TimedState, kept_of, ruled_site, fresh_timed, timed_valid}
use Rattle.rules.specs.TimedCall.{retimed}
use Rattle.rules.specs.Junctions.{junction, overlap}
use Rattle.rules.specs.Runs.{Controller, controller_of, by_rules, Call, step_call, retime_call, Step, Taken, step_taken, retime_taken, next_of, step_of, taken_from, if_accepted, accepted_steps, site_after, OfEveryRun}
use Rattle.rules.specs.DemandThree.{shows, StartsGreen, NoConflictingGreens, FullClearances, in_minimum_green, in_running, in_walk, registers_locked, registers_pressed, minimum_green_begins, walk_begins, some_step, changed_waits, MetInTime, DemandsMet, AnswersOwn, NoDeadEnd, SafeRun, DemandThreeOf}
use Rattle.rules.specs.PhaseWaits.{every_step}
use Rattle.rules.specs.Lamps.{is_vehicle_group, is_movement_group, shows_green, GreensShown, stays_in_minimum, then_runs, stays_green, stays_in_walk, walk_stays_green, MinimumLasts, WalkLasts, GreensLast, minimum_lit, walk_lit, MetByLight, LampsServedOf}
use Rattle.rules.proofs.Opened.{opened}
use Rattle.laws.proofs.Booleans.{never_both}
use Rattle.laws.proofs.Indices.{below-or-past}
use Rattle.laws.proofs.Lists.{list_length, list_at}
use Rattle.proof_quick_runs.proofs.QuickRuns.{times_fit, calls_fit, Keeps, retimed-takes, taken-quick, fresh-none, quick_rules, rules-quickly}
use Rattle.proof_refutations.specs.Dark.{recoloured, red_for_ever, red_if, when_running, when_late, when_walking, when_walked, with_minimum, with_walk, stepped_by, goes_by, short_minimum, long_minimum, short_walk, RedMeetsDemandThree, RedFails, LampsFail}
use Rattle.proof_refutations.proofs.Witnesses.{calls_from, crossings, at_once, steps_from}

-- ── The steps of a controller, with other colours ──

module _ (colour : Site → Times → State → ℕ → ℕ) where
  abbrev coloured : Site → Step → Step
  coloured site step =
      record {
        before = step.before;
        inputs = step.inputs;
        room = step.room;
        outcome = step.outcome;
        after = step.after;
        shown = list_of (colour site step.ruling step.after) step.room;
        ruling = step.ruling;
        changed = step.changed;
      }

  abbrev taken_coloured : Site → Taken → Taken
  taken_coloured site (step_taken step) = step_taken (coloured site step)
  taken_coloured site (retime_taken new verdict) = retime_taken new verdict

  taken-coloured :
      {S : Type 0} (controller : Controller S) (b : List ℕ) (s : S) (calls : List Call) →
      taken_from (recoloured colour controller) b s calls ≡ map (taken_coloured (site_of b)) (taken_from controller b s calls)
  unfolding recoloured taken_from
  taken-coloured controller b s [] = refl
  taken-coloured controller b s (step_call c ∷ calls) =
      ap (λ (later : List Taken). step_taken (coloured (site_of b) (step_of controller b s c)) ∷ later)
      (taken-coloured controller b (next_of controller b s c) calls)
  taken-coloured controller b s (retime_call new ∷ calls) =
      ap (λ (later : List Taken). retime_taken new (controller.retime_verdict b s new) ∷ later)
      (taken-coloured controller b (controller.retimed b s new) calls)

  accepted-coloured : (site : Site) (calls : List Taken) → accepted_steps (map (taken_coloured site) calls) ≡ map (coloured site) (accepted_steps calls)
  unfolding accepted_steps if_accepted
  accepted-coloured site [] = refl
  accepted-coloured site (step_taken step ∷ later) = by step.outcome (accepted-coloured site later)
    where
      by :
          (outcome : Outcome) →
          accepted_steps (map (taken_coloured site) later) ≡ map (coloured site) (accepted_steps later) →
          if_accepted outcome (coloured site step) (accepted_steps (map (taken_coloured site) later)) ≡ map (coloured site) (if_accepted outcome step (accepted_steps later))
      by (Ok wait) rest = ap (λ (later : List Step). coloured site step ∷ later) rest
      by (Err r) rest = rest
  accepted-coloured site (retime_taken new verdict ∷ later) = accepted-coloured site later

-- ── A list that is a map, cut ──

module _ {A B : Type 0} (f : A → B) where
  cut : (l : List A) (a b : List B) → map f l ≡ a ++ b → (first second : List A) × (l ≡ first ++ second) × (map f first ≡ a) × (map f second ≡ b)
  cut l [] b e = ([], l, refl, refl, e)
  cut [] (x ∷ a) b e = let z : ◌≡◌ {A = ℕ} 0 1 = cc in absurd (omega arith)
  cut (y ∷ l) (x ∷ a) b e =
      let head : f y ≡ x = cc in
      let tail : map f l ≡ a ++ b = cc in
      let rest = cut l a b tail in
      (y ∷ rest.0, rest.1, ap (λ (r : List A). y ∷ r) rest.2, ap₂ ◌∷◌ head rest.3, rest.4)

  headed : (l : List A) (x : B) (later : List B) → map f l ≡ x ∷ later → (y : A) × (rest : List A) × (l ≡ y ∷ rest) × (f y ≡ x) × (map f rest ≡ later)
  headed [] x later e = let z : ◌≡◌ {A = ℕ} 0 1 = cc in absurd (omega arith)
  headed (y ∷ l) x later e = let head : f y ≡ x = cc in let tail : map f l ≡ later = cc in (y, l, refl, head, tail)

  -- around one entry
  around :
      (l : List A) (earlier later : List B) (x : B) →
      map f l ≡ earlier ++ x ∷ later →
      (before after : List A) × (y : A) × (l ≡ before ++ y ∷ after) × (f y ≡ x) × (map f after ≡ later)
  around l earlier later x e =
      let parts = cut l earlier (x ∷ later) e in
      let rest = headed parts.1 x later parts.4 in
      (parts.0, rest.1, rest.0, parts.2 ∙ ap (λ (r : List A). parts.0 ++ r) rest.2, rest.3, rest.4)

-- ── Demand 3 with other colours ──

module _ (colour : Site → Times → State → ℕ → ℕ) (site : Site) where
  abbrev other : Step → Step
  other = coloured colour site

  module _ (event : Step → Bool) (same : (step : Step) → event (other step) ≡ event step) where
    some-coloured : (steps : List Step) → some_step event (map other steps) ≡ some_step event steps
    unfolding some_step
    some-coloured [] = refl
    some-coloured (step ∷ later) = ap₂ ◌||◌ (same step) (some-coloured later)

  waits-coloured : (steps : List Step) → changed_waits site (map other steps) ≡ changed_waits site steps
  unfolding changed_waits
  waits-coloured [] = refl
  waits-coloured (step ∷ later) = ap (λ (n : ℕ). (if step.changed then wait_bound (site_after site step) else 0) + n) (waits-coloured later)

  -- what part c says of a step and of the steps between
  abbrev MeetsFrom : Step → List Step → Type 0
  MeetsFrom step between =
      ((p : ℕ) → registers_locked site step p ≡ true → MetInTime site (minimum_green_begins p) step between)
      × ((k : ℕ) → k < site.size.movements → registers_pressed step k ≡ true → MetInTime site (walk_begins k) step between)

  meets-coloured : (step : Step) (between : List Step) → MeetsFrom step between → MeetsFrom (other step) (map other between)
  unfolding MetInTime registers_locked registers_pressed minimum_green_begins walk_begins
  meets-coloured step between meets = (
    λ p registers none.
        rw (length-map, waits-coloured) (meets.0 p registers (sym (some-coloured (minimum_green_begins p) (λ step. refl) (step ∷ between)) ∙ none)),
    λ k below registers none.
        rw (length-map, waits-coloured) (meets.1 k below registers (sym (some-coloured (walk_begins k) (λ step. refl) (step ∷ between)) ∙ none)),
  )

  demands-coloured : (steps : List Step) → DemandsMet site steps → DemandsMet site (map other steps)
  unfolding DemandsMet
  demands-coloured steps met earlier between later step split =
      let here = around other steps earlier (between ++ later) step split in
      let parts = cut other here.1 between later here.5 in
      let whole = here.3 ∙ ap (λ (rest : List Step). here.0 ++ here.2 ∷ rest) parts.2 in
      subst (λ (step : Step). MeetsFrom step between) here.4
      (subst (λ (between : List Step). MeetsFrom (other here.2) between) parts.3
      (meets-coloured here.2 parts.0 (met here.0 parts.0 parts.1 here.2 whole)))

  answers-coloured : (read : List ℕ → Verdict) (b : List ℕ) (call : Taken) → AnswersOwn read b call → AnswersOwn read b (taken_coloured colour site call)
  unfolding AnswersOwn
  answers-coloured read b (step_taken step) own = own
  answers-coloured read b (retime_taken new verdict) own = own

-- ── Red for ever ──

abbrev all_red : Site → Times → State → ℕ → ℕ
all_red site times s g = red

red-everywhere : (n g : ℕ) → get_or (list_of (λ (g : ℕ). red) n) g 0 ≡ red
red-everywhere n g =
    ⊎_elim
    (λ (l : g < n). list_at (λ (g : ℕ). red) n g 0 l)
    (λ (l : n ≤ g). get_or-eq_default (list_of (λ (g : ℕ). red) n) 0 (omega (arith, list_length (λ (g : ℕ). red) n)))
    (below-or-past g n)

-- no group shows green after a step with a red buffer
never-green :
    (site : Site) (steps earlier later : List Step) (step : Step) →
    map (coloured all_red site) steps ≡ earlier ++ step ∷ later →
    (g : ℕ) →
    shows step g ≡ green →
    ⊥
unfolding shows
never-green site steps earlier later step split g e =
    let here = around (coloured all_red site) steps earlier later step split in
    let shown : red ≡ green = sym (red-everywhere here.2.room g) ∙ ap (λ (step : Step). get_or step.shown g 0) here.4 ∙ e in
    omega (arith, shown)

safe-red : (read : List ℕ → Verdict) (b : List ℕ) (calls : List Taken) → SafeRun read b calls → SafeRun read b (map (taken_coloured all_red (site_of b)) calls)
unfolding NoConflictingGreens FullClearances StartsGreen NoDeadEnd
safe-red read b calls safe =
    let site = site_of b in
    let steps = accepted_steps calls in
    let accepted = accepted-coloured all_red site calls in
    record {
      no_conflicting_greens = λ earlier later step split g j apart shown other. never-green site steps earlier later step (sym accepted ∙ split) g shown;
      full_clearances = λ earlier since later last start split g j apart starts shown never.
          absurd (never-green site steps (earlier ++ last ∷ since) later start (sym accepted ∙ split) g starts.0);
      demands_met = subst (DemandsMet site) (sym accepted) (demands-coloured all_red site steps safe.demands_met);
      no_dead_end = λ earlier later call split.
          let here = around (taken_coloured all_red site) calls earlier later call split in
          subst (AnswersOwn read b) here.4
          (answers-coloured all_red site read b here.2 (safe.no_dead_end here.0 here.1 here.2 here.3));
    }

pub red-meets-demand-three : RedMeetsDemandThree
unfolding RedMeetsDemandThree DemandThreeOf red_for_ever recoloured
red-meets-demand-three S controller holds b known calls =
    subst (SafeRun controller.verdict b) (sym (taken-coloured all_red controller b (controller.fresh b) calls))
    (safe-red controller.verdict b (taken_from controller b (controller.fresh b) calls) (holds b known calls))

-- ── What a computed run tells ──

-- what is read past the end of a list
abbrev nowhere : Step
nowhere =
    record {
      before = fresh;
      inputs = 0;
      room = 0;
      outcome = StepRefused 0 0;
      after = fresh;
      shown = [];
      ruling = no_times;
      changed = false;
    }

-- The calls as they are taken are given too: another term may be quicker to compute.
module _
    {S : Type 0}
    (controller : Controller S)
    (b : List ℕ)
    (known : controller.verdict b ≡ Accepted)
    (calls : List Call)
    {made : List Taken}
    (same : taken_from controller b (controller.fresh b) calls ≡ made)
  where
    abbrev steps : List Step
    steps = accepted_steps made

    -- the accepted steps of the run meet a claim that every run meets
    claimed : (Claim : Site → List Step → Type 0) → OfEveryRun controller (λ b calls. Claim (site_of b) (accepted_steps calls)) → Claim (site_of b) steps
    claimed Claim holds = subst (λ (l : List Taken). Claim (site_of b) (accepted_steps l)) same (holds b known calls)

    abbrev at : ℕ → Step
    at n = get_or steps n nowhere

    abbrev past : ℕ → List Step
    past n = drop (suc n) steps

    parted : (n : ℕ) → ltb n (length steps) ≡ true → steps ≡ take n steps ++ at n ∷ past n
    parted n e = split_at steps n nowhere (ltb-true n (length steps) e)

    parted-all : (n : ℕ) → ltb n (length steps) ≡ true → steps ≡ take n steps ++ at n ∷ (past n ++ [])
    parted-all n e = parted n e ∙ ap (λ (rest : List Step). take n steps ++ at n ∷ rest) (sym (append-nil (past n)))

    -- ── Shown ──

    -- of step n: it is there, group g is a vehicle group of phase p, the phase is in minimum green or running after the step, and the group shows green
    unfoldable unshown : ℕ → ℕ → ℕ → Bool × Bool × Bool × Bool
    unshown n p g =
        (ltb n (length steps), is_vehicle_group (site_of b) p g, in_minimum_green (at n).after p || in_running (at n).after p, shows_green g (at n))

    refuted-by-colour : (n p g : ℕ) → unshown n p g ≡ (true, true, true, false) → ¬ GreensShown (site_of b) steps
    unfolding unshown GreensShown
    refuted-by-colour n p g facts holds =
        never_both ((holds (take n steps) (past n) (at n) (parted n (λ i. (facts i).0)) g).0 p (λ i. (facts i).1) (λ i. (facts i).2)) (λ i. (facts i).3)

    -- the same of the group of movement k, which is in walk
    unfoldable unshown_walk : ℕ → ℕ → ℕ → Bool × Bool × Bool × Bool
    unshown_walk n k g = (ltb n (length steps), is_movement_group (site_of b) k g, in_walk (at n).after k, shows_green g (at n))

    refuted-by-walk : (n k g : ℕ) → unshown_walk n k g ≡ (true, true, true, false) → ¬ GreensShown (site_of b) steps
    unfolding unshown_walk GreensShown
    refuted-by-walk n k g facts holds =
        never_both ((holds (take n steps) (past n) (at n) (parted n (λ i. (facts i).0)) g).1 k (λ i. (facts i).1) (λ i. (facts i).2)) (λ i. (facts i).3)

    -- ── Lasting ──

    -- of step n and those after it: it is there, minimum green of phase p begins in it, group g is a vehicle group of p; whether it lasts, whether
    -- running follows, and whether the group shows green as long
    unfoldable lasting : ℕ → ℕ → ℕ → Bool × Bool × Bool × Bool × Bool × Bool
    lasting n p g = (
      ltb n (length steps),
      minimum_green_begins p (at n),
      is_vehicle_group (site_of b) p g,
      stays_in_minimum p (at n) (past n),
      then_runs p (at n) (past n),
      stays_green p g (at n) (past n),
    )

    module _ (n p g : ℕ) (here : ltb n (length steps) ≡ true) (starts : minimum_green_begins p (at n) ≡ true) (holds : GreensLast (site_of b) steps) where
      lasts : MinimumLasts (site_of b) p (at n) (past n)
      unfolding GreensLast
      lasts = (holds (take n steps) (past n) (at n) (parted n here)).0 p starts

    refuted-by-minimum : (n p g : ℕ) (t u : Bool) → lasting n p g ≡ (true, true, true, false, t, u) → ¬ GreensLast (site_of b) steps
    unfolding lasting
    refuted-by-minimum n p g t u facts holds = never_both (lasts n p g (λ i. (facts i).0) (λ i. (facts i).1) holds).minimum (λ i. (facts i).3)

    refuted-by-running : (n p g : ℕ) (t u : Bool) → lasting n p g ≡ (true, true, true, t, false, u) → ¬ GreensLast (site_of b) steps
    unfolding lasting
    refuted-by-running n p g t u facts holds = never_both (lasts n p g (λ i. (facts i).0) (λ i. (facts i).1) holds).running (λ i. (facts i).4)

    refuted-by-green : (n p g : ℕ) (t u : Bool) → lasting n p g ≡ (true, true, true, t, u, false) → ¬ GreensLast (site_of b) steps
    unfolding lasting
    refuted-by-green n p g t u facts holds =
        never_both ((lasts n p g (λ i. (facts i).0) (λ i. (facts i).1) holds).shown g (λ i. (facts i).2)) (λ i. (facts i).5)

    -- of step n and those after it: it is there, movement k exists and its walk begins in it, group g is its group; whether the walk lasts, and whether the group
    -- shows green as long
    unfoldable walking : ℕ → ℕ → ℕ → Bool × Bool × Bool × Bool × Bool × Bool
    walking n k g = (
      ltb n (length steps),
      ltb k (site_of b).size.movements,
      walk_begins k (at n),
      is_movement_group (site_of b) k g,
      stays_in_walk k (at n) (past n),
      walk_stays_green k g (at n) (past n),
    )

    module _
        (n k g : ℕ) (here : ltb n (length steps) ≡ true) (exists : ltb k (site_of b).size.movements ≡ true) (starts : walk_begins k (at n) ≡ true)
        (holds : GreensLast (site_of b) steps) where
      walks : WalkLasts (site_of b) k (at n) (past n)
      unfolding GreensLast
      walks = (holds (take n steps) (past n) (at n) (parted n here)).1 k (ltb-true k (site_of b).size.movements exists) starts

    refuted-by-walk-end : (n k g : ℕ) (t : Bool) → walking n k g ≡ (true, true, true, true, false, t) → ¬ GreensLast (site_of b) steps
    unfolding walking
    refuted-by-walk-end n k g t facts holds =
        never_both (walks n k g (λ i. (facts i).0) (λ i. (facts i).1) (λ i. (facts i).2) holds).walk (λ i. (facts i).4)

    refuted-by-walk-green : (n k g : ℕ) (t : Bool) → walking n k g ≡ (true, true, true, true, t, false) → ¬ GreensLast (site_of b) steps
    unfolding walking
    refuted-by-walk-green n k g t facts holds =
        never_both ((walks n k g (λ i. (facts i).0) (λ i. (facts i).1) (λ i. (facts i).2) holds).shown g (λ i. (facts i).3)) (λ i. (facts i).5)

    -- ── Met by light ──

    -- of step n and those after it: it is there, the group is one of the demand's, the step registers the demand; whether the event comes, and whether the
    -- later steps are as many as the wait
    unfoldable unlit : ℕ → Bool → Bool → (Step → Bool) → Bool × Bool × Bool × Bool × Bool
    unlit n group registers event = (
      ltb n (length steps),
      group,
      registers,
      some_step event (at n ∷ past n),
      leb (wait_bound (site_after (site_of b) (at n)) + changed_waits (site_of b) (past n)) (length (past n)),
    )

    refuted-by-lock :
        (n p g : ℕ) →
        unlit n (is_vehicle_group (site_of b) p g) (registers_locked (site_of b) (at n) p) (minimum_lit p g) ≡ (true, true, true, false, true) →
        ¬ MetByLight (site_of b) steps
    unfolding unlit MetByLight MetInTime
    refuted-by-lock n p g facts holds =
        let fewer =
        (holds (take n steps) (past n) [] (at n) (parted-all n (λ i. (facts i).0)) g).0 p (λ i. (facts i).1) (λ i. (facts i).2) (λ i. (facts i).3) in
        omega (arith, fewer, leb-true _ (length (past n)) (λ i. (facts i).4))

    refuted-by-button :
        (n k g : ℕ) →
        unlit n (is_movement_group (site_of b) k g) (registers_pressed (at n) k) (walk_lit k g) ≡ (true, true, true, false, true) →
        ¬ MetByLight (site_of b) steps
    unfolding unlit MetByLight MetInTime
    refuted-by-button n k g facts holds =
        let fewer =
        (holds (take n steps) (past n) [] (at n) (parted-all n (λ i. (facts i).0)) g).1 k (λ i. (facts i).1) (λ i. (facts i).2) (λ i. (facts i).3) in
        omega (arith, fewer, leb-true _ (length (past n)) (λ i. (facts i).4))

-- ── The runs ──

-- the first crossing in step 30, when A is in running, and detector 0 from step 31 on, so that the walk ends when it may
unfoldable pressed_in_green : ℕ → ℕ
pressed_in_green step = if eqb step 30 then 2 ^ 48 else if leb 31 step then 1 else 0

-- the first crossing in step 1
unfoldable pressed_first : ℕ → ℕ
pressed_first step = if eqb step 1 then 2 ^ 48 else 0

-- what the runs compute with
unfoldable computing : Unit {0}
unfolding
    opened every_step is_vehicle_group is_movement_group shows_green stays_in_minimum then_runs stays_green stays_in_walk walk_stays_green minimum_lit walk_lit unshown unshown_walk
    lasting walking unlit recoloured red_for_ever red_if when_running when_late when_walking when_walked with_minimum with_walk stepped_by calls_from at_once
    steps_from calls_fit crossings pressed_in_green pressed_first
computing = tt

-- the test of the rest of a state
abbrev rest_kept : Site → TimedState → Bool
rest_kept site s = kept_valid (ruled_site site s) (kept_of s)

-- The runs without the test of the times, which are quicker to compute.
module _ (b : List ℕ) (fits : times_fit (site_of b) (fresh_timed (site_of b)) ≡ true) (calls : List Call) (all : calls_fit (site_of b) calls ≡ true) where
  colours-quickly :
      (colour : Site → Times → State → ℕ → ℕ) →
      taken_from (recoloured colour by_rules) b (fresh_timed (site_of b)) calls
      ≡ map (taken_coloured colour (site_of b)) (taken_from quick_rules b (fresh_timed (site_of b)) calls)
  colours-quickly colour =
      taken-coloured colour by_rules b (fresh_timed (site_of b)) calls ∙ ap (map (taken_coloured colour (site_of b))) (rules-quickly b fits calls all)

  by-keeps : (other : Times → Times) → Keeps (site_of b) (stepped_by other)
  unfolding stepped_by
  by-keeps other s inputs fit = fit

  times-quickly :
      (other : Times → Times) →
      taken_from (goes_by other) b (fresh_timed (site_of b)) calls
      ≡ taken_from (controller_of verdict_of rest_kept (stepped_by other) wait_bound retimed) b (fresh_timed (site_of b)) calls
  unfolding timed_valid
  times-quickly other =
      taken-quick verdict_of rest_kept (stepped_by other) wait_bound retimed b (by-keeps other) (retimed-takes (site_of b) (fresh-none (site_of b) fits))
      (fresh_timed (site_of b))
      calls
      fits
      all

-- ── Red for ever ──

-- Minimum green of A begins in step 10, and its group 0 does not show green.
red-shown : ¬ OfEveryRun (red_for_ever by_rules) (λ b calls. GreensShown (site_of b) (accepted_steps calls))
unfolding computing
red-shown holds =
    let calls = steps_from at_once 2 1 10 in
    let quickly = colours-quickly junction refl calls refl all_red in
    refuted-by-colour (red_for_ever by_rules) junction refl calls quickly 9 0 0 refl (claimed (red_for_ever by_rules) junction refl calls quickly GreensShown holds)

red-lasting : ¬ OfEveryRun (red_for_ever by_rules) (λ b calls. GreensLast (site_of b) (accepted_steps calls))
unfolding computing
red-lasting holds =
    let calls = steps_from at_once 2 1 10 in
    let quickly = colours-quickly junction refl calls refl all_red in
    refuted-by-green (red_for_ever by_rules) junction refl calls quickly 9 0 0 true true refl
    (claimed (red_for_ever by_rules) junction refl calls quickly GreensLast holds)

-- Detector 1 locks B in step 1, and the wait of the junction is 270. In 270 further steps minimum green of B begins and group 1 shows no green.
red-met : ¬ OfEveryRun (red_for_ever by_rules) (λ b calls. MetByLight (site_of b) (accepted_steps calls))
unfolding computing
red-met holds =
    let calls = steps_from at_once 2 1 271 in
    let quickly = colours-quickly junction refl calls refl all_red in
    refuted-by-lock (red_for_ever by_rules) junction refl calls quickly 0 1 1 refl (claimed (red_for_ever by_rules) junction refl calls quickly MetByLight holds)

pub red-fails : RedFails
unfolding LampsServedOf
red-fails =
    record {
      shown = red-shown;
      lasting = red-lasting;
      met = red-met;
      served = λ holds. red-shown (λ b known calls. (holds b known calls).shown);
    }

-- ── Other colours and other times ──

-- the colours of the rules, but red if the test passes
abbrev red_but : (Site → State → ℕ → Bool) → Site → Times → State → ℕ → ℕ
red_but test site times s g = if test site s g then red else shown_in (under site times) s g

-- A is in running in step 30, and its group 0 does not show green.
when-running : ¬ OfEveryRun (red_if when_running) (λ b calls. GreensShown (site_of b) (accepted_steps calls))
unfolding computing
when-running holds =
    let calls = steps_from at_once 2 1 30 in
    let quickly = colours-quickly junction refl calls refl (red_but when_running) in
    refuted-by-colour (red_if when_running) junction refl calls quickly 29 0 0 refl (claimed (red_if when_running) junction refl calls quickly GreensShown holds)

-- Minimum green of B begins in step 91, after its late start, and its group 3, with mark 1, does not show green.
when-late : ¬ OfEveryRun (red_if when_late) (λ b calls. GreensShown (site_of b) (accepted_steps calls))
unfolding computing
when-late holds =
    let calls = steps_from at_once 4 1 91 in
    let quickly = colours-quickly overlap refl calls refl (red_but when_late) in
    refuted-by-colour (red_if when_late) overlap refl calls quickly 90 1 3 refl (claimed (red_if when_late) overlap refl calls quickly GreensShown holds)

-- The first crossing is in walk in step 30, and its group 2 does not show green.
when-walking : ¬ OfEveryRun (red_if when_walking) (λ b calls. GreensShown (site_of b) (accepted_steps calls))
unfolding computing
when-walking holds =
    let calls = steps_from pressed_in_green 4 1 30 in
    let quickly = colours-quickly (crossings 10) refl calls refl (red_but when_walking) in
    refuted-by-walk (red_if when_walking) (crossings 10) refl calls quickly 29 0 2 refl
    (claimed (red_if when_walking) (crossings 10) refl calls quickly GreensShown holds)

-- Minimum green of A begins in step 10, and M is 20. It ends in step 29, the 20th step.
short-minimum : ¬ OfEveryRun short_minimum (λ b calls. GreensLast (site_of b) (accepted_steps calls))
unfolding computing
short-minimum holds =
    let calls = steps_from at_once 2 1 29 in
    let quickly = times-quickly junction refl calls refl (with_minimum (λ m. m - 1)) in
    refuted-by-minimum short_minimum junction refl calls quickly 9 0 0 true true refl (claimed short_minimum junction refl calls quickly GreensLast holds)

-- It has not ended in step 30, the 21st.
long-minimum : ¬ OfEveryRun long_minimum (λ b calls. GreensLast (site_of b) (accepted_steps calls))
unfolding computing
long-minimum holds =
    let calls = steps_from at_once 2 1 30 in
    let quickly = times-quickly junction refl calls refl (with_minimum (λ m. m + 1)) in
    refuted-by-running long_minimum junction refl calls quickly 9 0 0 true true refl (claimed long_minimum junction refl calls quickly GreensLast holds)

-- It lasts for 20 steps, and group 0 is red in step 30, the 21st.
green-cut : ¬ OfEveryRun (red_if when_running) (λ b calls. GreensLast (site_of b) (accepted_steps calls))
unfolding computing
green-cut holds =
    let calls = steps_from at_once 2 1 30 in
    let quickly = colours-quickly junction refl calls refl (red_but when_running) in
    refuted-by-green (red_if when_running) junction refl calls quickly 9 0 0 true true refl (claimed (red_if when_running) junction refl calls quickly GreensLast holds)

-- The walk of the first crossing begins in step 30, and W is 10. It ends in step 39, the 10th step.
short-walk : ¬ OfEveryRun short_walk (λ b calls. GreensLast (site_of b) (accepted_steps calls))
unfolding computing
short-walk holds =
    let calls = steps_from pressed_in_green 4 1 39 in
    let quickly = times-quickly (crossings 10) refl calls refl (with_walk (λ w. w - 1)) in
    refuted-by-walk-end short_walk (crossings 10) refl calls quickly 29 0 2 false refl (claimed short_walk (crossings 10) refl calls quickly GreensLast holds)

-- It lasts for 10 steps, and group 2 is red in the 10th.
walk-cut : ¬ OfEveryRun (red_if when_walked) (λ b calls. GreensLast (site_of b) (accepted_steps calls))
unfolding computing
walk-cut holds =
    let calls = steps_from pressed_in_green 4 1 39 in
    let quickly = colours-quickly (crossings 10) refl calls refl (red_but when_walked) in
    refuted-by-walk-green (red_if when_walked) (crossings 10) refl calls quickly 29 0 2 true refl
    (claimed (red_if when_walked) (crossings 10) refl calls quickly GreensLast holds)

-- The first crossing is pressed in step 1, and the wait of the site is 270. In 270 further steps its walk begins and group 2 shows no green.
walk-unlit : ¬ OfEveryRun (red_if when_walking) (λ b calls. MetByLight (site_of b) (accepted_steps calls))
unfolding computing
walk-unlit holds =
    let calls = steps_from pressed_first 4 1 271 in
    let quickly = colours-quickly (crossings 10) refl calls refl (red_but when_walking) in
    refuted-by-button (red_if when_walking) (crossings 10) refl calls quickly 0 0 2 refl
    (claimed (red_if when_walking) (crossings 10) refl calls quickly MetByLight holds)

pub lamps-fail : LampsFail
lamps-fail =
    record {
      running_red = when-running;
      late_red = when-late;
      walk_red = when-walking;
      minimum_short = short-minimum;
      minimum_long = long-minimum;
      green_cut = green-cut;
      walk_short = short-walk;
      walk_cut = walk-cut;
      walk_unlit = walk-unlit;
    }
