-- A step at which other times take over is the plain step under them from the ready state, which is valid under them.
use Prim.Native.Nat.{ℕ, ◌≤◌, ◌<◌}
use mathlib.Core.Bool.{Bool, true, false, not, ◌&&◌, ◌||◌, false≢true}
use mathlib.Core.List.{List}
use mathlib.Core.Path.{◌≡◌, refl, sym, ap, subst, fun_ext}
use native.Mathlib.Omega.{arith}
use lib.Dec.{leb}
use borrow.Author.Tests.{le-leb, not-true}
use lib.ListN.{get_or, replicate, get_or-replicate}
use Rattle.rules.specs.declared.site.Site.{Site}
use Rattle.rules.specs.declared.site.Times.{Times}
use Rattle.rules.specs.declared.site.WalkTimes.{WalkTimes}
use Rattle.rules.specs.declared.state.Counts.{Counts}
use Rattle.rules.specs.declared.state.Demands.{Demands}
use Rattle.rules.specs.declared.state.Interval.{Interval}
use Rattle.rules.specs.declared.state.Interval.TheVariants.{StartRed, LateStart, MinimumGreen, Running, EarlyCutOff, Yellow, AllRed}
use Rattle.rules.specs.declared.state.KeptState.{KeptState}
use Rattle.rules.specs.declared.state.Movement.{Movement}
use Rattle.rules.specs.declared.state.Position.{Position}
use Rattle.rules.specs.declared.state.Stage.{Stage}
use Rattle.rules.specs.declared.state.Stage.TheVariants.{Idle, Walk, ClearanceOne, ClearanceTwo}
use Rattle.rules.specs.declared.state.State.{State}
use Rattle.std.specs.Prelude.{if◌then◌else◌, Option}
use Rattle.laws.specs.Folds.{set_of}
use Rattle.rules.specs.Site.{phase_times, walk_times, crosses, ring}
use Rattle.rules.specs.IntervalTable.{is_held, is_idle, is_walk, is_walk_or_first, is_second, is_before_start}
use Rattle.rules.specs.State.{no_counts, highest_age, idle, locked, asked, movement, valid}
use Rattle.rules.specs.Demands.{pressed, detected, in_green, registers_lock, registers_button, calls, locks_after, buttons_after, demands_after, movement_demands, stands, next_after}
use Rattle.rules.specs.Movements.{older, lasting, advanced, movements_after, walk_may_end}
use Rattle.rules.specs.Counts.{gap_after, maximum_after, counts_after}
use Rattle.rules.specs.Interval.{some_movement, ends, following, position_after, counts_changed, locks_left, starts}
use Rattle.rules.specs.Walks.{begins, walks_begun, buttons_left}
use Rattle.rules.specs.Step.{stepped_into}
use Rattle.rules.specs.Kept.{is_kept, kept_valid, press_keeps, kept_after, next_kept, cleared, kept_left, kept_stepped_into, kept_stepped}
use Rattle.rules.specs.SiteTimes.{under}
use Rattle.rules.specs.Timed.{starts_next, without_counts}
use Rattle.rules.specs.TimedLaws.{ready}
use Rattle.rules.specs.Laws.{Sound}
use Rattle.laws.proofs.Booleans.{and_left, and_right, and_both}
use Rattle.rules.proofs.IntervalTests.{idle-only}
use Rattle.laws.proofs.Folds.{any_none, any_false, any_same}
use Rattle.laws.proofs.Lists.{list_at, list_same}
use Rattle.laws.proofs.ByteSets.{set_same}
use Rattle.rules.proofs.Settings.{phase-timed, start-timed}
use Rattle.proof_runs.proofs.ValidStates.{ValidMovement, ValidState, state-told, state-holds}
use Rattle.proof_validity.proofs.Stages.{idle-valid}

-- ── A movement before a start ──

-- what is known of it where a phase starts in the next step: it is not in walk, and part 2 leaves it idle
pub record Clearing (times : Times) (movements : List Movement) (k : ℕ) : Type 0 where
  pub still : is_walk (get_or movements k idle).stage ≡ false
  pub over : advanced false (get_or movements k idle).stage (walk_times times k) (get_or movements k idle).age ≡ idle

idle-clears :
    (stage : Stage) (age : ℕ) (times : WalkTimes) →
    is_idle stage ≡ true →
    age ≡ 1 →
    (is_walk stage ≡ false) × (advanced false stage times age ≡ idle)
unfolding advanced
idle-clears stage age times i e = rw (idle-only stage i, e) (refl, refl)

-- no walk, no C1, and no C2 after part 2
second-clears :
    (stage : Stage) (age : ℕ) (times : WalkTimes) →
    (is_idle stage ≡ true → age ≡ 1) →
    is_walk_or_first stage ≡ false →
    is_second (advanced false stage times age).stage ≡ false →
    (is_walk stage ≡ false) × (advanced false stage times age ≡ idle)
unfolding advanced lasting
second-clears Idle age times one w c = (refl, rw (one refl))
second-clears Walk age times one w c = absurd (false≢true (sym w))
second-clears ClearanceOne age times one w c = absurd (false≢true (sym w))
second-clears ClearanceTwo age times one w c = (refl, step (leb times.second age) c)
  where
    step :
        (t : Bool) →
        is_second (if t then idle else record { stage = ClearanceTwo; age = older age }).stage ≡ false →
        (if t then idle else record { stage = ClearanceTwo; age = older age }) ≡ idle
    step true h = refl
    step false h = absurd (false≢true (sym h))

-- ── A step that starts a phase, by what its first parts find ──

module _ (site : Site) (new : Times) (phase : ℕ) (previous target : Option ℕ) (demands : Demands) (kept inputs : ℕ) where
  -- the state before the step, of such an age, with such counts and movements
  abbrev before : Interval → ℕ → Counts → List Movement → KeptState
  before interval age counts movements =
      record {
        core =
            record {
              position = record { phase = phase; interval = interval; age = age; previous = previous; target = target };
              counts = counts;
              demands = demands;
              movements = movements;
            };
        kept = kept;
      }

  -- the state after it, by the phase demanded next, the demands that stand, the movements after part 2, whether the interval ended, and the
  -- phases that are kept
  assembled : Interval → ℕ → Option ℕ → Demands → List Movement → Bool → (ℕ → Bool) → KeptState
  assembled interval age next standing moving ended keeps =
      let old : Position = record { phase = phase; interval = interval; age = age; previous = previous; target = target } in
      let now = position_after ended new next old in
      let begun = begins site.crossings (starts ended old) (is_held next) now standing.buttons moving in
      let core : State =
      record {
        position = now;
        counts = counts_changed ended new old now no_counts;
        demands = record { locks = locks_left ended now standing.locks; buttons = buttons_left begun standing.buttons };
        movements = walks_begun begun moving;
      } in
      record { core = core; kept = set_of (kept_left site.crossings site.size.movements standing core.demands keeps) }

  -- where a phase starts the age is not asked
  ageless :
      (interval : Interval) →
      is_before_start interval ≡ true →
      (age age' : ℕ) (next : Option ℕ) (standing : Demands) (moving : List Movement) (keeps : ℕ → Bool) →
      assembled interval age next standing moving true keeps ≡ assembled interval age' next standing moving true keeps
  unfolding assembled position_after following starts counts_changed
  ageless StartRed h age age' next standing moving keeps = refl
  ageless LateStart h age age' next standing moving keeps = absurd (false≢true h)
  ageless MinimumGreen h age age' next standing moving keeps = absurd (false≢true h)
  ageless Running h age age' next standing moving keeps = absurd (false≢true h)
  ageless EarlyCutOff h age age' next standing moving keeps = absurd (false≢true h)
  ageless Yellow h age age' next standing moving keeps = absurd (false≢true h)
  ageless AllRed h age age' next standing moving keeps = refl

  module _ (movements : List Movement) (few : site.size.movements ≤ 8) (clear : (k : ℕ) → k < 8 → Clearing site.times movements k) (interval : Interval) (age : ℕ) where
    abbrev s : KeptState
    s = before interval age no_counts movements

    abbrev t : KeptState
    t = before interval highest_age no_counts (replicate 8 idle)

    press-same : (k : ℕ) → k < 8 → registers_button movements inputs k ≡ registers_button (replicate 8 idle) inputs k
    unfolding registers_button
    press-same k l = rw ((clear k l).still, get_or-replicate 8 k idle idle l)

    standing-same : demands_after site s.core inputs ≡ demands_after (under site new) t.core inputs
    unfolding demands_after locks_after buttons_after registers_lock detected in_green locked asked
    standing-same =
        ap (λ (set : ℕ). record { locks = (demands_after site s.core inputs).locks; buttons = set })
        (set_same (λ k. asked s.core k || registers_button movements inputs k) (λ k. asked s.core k || registers_button (replicate 8 idle) inputs k)
        (λ k l. ap (λ (press : Bool). asked s.core k || press) (press-same k l)))

    moving-same : movements_after site.times false movements ≡ movements_after new false (replicate 8 idle)
    unfolding movements_after advanced
    moving-same =
        list_same
        (λ k. advanced false (get_or movements k idle).stage (walk_times site.times k) (get_or movements k idle).age)
        (λ k. advanced false (get_or (replicate 8 idle) k idle).stage (walk_times new k) (get_or (replicate 8 idle) k idle).age)
        8
        (λ k l. rw ((clear k l).over, get_or-replicate 8 k idle idle l))

    keeps_same : kept_after site s inputs ≡ kept_after (under site new) t inputs
    unfolding kept_after is_kept registers_lock detected in_green press_keeps
    keeps_same =
        fun_ext
        (λ p.
        ap (λ (pressed : Bool). is_kept s p || registers_lock site s.core inputs p || pressed)
        (any_same (λ k. registers_button movements inputs k && crosses site.crossings k p) (λ k. registers_button (replicate 8 idle) inputs k && crosses site.crossings k p) site.size.movements
        (λ k l. ap (λ (press : Bool). press && crosses site.crossings k p) (press-same k (omega arith)))))

    next-same : next_kept site s inputs ≡ next_kept (under site new) t inputs
    unfolding next_kept next_after ring calls detected in_green
    next-same = ap (λ (keeps : ℕ → Bool). next_after (ring site.order site.size.phases) phase (λ p. keeps p || calls site s.core inputs p)) keeps_same

    -- the two steps, where both find that the interval ends
    started-same :
        is_before_start interval ≡ true →
        (ended ended' : Bool) →
        ended ≡ true →
        ended' ≡ true →
        assembled interval age (next_kept site s inputs) (demands_after site s.core inputs) (movements_after site.times false movements) ended (kept_after site s inputs)
        ≡ assembled interval highest_age (next_kept (under site new) t inputs) (demands_after (under site new) t.core inputs) (movements_after new false (replicate 8 idle)) ended' (kept_after (under site new) t inputs)
    started-same h ended ended' e e' =
        rw (e, e', next-same, standing-same, moving-same, keeps_same)
        (ageless interval h age highest_age _ _ _ _)

  -- ── By the interval that ends ──

  module _ (sound : Sound (under site new)) (age : ℕ) (counts : Counts) (movements : List Movement) where
    red-clear :
        ValidState site (before AllRed age counts movements).core →
        some_movement is_second (movements_after site.times false movements) ≡ false →
        (k : ℕ) →
        k < 8 →
        Clearing site.times movements k
    unfolding some_movement movements_after movement
    red-clear v none k l =
        let m = v.movements k l in
        let over =
        any_false (λ (k : ℕ). is_second (get_or (movements_after site.times false movements) k idle).stage) 8 k none l in
        let told =
        second-clears (get_or movements k idle).stage (get_or movements k idle).age (walk_times site.times k) m.idle_age (m.leaving refl)
        (rw (list_at (λ (k : ℕ). advanced false (get_or movements k idle).stage (walk_times site.times k) (get_or movements k idle).age) 8 k idle l) at over) in
        record { still = told.0; over = told.1 }

    start-clear :
        ValidState site (before StartRed age counts movements).core → (k : ℕ) → k < 8 → Clearing site.times movements k
    unfolding movement
    start-clear v k l =
        let m = v.movements k l in
        let told =
        idle-clears (get_or movements k idle).stage (get_or movements k idle).age (walk_times site.times k) (m.start_red refl) (m.idle_age (m.start_red refl)) in
        record { still = told.0; over = told.1 }

    -- where a phase starts in the next step, every movement is cleared
    clear_at :
        (interval : Interval) →
        ValidState site (before interval age counts movements).core →
        starts_next site (before interval age counts movements).core ≡ true →
        (k : ℕ) →
        k < 8 →
        Clearing site.times movements k
    unfolding starts_next ends
    clear_at StartRed v h = start-clear v
    clear_at LateStart v h = absurd (false≢true h)
    clear_at MinimumGreen v h = absurd (false≢true h)
    clear_at Running v h = absurd (false≢true h)
    clear_at EarlyCutOff v h = absurd (false≢true h)
    clear_at Yellow v h = absurd (false≢true h)
    clear_at AllRed v h =
        let second = some_movement is_second (movements_after site.times false movements) in
        red-clear v (not-true second (and_right (leb (phase_times site.times phase).red age) (not second) h))

    -- no idle movement is in C2
    none-second : some_movement is_second (movements_after new false (replicate 8 idle)) ≡ false
    unfolding some_movement movements_after advanced
    none-second =
        any_none (λ (k : ℕ). is_second (get_or (movements_after new false (replicate 8 idle)) k idle).stage) 8
        (λ k l.
        rw (list_at (λ (k : ℕ). advanced false (get_or (replicate 8 idle) k idle).stage (walk_times new k) (get_or (replicate 8 idle) k idle).age) 8 k idle l, get_or-replicate 8 k idle idle l))

    change-at :
        (interval : Interval) →
        ValidState site (before interval age counts movements).core →
        starts_next site (before interval age counts movements).core ≡ true →
        kept_stepped_into new site (without_counts (before interval age counts movements)) inputs
        ≡ kept_stepped (under site new) (ready (before interval age counts movements)) inputs
    unfolding starts_next kept_stepped stepped_into ready assembled ends walk_may_end counts_after gap_after maximum_after kept_left cleared stands
    change-at StartRed v h =
        started-same movements sound.movements (clear_at StartRed v h) StartRed age refl (leb site.times.start age) (leb new.start highest_age) h
        (le-leb new.start highest_age (start-timed (under site new) sound).1)
    change-at LateStart v h = absurd (false≢true h)
    change-at MinimumGreen v h = absurd (false≢true h)
    change-at Running v h = absurd (false≢true h)
    change-at EarlyCutOff v h = absurd (false≢true h)
    change-at Yellow v h = absurd (false≢true h)
    change-at AllRed v h =
        let red = leb (phase_times site.times phase).red age in
        let second = some_movement is_second (movements_after site.times false movements) in
        started-same movements sound.movements (clear_at AllRed v h) AllRed age refl (red && not second)
        (leb (phase_times new phase).red highest_age && not (some_movement is_second (movements_after new false (replicate 8 idle))))
        h
        (and_both (le-leb (phase_times new phase).red highest_age (phase-timed (under site new) sound phase v.phase).red.1) (ap not none-second))

-- ── The laws ──

pub change-same :
    (site : Site) (new : Times) →
    Sound (under site new) →
    (s : KeptState) (inputs : ℕ) →
    valid site s.core ≡ true →
    starts_next site s.core ≡ true →
    kept_stepped_into new site (without_counts s) inputs ≡ kept_stepped (under site new) (ready s) inputs
change-same site new sound s inputs v h =
    let old = s.core.position in
    change-at site new old.phase old.previous old.target s.core.demands s.kept inputs sound old.age s.core.counts s.core.movements
    old.interval
    (state-told site s.core v)
    h

ready-state : (site : Site) (new : Times) (s : KeptState) → ValidState site s.core → ValidState (under site new) (ready s).core
unfolding ready locked asked movement
ready-state site new s v =
    record {
      phase = v.phase;
      interval = v.interval;
      target = v.target;
      previous = v.previous;
      age = (omega arith, omega arith);
      gap = omega arith;
      maximum = omega arith;
      locks = v.locks;
      buttons = v.buttons;
      movements = λ k l.
          subst (λ (m : Movement). ValidMovement (under site new) (ready s).core.position k m) (sym (get_or-replicate 8 k idle idle l))
          (idle-valid (under site new) (ready s).core.position k idle refl refl);
    }

pub ready-valid : (site : Site) (new : Times) (s : KeptState) → kept_valid site s ≡ true → kept_valid (under site new) (ready s) ≡ true
unfolding kept_valid ready stands movement_demands
ready-valid site new s v =
    and_both
    (state-holds (under site new) (ready s).core (ready-state site new s (state-told site s.core (and_left (valid site s.core) _ v))))
    (and_right (valid site s.core) _ v)

-- every movement is cleared where a phase starts in the next step
pub starts-clear :
    (site : Site) → Sound site → (s : State) → ValidState site s → starts_next site s ≡ true → (k : ℕ) → k < 8 → Clearing site.times s.movements k
starts-clear site sound s v h k l =
    let old = s.position in
    clear_at site site.times old.phase old.previous old.target s.demands 0 0 sound old.age s.counts s.movements
    old.interval
    v
    h
    k
    l

-- the position after a change is what follows under the new times
change-follows :
    (site : Site) (new : Times) (phase age : ℕ) (previous target : Option ℕ) (counts : Counts) (demands : Demands) (movements : List Movement) (kept inputs : ℕ) (interval : Interval) →
    starts_next site (before site new phase previous target demands kept inputs interval age counts movements).core ≡ true →
    (next : Option ℕ) ×
    ((kept_stepped_into new site (without_counts (before site new phase previous target demands kept inputs interval age counts movements)) inputs).core.position
    ≡ following interval new next (record { phase = phase; interval = interval; age = age; previous = previous; target = target }))
unfolding starts_next ends walk_may_end position_after stepped_into
change-follows site new phase age previous target counts demands movements kept inputs StartRed h =
    (next_kept site (before site new phase previous target demands kept inputs StartRed age no_counts movements) inputs, rw h)
change-follows site new phase age previous target counts demands movements kept inputs LateStart h = absurd (false≢true h)
change-follows site new phase age previous target counts demands movements kept inputs MinimumGreen h = absurd (false≢true h)
change-follows site new phase age previous target counts demands movements kept inputs Running h = absurd (false≢true h)
change-follows site new phase age previous target counts demands movements kept inputs EarlyCutOff h = absurd (false≢true h)
change-follows site new phase age previous target counts demands movements kept inputs Yellow h = absurd (false≢true h)
change-follows site new phase age previous target counts demands movements kept inputs AllRed h =
    (next_kept site (before site new phase previous target demands kept inputs AllRed age no_counts movements) inputs, rw h)

pub change-position :
    (site : Site) (new : Times) (s : KeptState) (inputs : ℕ) →
    starts_next site s.core ≡ true →
    (next : Option ℕ) × ((kept_stepped_into new site (without_counts s) inputs).core.position ≡ following s.core.position.interval new next s.core.position)
change-position site new s inputs h =
    let old = s.core.position in
    change-follows site new old.phase old.age old.previous old.target s.core.counts s.core.demands s.core.movements s.kept inputs old.interval h
