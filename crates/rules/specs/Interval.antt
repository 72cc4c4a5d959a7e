-- Part 4 of a step: the interval. At most one change is made in a step.
use Rattle.std.specs.Prelude.{ℕ, Bool, not, ◌&&◌, ◌||◌, List, eqb, leb, get_or, if◌then◌else◌, Option, Some, None}
use Rattle.rules.specs.Types.{PhaseTimes, Times, Counts, Interval, StartRed, LateStart, MinimumGreen, Running, EarlyCutOff, Yellow, AllRed, Movement, Position, Stage}
use Rattle.laws.specs.Bytes.{bit}
use Rattle.laws.specs.Folds.{any_of, set_of}
use Rattle.rules.specs.Site.{phase_times}
use Rattle.rules.specs.IntervalTable.{is_walk_or_first, is_second, is_minimum_green, is_running, is_before_start, is_all_red, phase_held}
use Rattle.rules.specs.State.{idle, no_counts}
use Rattle.rules.specs.Movements.{older}

-- some movement is in a stage that passes the test
unfoldable pub some_movement : (Stage → Bool) → List Movement → Bool
some_movement test movements = any_of (λ k. test (get_or movements k idle).stage) 8

-- ── When the interval ends ──

-- Running ends if another phase is demanded, the gap is over or the maximum is used up, and no movement is in walk or C1. All-red ends when
-- its age has reached R, but not while a movement is in C2. Every other interval ends when its age has reached its setting.
unfoldable pub ends : Interval → ℕ → PhaseTimes → ℕ → Bool → List Movement → Counts → Bool
ends StartRed start times age another movements counts = leb start age
ends LateStart start times age another movements counts = leb times.late age
ends MinimumGreen start times age another movements counts = leb times.minimum age
ends Running start times age another movements counts =
    another && not (some_movement is_walk_or_first movements) && (eqb counts.gap 0 || eqb counts.maximum times.maximum)
ends EarlyCutOff start times age another movements counts = leb times.early age
ends Yellow start times age another movements counts = leb times.yellow age
ends AllRed start times age another movements counts = leb times.red age && not (some_movement is_second movements)

-- ── What follows it ──

-- an interval of the same phase, at an age
abbrev pub same_phase : Interval → ℕ → Option ℕ → Position → Position
same_phase interval age target position =
    record { phase = position.phase; interval = interval; age = age; previous = position.previous; target = target }

-- the next interval of the same phase, at age 1
unfoldable pub entering : Interval → Option ℕ → Position → Position
entering interval target position = same_phase interval 1 target position

-- the position in which phase p starts: late start, or minimum green if its L is 0
unfoldable pub starting : Times → ℕ → Option ℕ → Position
starting times p previous =
    record {
      phase = p;
      interval = if eqb (phase_times times p).late 0 then MinimumGreen else LateStart;
      age = 1;
      previous = previous;
      target = None;
    }

-- the position after running: early cut-off green, or yellow if E is 0; the phase that is demanded next in this step becomes the target
unfoldable pub leaving : Times → Option ℕ → Position → Position
leaving times next position =
    entering (if eqb (phase_times times position.phase).early 0 then Yellow else EarlyCutOff) next position

unfoldable pub following : Interval → Times → Option ℕ → Position → Position
following StartRed times next position = starting times position.phase position.previous
following LateStart times next position = entering MinimumGreen None position
following MinimumGreen times next position = entering Running None position
following Running times next position = leaving times next position
following EarlyCutOff times next position = entering Yellow position.target position
following Yellow times next position = entering AllRed position.target position
following AllRed times next position = starting times (phase_held position.target) (Some position.phase)

-- the same interval, one step older
unfoldable pub staying : Position → Position
staying position = same_phase position.interval (older position.age) position.target position

unfoldable pub position_after : Bool → Times → Option ℕ → Position → Position
position_after ended times next position =
    if ended then following position.interval times next position else staying position

-- ── What a change does to the counts and the lock ──

-- both counts are 0 after all-red
unfoldable pub counts_leaving : Interval → Counts → Counts
counts_leaving interval counts = if is_all_red interval then no_counts else counts

-- minimum green begins with a gap count of G, running with a maximum count of 0
unfoldable pub counts_entering : Interval → PhaseTimes → Counts → Counts
counts_entering interval times counts =
    record {
      gap = if is_minimum_green interval then times.gap else counts.gap;
      maximum = if is_running interval then 0 else counts.maximum;
    }

unfoldable pub counts_changed : Bool → Times → Position → Position → Counts → Counts
counts_changed ended times old new counts =
    if ended then counts_entering new.interval (phase_times times new.phase) (counts_leaving old.interval counts) else counts

-- the lock of the phase is cleared when its minimum green begins
unfoldable pub clears_lock : Bool → Position → ℕ → Bool
clears_lock ended new p = ended && is_minimum_green new.interval && eqb p new.phase

unfoldable pub locks_left : Bool → Position → ℕ → ℕ
locks_left ended new locks = set_of (λ p. bit p locks && not (clears_lock ended new p))

-- start red or all-red has ended: a phase starts
unfoldable pub starts : Bool → Position → Bool
starts ended old = ended && is_before_start old.interval
