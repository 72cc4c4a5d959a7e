-- Part 2 of a step: movements. Walk, C1 and C2 follow each other; each ends when its age has reached its setting, and then the movement is
-- idle. A walk also goes on until it may end.
use Rattle.std.specs.Prelude.{ℕ, ◌+◌, min, Bool, true, ◌&&◌, ◌||◌, List, eqb, leb, get_or, if◌then◌else◌}
use Rattle.rules.specs.Types.{PhaseTimes, Times, WalkTimes, Counts, Interval, Movement, Stage, Idle, Walk, ClearanceOne, ClearanceTwo}
use Rattle.laws.specs.Folds.{list_of}
use Rattle.rules.specs.Site.{walk_times}
use Rattle.rules.specs.IntervalTable.{is_running}
use Rattle.rules.specs.State.{highest_age, idle}

-- the next age: one more, but at most 2,000
unfoldable pub older : ℕ → ℕ
older age = min (age + 1) highest_age

-- A walk of at least W steps may end: the interval is running, another phase is demanded, and the gap count is 0 or the maximum count has
-- reached X. Interval and counts are those before part 3.
unfoldable pub walk_may_end : Interval → PhaseTimes → Bool → Counts → Bool
walk_may_end interval times another counts =
    is_running interval && another && (eqb counts.gap 0 || eqb counts.maximum times.maximum)

-- one step of a stage: it ends if its age is at least the setting and it may end, and `next` follows
unfoldable pub lasting : Bool → ℕ → Stage → Stage → ℕ → Movement
lasting may_end setting stage next age =
    if may_end && leb setting age then record { stage = next; age = 1 } else record { stage = stage; age = older age }

unfoldable pub advanced : Bool → Stage → WalkTimes → ℕ → Movement
advanced may_end Idle times age = record { stage = Idle; age = age }
advanced may_end Walk times age = lasting may_end times.walk Walk ClearanceOne age
advanced may_end ClearanceOne times age = lasting true times.first ClearanceOne ClearanceTwo age
advanced may_end ClearanceTwo times age = lasting true times.second ClearanceTwo Idle age

unfoldable pub movements_after : Times → Bool → List Movement → List Movement
movements_after times may_end movements =
    list_of (λ k. advanced may_end (get_or movements k idle).stage (walk_times times k) (get_or movements k idle).age) 8
