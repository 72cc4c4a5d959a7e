-- Part 3 of a step: the gap count and the maximum count, in minimum green and running.
use Rattle.std.specs.Prelude.{ℕ, ◌+◌, ◌-◌, min, Bool, ◌&&◌, ◌||◌, ltb, if◌then◌else◌}
use Rattle.rules.specs.Types.{PhaseTimes, Counts, Interval}
use Rattle.rules.specs.IntervalTable.{is_green, is_running}

-- in minimum green and running the gap count is G if a detector extends the phase; else it counts down to 0
unfoldable pub gap_after : Interval → PhaseTimes → Bool → ℕ → ℕ
gap_after interval times extended gap = if is_green interval then (if extended then times.gap else gap - 1) else gap

-- in running the maximum count starts when another phase is demanded, and then counts every step up to X
unfoldable pub maximum_after : Interval → PhaseTimes → Bool → ℕ → ℕ
maximum_after interval times another maximum =
    if is_running interval && (another || ltb 0 maximum) then min (maximum + 1) times.maximum else maximum

unfoldable pub counts_after : Interval → PhaseTimes → Bool → Bool → Counts → Counts
counts_after interval times extended another counts =
    record { gap = gap_after interval times extended counts.gap; maximum = maximum_after interval times another counts.maximum }
