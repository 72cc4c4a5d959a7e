-- A table row for each interval and each stage, the tests of the rules that read the row, and tests of a phase-or-none value.
use Rattle.std.specs.Prelude.{ℕ, Bool, true, false, ◌&&◌, List, [], ◌∷◌, Option, Some, None}
use Rattle.rules.specs.Types.{Interval, StartRed, LateStart, MinimumGreen, Running, EarlyCutOff, Yellow, AllRed, IntervalRow, Stage, Idle, Walk, ClearanceOne, ClearanceTwo, StageRow}
use Rattle.laws.specs.Bytes.{bit}

-- ── Intervals ──

-- The letters are S, L, M, G, E, Y and R.
abbrev pub interval_row : Interval → IntervalRow
interval_row StartRed = record { code = 0; letter = 83; start = true; minimum = false; running = false; green = false; early = false; leaving = false; starts = true }
interval_row LateStart = record { code = 1; letter = 76; start = false; minimum = false; running = false; green = false; early = false; leaving = false; starts = false }
interval_row MinimumGreen = record { code = 2; letter = 77; start = false; minimum = true; running = false; green = true; early = false; leaving = false; starts = false }
interval_row Running = record { code = 3; letter = 71; start = false; minimum = false; running = true; green = true; early = false; leaving = false; starts = false }
interval_row EarlyCutOff = record { code = 4; letter = 69; start = false; minimum = false; running = false; green = false; early = true; leaving = true; starts = false }
interval_row Yellow = record { code = 5; letter = 89; start = false; minimum = false; running = false; green = false; early = false; leaving = true; starts = false }
interval_row AllRed = record { code = 6; letter = 82; start = false; minimum = false; running = false; green = false; early = false; leaving = true; starts = true }

-- all of them, in the order of their codes
abbrev pub intervals : List Interval
intervals = StartRed ∷ LateStart ∷ MinimumGreen ∷ Running ∷ EarlyCutOff ∷ Yellow ∷ AllRed ∷ []

abbrev pub is_start_red : Interval → Bool
is_start_red interval = (interval_row interval).start

abbrev pub is_minimum_green : Interval → Bool
is_minimum_green interval = (interval_row interval).minimum

abbrev pub is_running : Interval → Bool
is_running interval = (interval_row interval).running

-- minimum green or running
abbrev pub is_green : Interval → Bool
is_green interval = (interval_row interval).green

abbrev pub is_early : Interval → Bool
is_early interval = (interval_row interval).early

-- early cut-off green, yellow or all-red: the phase is being left
abbrev pub is_leaving : Interval → Bool
is_leaving interval = (interval_row interval).leaving

-- start red or all-red: a phase starts when it ends
abbrev pub is_before_start : Interval → Bool
is_before_start interval = (interval_row interval).starts

-- all-red: the phase is being left, and another starts when it ends
abbrev pub is_all_red : Interval → Bool
is_all_red interval = is_leaving interval && is_before_start interval

-- the interval's letter in a trace, as its ASCII code
unfoldable pub letter_of : Interval → ℕ
letter_of interval = (interval_row interval).letter

-- ── Stages ──

abbrev pub stage_row : Stage → StageRow
stage_row Idle = record { code = 0; idle = true; walk = false; holding = false; second = false }
stage_row Walk = record { code = 1; idle = false; walk = true; holding = true; second = false }
stage_row ClearanceOne = record { code = 2; idle = false; walk = false; holding = true; second = false }
stage_row ClearanceTwo = record { code = 3; idle = false; walk = false; holding = false; second = true }

-- all of them, in the order of their codes
abbrev pub stages : List Stage
stages = Idle ∷ Walk ∷ ClearanceOne ∷ ClearanceTwo ∷ []

abbrev pub is_idle : Stage → Bool
is_idle stage = (stage_row stage).idle

abbrev pub is_walk : Stage → Bool
is_walk stage = (stage_row stage).walk

-- walk or C1
abbrev pub is_walk_or_first : Stage → Bool
is_walk_or_first stage = (stage_row stage).holding

abbrev pub is_second : Stage → Bool
is_second stage = (stage_row stage).second

-- ── A phase or none ──

unfoldable pub is_held : Option ℕ → Bool
is_held None = false
is_held (Some p) = true

-- the phase, or 0 if there is none
unfoldable pub phase_held : Option ℕ → ℕ
phase_held None = 0
phase_held (Some p) = p

-- there is a phase, and it is in the set
unfoldable pub held_in : Option ℕ → ℕ → Bool
held_in None set = false
held_in (Some p) set = bit p set
