-- The fresh state, and the valid states of a site, clause by clause.
use Rattle.std.specs.Prelude.{ℕ, Bool, true, not, ◌&&◌, ◌||◌, List, eqb, leb, ltb, get_or, replicate, Option, Some, None}
use Rattle.rules.specs.Types.{PhaseTimes, Site, Counts, Demands, Interval, StartRed, Movement, Position, Idle, State}
use Rattle.laws.specs.Bytes.{bit}
use Rattle.laws.specs.Folds.{all_of}
use Rattle.rules.specs.IntervalTable.{is_idle, is_walk_or_first, is_start_red, is_early, is_leaving}
use Rattle.rules.specs.Site.{phase_times, crosses}

abbrev pub idle : Movement
idle = record { stage = Idle; age = 1 }

abbrev pub no_counts : Counts
no_counts = record { gap = 0; maximum = 0 }

-- Start red of phase A at age 1; no came-from, no target, both counts 0, no demands, all movements idle.
unfoldable pub fresh : State
fresh =
    record {
      position = record { phase = 0; interval = StartRed; age = 1; previous = None; target = None };
      counts = no_counts;
      demands = record { locks = 0; buttons = 0 };
      movements = replicate 8 idle;
    }

-- ── Parts of a state ──

abbrev pub highest_age : ℕ
highest_age = 2000

unfoldable pub locked : State → ℕ → Bool
locked s p = bit p s.demands.locks

unfoldable pub asked : State → ℕ → Bool
asked s k = bit k s.demands.buttons

unfoldable pub movement : State → ℕ → Movement
movement s k = get_or s.movements k idle

-- ── The valid state ──

-- without a section of kind 7 a state in early cut-off green is not valid
unfoldable pub interval_valid : Bool → Interval → Bool
interval_valid early interval = early || not (is_early interval)

-- in a leaving interval the target is another phase; in the other intervals there is none
unfoldable pub target_valid : ℕ → ℕ → Bool → Option ℕ → Bool
target_valid count phase leaving None = not leaving
target_valid count phase leaving (Some t) = leaving && ltb t count && not (eqb t phase)

-- came-from a phase or none
unfoldable pub previous_valid : ℕ → Option ℕ → Bool
previous_valid count None = true
previous_valid count (Some q) = ltb q count

unfoldable pub age_valid : ℕ → Bool
age_valid age = leb 1 age && leb age highest_age

-- the phase below P, the interval, the target, came-from and the age
unfoldable pub position_valid : Bool → ℕ → Position → Bool
position_valid early phases position =
    ltb position.phase phases
    && interval_valid early position.interval
    && target_valid phases position.phase (is_leaving position.interval) position.target
    && previous_valid phases position.previous
    && age_valid position.age

-- the gap count is not above G of the phase, and the maximum count not above X
unfoldable pub counts_valid : PhaseTimes → Counts → Bool
counts_valid times counts = leb counts.gap times.gap && leb counts.maximum times.maximum

-- demands only for phases and movements that exist
unfoldable pub demands_valid : ℕ → ℕ → Demands → Bool
demands_valid phases movements demands =
    all_of (λ p. not (bit p demands.locks) || ltb p phases) 8 && all_of (λ k. not (bit k demands.buttons) || ltb k movements) 8

-- One movement record. A record that is not of the phase is idle; `of_phase` says which it is. In start red every record is idle, and in a
-- leaving interval none is in walk or C1. An idle record has age 1.
unfoldable pub movement_valid : Bool → Interval → Movement → Bool
movement_valid of_phase interval m =
    age_valid m.age
    && (of_phase || is_idle m.stage)
    && not (is_leaving interval && is_walk_or_first m.stage)
    && (not (is_start_red interval) || is_idle m.stage)
    && (not (is_idle m.stage) || eqb m.age 1)

unfoldable pub movements_valid : ℕ → List ℕ → Position → List Movement → Bool
movements_valid count crossings position movements =
    all_of (λ k. movement_valid (ltb k count && crosses crossings k position.phase) position.interval (get_or movements k idle)) 8

unfoldable pub valid : Site → State → Bool
valid site s =
    position_valid site.early site.size.phases s.position
    && counts_valid (phase_times site.times s.position.phase) s.counts
    && demands_valid site.size.phases site.size.movements s.demands
    && movements_valid site.size.movements site.crossings s.position s.movements
