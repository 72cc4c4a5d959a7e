-- Why the phase of a state in running holds. It is read from the state after a step and, of that step's inputs, from the non-locking calls only.
use Rattle.std.specs.Prelude.{ℕ, ◌-◌, Bool, not, ◌||◌, List, [], get_or, if◌then◌else◌}
use Rattle.rules.specs.declared.site.Site.{Site}
use Rattle.rules.specs.declared.state.KeptState.{KeptState}
use Rattle.rules.specs.declared.state.Movement.{Movement}
use Rattle.rules.specs.Site.{phase_times, ring}
use Rattle.rules.specs.IntervalTable.{is_running, is_walk_or_first, is_held}
use Rattle.rules.specs.State.{idle}
use Rattle.rules.specs.Demands.{calls, next_after}
use Rattle.rules.specs.Kept.{is_kept}
use Rattle.rules.specs.Timed.{TimedState, kept_of}
use Rattle.panel_text.specs.declared.Reason.{Reason}
use Rattle.panel_text.specs.Text.{line}
use Rattle.panel_line.specs.Reasons.{reasons_by}

-- no other phase is demanded: none but that of the state is in the kept set or has a call
unfoldable pub no_other : Site → KeptState → ℕ → Bool
no_other site s inputs =
    not
    (is_held
    (next_after (ring site.order site.size.phases) s.core.position.phase
    (λ p. is_kept s p || calls site s.core inputs p)))

-- X of the times that rule, less the maximum count
unfoldable pub steps_left : TimedState → ℕ
steps_left s = (phase_times s.ruling s.core.position.phase).maximum - s.core.counts.maximum

-- movement k, counted from 0, is in walk or C1; a record that the site does not have is idle in a valid state
unfoldable pub walking_among : List Movement → ℕ → Bool
walking_among movements k = is_walk_or_first (get_or movements k idle).stage

unfoldable pub reasons_of : Site → TimedState → ℕ → List Reason
reasons_of site s inputs =
    reasons_by (no_other site (kept_of s) inputs) s.core.counts.gap (steps_left s) (walking_among s.core.movements)

-- in other intervals than running the line has no bytes
unfoldable pub panel_line : Site → TimedState → ℕ → List ℕ
panel_line site s inputs =
    if is_running s.core.position.interval then line s.core.position.phase (reasons_of site s inputs) else []
