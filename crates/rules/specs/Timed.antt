-- New times while running. The state has the times that rule, and beside them times that may wait. Waiting times rule from the next start
-- of a phase on.
use Rattle.std.specs.Prelude.{ℕ, Bool, false, ◌&&◌, if◌then◌else◌}
use Rattle.rules.specs.Types.{Site, Times, KeptState, State}
use Rattle.rules.specs.Site.{phase_times}
use Rattle.rules.specs.SiteTimes.{under, no_times, admitted, blank}
use Rattle.rules.specs.IntervalTable.{is_before_start}
use Rattle.rules.specs.Movements.{movements_after}
use Rattle.rules.specs.Interval.{ends}
use Rattle.rules.specs.Kept.{fresh_kept, kept_valid, kept_stepped_into}
use Rattle.rules.specs.State.{no_counts}

-- The times that wait until a phase next starts, if some do. If none do, every time is 0.
pub record Waiting : Type 0 where
  pub present : Bool
  pub times : Times

-- A kept state with the times that rule in it and those that wait.
pub record TimedState : Type 0 where
  pub core : State
  pub kept : ℕ
  pub ruling : Times
  pub waiting : Waiting

-- ── Parts of a timed state ──

-- without its times
abbrev pub kept_of : TimedState → KeptState
kept_of s = record { core = s.core; kept = s.kept }

-- the site with the times that rule in the state
abbrev pub ruled_site : Site → TimedState → Site
ruled_site site s = under site s.ruling

unfoldable pub none_waiting : Waiting
none_waiting = record { present = false; times = no_times }

-- a state in which the personality's own times rule and none wait
abbrev pub with_own_times : Site → KeptState → TimedState
with_own_times site s = record { core = s.core; kept = s.kept; ruling = site.times; waiting = none_waiting }

unfoldable pub fresh_timed : Site → TimedState
fresh_timed site = with_own_times site fresh_kept

-- ── The valid state ──

-- waiting times are times that the site may have; if none wait, every time is 0
unfoldable pub waiting_valid : Site → Waiting → Bool
waiting_valid site waiting = if waiting.present then admitted site waiting.times else blank site waiting.times

-- the ruling times are times that the site may have, and the rest of the state is valid under them
unfoldable pub timed_valid : Site → TimedState → Bool
timed_valid site s = admitted site s.ruling && waiting_valid site s.waiting && kept_valid (ruled_site site s) (kept_of s)

-- ── When waiting times take over ──

-- Start red or all-red ends in the next step, so a phase starts in it. This does not depend on the inputs of that step.
unfoldable pub starts_next : Site → State → Bool
starts_next site s =
    is_before_start s.position.interval
    && ends s.position.interval site.times.start (phase_times site.times s.position.phase) s.position.age false
    (movements_after site.times false s.movements)
    s.counts

unfoldable pub takes_over : Site → TimedState → Bool
takes_over site s = s.waiting.present && starts_next (ruled_site site s) s.core

-- ── The step ──

-- both counts set to 0
abbrev pub without_counts : KeptState → KeptState
without_counts s =
    let core : State = record { position = s.core.position; counts = no_counts; demands = s.core.demands; movements = s.core.movements } in
    record { core = core; kept = s.kept }

-- the times that rule after the next step
unfoldable pub ruling_next : Site → TimedState → Times
ruling_next site s = if takes_over site s then s.waiting.times else s.ruling

-- Waiting times rule from the start of the phase on, and this start sets both counts to 0 first. Up to the end of the interval the step goes
-- by the times that ruled before.
unfoldable pub timed_stepped : Site → TimedState → ℕ → TimedState
timed_stepped site s inputs =
    let over = takes_over site s in
    let ruling = ruling_next site s in
    let next = kept_stepped_into ruling (ruled_site site s) (if over then without_counts (kept_of s) else kept_of s) inputs in
    record {
      core = next.core;
      kept = next.kept;
      ruling = ruling;
      waiting = if over then none_waiting else s.waiting;
    }
