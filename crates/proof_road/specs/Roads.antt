-- What is promised of the simulated road: its vehicles are counted right, no step call in it is refused, demand 3 holds of it, and every refusal of the call
-- is a written one.
use Rattle.std.specs.Prelude.{ℕ, ◌+◌, ◌-◌, ◌*◌, ◌/◌, ◌%◌, ◌≤◌, ◌<◌, Bool, true, false, ◌||◌, List, map, ◌⊎◌, ◌≡◌, eqb, ltb, length, if◌then◌else◌}
use Rattle.rules.specs.Verdicts.{Accepted, Refused}
use Rattle.laws.specs.Bytes.{two_at}
use Rattle.laws.specs.Folds.{sum_of, list_of}
use Rattle.rules.specs.Personality.{verdict_of}
use Rattle.rules.specs.Site.{site_of}
use Rattle.rules.specs.Timed.{TimedState, with_own_times, timed_valid}
use Rattle.rules.specs.TimedCall.{timed_verdict}
use Rattle.rules.specs.Laws.{reading_number, PlaceIn}
use Rattle.rules.specs.Runs.{by_rules, StepCall, step_call, taken_from, left_by}
use Rattle.rules.specs.StepDemandThree.{SafeStepRun}
use Rattle.road_streams.specs.declared.Traffic.{Traffic}
use Rattle.road_streams.specs.Road.{stream_count, stream_at, bad_streams, traffic_of, arrivals, inputs_of, blank_colours, road_after, road_verdict, road_results}

-- ── Vehicles ──

-- the vehicles that join the queue of stream i in the step after n steps
unfoldable pub joining : List ℕ → List ℕ → ℕ → ℕ → ℕ
joining b streams i n =
    let traffic = (road_after b streams n).traffic in
    (traffic_of (arrivals streams traffic) i).queued - (traffic_of traffic i).queued

-- the arrivals of stream i: the vehicles that join its queue in the first n steps
unfoldable pub arrivals_in : List ℕ → List ℕ → ℕ → ℕ → ℕ
arrivals_in b streams i n = sum_of (joining b streams i) n

-- in each step one vehicle joins if the remainder and the rate reach 36,000, and none otherwise
unfoldable pub JoinsOnReaching : Type 0
JoinsOnReaching =
    (b streams : List ℕ) (n i : ℕ) →
    i < stream_count streams →
    let t = traffic_of (road_after b streams n).traffic i in
    joining b streams i n ≡ (if ltb (t.remainder + (stream_at streams i).rate) 36000 then 0 else 1)

-- After n steps at a rate the arrivals are the whole part of rate × n / 36,000, and they equal the vehicles queued plus the vehicles gone. The remainder is
-- that of the division. In the steps that a call may have, at most 9,000 vehicles arrive.
pub record Arrived (rate n arrived : ℕ) (t : Traffic) : Type 0 where
  pub arrivals : arrived ≡ rate * n / 36000
  pub vehicles : arrived ≡ t.queued + t.gone
  pub remainder : t.remainder ≡ rate * n % 36000
  pub few : n ≤ 180000 → arrived ≤ 9000

-- every stream of a call that is not refused with 22, after every number of steps
unfoldable pub ArrivalsAreCounted : Type 0
ArrivalsAreCounted =
    (b streams : List ℕ) (steps : ℕ) →
    bad_streams (site_of b) streams steps ≡ false →
    (n i : ℕ) →
    i < stream_count streams →
    Arrived (stream_at streams i).rate n (arrivals_in b streams i n) (traffic_of (road_after b streams n).traffic i)

-- After n steps at a rate the remainder is rate × n mod 36,000, and the vehicles queued and gone together are the whole part of rate × n / 36,000:
-- at most 9,000.
pub record Counted (rate n : ℕ) (t : Traffic) : Type 0 where
  pub remainder : t.remainder ≡ rate * n % 36000
  pub vehicles : t.queued + t.gone ≡ rate * n / 36000
  pub few : t.queued + t.gone ≤ 9000

-- every stream of a call that is not refused with 22, after every number of steps
unfoldable pub VehiclesAreCounted : Type 0
VehiclesAreCounted =
    (b streams : List ℕ) (steps : ℕ) →
    bad_streams (site_of b) streams steps ≡ false →
    (n i : ℕ) →
    n ≤ steps →
    i < stream_count streams →
    Counted (stream_at streams i).rate n (traffic_of (road_after b streams n).traffic i)

-- The bytes that an accepted call leaves in the result buffer, read again: for each stream, in the order handed in, its vehicles queued and gone after the last
-- step. Together they are the whole part of rate × steps / 36,000.
pub record ResultOf (results : List ℕ) (i rate steps : ℕ) (t : Traffic) : Type 0 where
  pub queued : two_at results (4 * i) ≡ t.queued
  pub gone : two_at results (4 * i + 2) ≡ t.gone
  pub vehicles : two_at results (4 * i) + two_at results (4 * i + 2) ≡ rate * steps / 36000

unfoldable pub ResultsAreCounted : Type 0
ResultsAreCounted =
    (b streams : List ℕ) (steps : ℕ) (state_fits : Bool) (old : List ℕ) →
    road_verdict b streams steps state_fits (length old) ≡ Accepted →
    (i : ℕ) →
    i < stream_count streams →
    ResultOf (road_results b streams steps state_fits old) i (stream_at streams i).rate steps (traffic_of (road_after b streams steps).traffic i)

-- ── Step calls ──

-- the input bits of the step after n steps
unfoldable pub inputs_at : List ℕ → List ℕ → ℕ → ℕ
inputs_at b streams n = inputs_of streams (arrivals streams (road_after b streams n).traffic)

-- the state handed to it: the personality's own times rule
abbrev pub state_at : List ℕ → List ℕ → ℕ → TimedState
state_at b streams n = with_own_times (site_of b) (road_after b streams n).state

-- no step call of the road is refused
unfoldable pub NoStepRefused : Type 0
NoStepRefused =
    (b streams : List ℕ) (steps : ℕ) →
    verdict_of b ≡ Accepted →
    bad_streams (site_of b) streams steps ≡ false →
    (n : ℕ) →
    timed_verdict b (state_at b streams n) (inputs_at b streams n) (length blank_colours) ≡ Accepted

-- every state of the road is valid
unfoldable pub RoadIsValid : Type 0
RoadIsValid =
    (b streams : List ℕ) (steps : ℕ) →
    verdict_of b ≡ Accepted →
    bad_streams (site_of b) streams steps ≡ false →
    (n : ℕ) →
    timed_valid (site_of b) (state_at b streams n) ≡ true

-- ── The list of its step calls ──

unfoldable pub call_at : List ℕ → List ℕ → ℕ → StepCall
call_at b streams n = record { inputs = inputs_at b streams n; buffer = blank_colours }

-- those of n steps, in order
unfoldable pub road_calls : List ℕ → List ℕ → ℕ → List StepCall
road_calls b streams n = list_of (call_at b streams) n

-- the state of the road is that of its list of calls
unfoldable pub RoadIsRun : Type 0
RoadIsRun = (b streams : List ℕ) (n : ℕ) → state_at b streams n ≡ left_by by_rules b (by_rules.fresh b) (map step_call (road_calls b streams n))

-- demand 3 holds of the list
unfoldable pub RoadIsSafe : Type 0
RoadIsSafe =
    (b streams : List ℕ) →
    verdict_of b ≡ Accepted →
    (n : ℕ) →
    SafeStepRun (site_of b) (taken_from by_rules b (by_rules.fresh b) (map step_call (road_calls b streams n)))

-- ── Refusals ──

-- the numbers of the call itself
abbrev pub road_number : ℕ → Bool
road_number number = eqb number 22 || eqb number 13 || eqb number 14

-- a number of the personality's checks with its place, or one of the call itself at 0
unfoldable pub RoadRefusalIsWritten : Type 0
RoadRefusalIsWritten =
    (b streams : List ℕ) (steps : ℕ) (state_fits : Bool) (room number place : ℕ) →
    road_verdict b streams steps state_fits room ≡ Refused number place →
    ((reading_number number ≡ true) × PlaceIn b place) ⊎ ((road_number number ≡ true) × (place ≡ 0))
