-- Worked cases of the simulated road, in a single list with one statement: each of them holds. The site is the junction of two phases.
use Rattle.std.specs.Prelude.{ℕ, zero, suc, Bool, true, false, List, [], ◌∷◌, ◌++◌, map, ◌≡◌}
use Rattle.rules.specs.Verdicts.{Verdict}
use Rattle.rules.specs.Verdicts.{Accepted, Refused}
use Rattle.rules.specs.declared.state.Interval.{Interval}
use Rattle.rules.specs.declared.state.Interval.TheVariants.{StartRed, MinimumGreen, Running}
use Rattle.rules.specs.Junctions.{junction, crossing}
use Rattle.rules.specs.CallCases.{AllHold}
use Rattle.road_streams.specs.declared.Traffic.{Traffic}
use Rattle.road_streams.specs.Road.{Road, road_after, road_verdict}

-- where the controller stands, and the vehicles queued and gone of each stream
pub record Seen : Type 0 where
  pub phase : ℕ
  pub interval : Interval
  pub age : ℕ
  pub vehicles : List (ℕ × ℕ)

unfoldable pub seen : Road → Seen
seen road =
    let position = road.state.core.position in
    record {
      phase = position.phase;
      interval = position.interval;
      age = position.age;
      vehicles = map (λ (t : Traffic). (t.queued, t.gone)) road.traffic;
    }

-- so many times the same bytes
unfoldable pub times : ℕ → List ℕ → List ℕ
times zero bytes = []
times (suc n) bytes = bytes ++ times n bytes

-- a road of so many steps; or the verdict of a call, by whether its state buffer has the length of a state, and by the room for results
pub data Case : Type 0 where
  running : List ℕ → ℕ → Seen → Case
  calling : List ℕ → List ℕ → ℕ → Bool → ℕ → Verdict → Case

abbrev pub Holds : Case → Type 0
Holds (running streams steps end) = seen (road_after junction streams steps) ≡ end
Holds (calling b streams steps fits room verdict) = road_verdict b streams steps fits room ≡ verdict

unfoldable pub cases : List Case
cases =
    -- no steps give the fresh state
    running (0 ∷ 0 ∷ 8 ∷ 7 ∷ []) 0 (record { phase = 0; interval = StartRed; age = 1; vehicles = (0, 0) ∷ [] })
    -- detector 0 and group 0, detector 1 and group 1, both at 1,800
    ∷ running (0 ∷ 0 ∷ 8 ∷ 7 ∷ 1 ∷ 1 ∷ 8 ∷ 7 ∷ []) 200
    (record { phase = 0; interval = MinimumGreen; age = 11; vehicles = (8, 2) ∷ (8, 2) ∷ [] })
    -- group 0 at 1,800 and group 1 at 900, both at detector 1
    ∷ running (1 ∷ 0 ∷ 8 ∷ 7 ∷ 1 ∷ 1 ∷ 132 ∷ 3 ∷ []) 200
    (record { phase = 1; interval = Running; age = 110; vehicles = (10, 0) ∷ (1, 4) ∷ [] })
    -- the same after 20 green steps of B: the first vehicle leaves by the colour after the controller's step
    ∷ running (1 ∷ 0 ∷ 8 ∷ 7 ∷ 1 ∷ 1 ∷ 132 ∷ 3 ∷ []) 90
    (record { phase = 1; interval = MinimumGreen; age = 20; vehicles = (4, 0) ∷ (1, 1) ∷ [] })
    -- no streams and no steps; a rate of 1,800, 48 streams and 180,000 steps; one more of each
    ∷ calling junction [] 0 true 0 Accepted
    ∷ calling junction (times 48 (1 ∷ 1 ∷ 8 ∷ 7 ∷ [])) 180000 true 192 Accepted
    ∷ calling junction (1 ∷ 1 ∷ 9 ∷ 7 ∷ []) 1 true 4 (Refused 22 0)
    ∷ calling junction (times 49 (1 ∷ 1 ∷ 8 ∷ 7 ∷ [])) 1 true 196 (Refused 22 0)
    ∷ calling junction (1 ∷ 1 ∷ 8 ∷ 7 ∷ []) 180001 true 4 (Refused 22 0)
    -- a detector and a group that the site does not have, a pedestrian group, and a cut stream behind a whole one
    ∷ calling junction (2 ∷ 1 ∷ 8 ∷ 7 ∷ []) 1 true 4 (Refused 22 0)
    ∷ calling junction (1 ∷ 2 ∷ 8 ∷ 7 ∷ []) 1 true 4 (Refused 22 0)
    ∷ calling crossing (1 ∷ 1 ∷ 8 ∷ 7 ∷ []) 1 true 4 Accepted
    ∷ calling crossing (1 ∷ 2 ∷ 8 ∷ 7 ∷ []) 1 true 4 (Refused 22 0)
    ∷ calling junction (1 ∷ 1 ∷ 8 ∷ 7 ∷ 1 ∷ []) 1 true 8 (Refused 22 0)
    -- the second of two streams is bad
    ∷ calling junction (1 ∷ 1 ∷ 8 ∷ 7 ∷ 1 ∷ 1 ∷ 9 ∷ 7 ∷ []) 1 true 8 (Refused 22 0)
    -- the personality, then 22, then 13, then 14
    ∷ calling [] (2 ∷ []) 1 false 0 (Refused 1 0)
    ∷ calling junction (2 ∷ []) 1 false 0 (Refused 22 0)
    ∷ calling junction (1 ∷ 1 ∷ 8 ∷ 7 ∷ []) 1 false 0 (Refused 13 0)
    ∷ calling junction (1 ∷ 1 ∷ 8 ∷ 7 ∷ []) 1 true 3 (Refused 14 0)
    ∷ []

unfoldable pub RoadCasesHold : Type 0
RoadCasesHold = AllHold Holds cases
