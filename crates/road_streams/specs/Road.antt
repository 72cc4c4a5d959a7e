-- Request eight of document 02: vehicles on a simulated road. Streams join queues and leave them, and the controller runs from the fresh state on what its
-- detectors see of the queues. Each step of the controller is a step call of the rules, by the personality's own times.
use Rattle.std.specs.Prelude.{ℕ, zero, suc, ◌+◌, ◌-◌, ◌*◌, ◌/◌, ◌%◌, ◌^◌, Bool, not, ◌&&◌, ◌||◌, List, ◌++◌, eqb, ltb, length, drop, get_or, replicate, if◌then◌else◌, Ok, Err}
use Rattle.rules.specs.Verdicts.{Verdict}
use Rattle.rules.specs.declared.site.Site.{Site}
use Rattle.rules.specs.declared.state.KeptState.{KeptState}
use Rattle.laws.specs.Folds.{any_of, sum_of, list_of}
use Rattle.laws.specs.Bytes.{byte_at, two_at}
use Rattle.rules.specs.Verdicts.{◌or_else◌, refuse_if}
use Rattle.rules.specs.Personality.{verdict_of}
use Rattle.rules.specs.Site.{site_of, is_pedestrian}
use Rattle.rules.specs.Kept.{fresh_kept}
use Rattle.rules.specs.Colours.{green}
use Rattle.rules.specs.Timed.{kept_of, with_own_times}
use Rattle.rules.specs.Runs.{by_rules}
use Rattle.state_forms.specs.Forms.{two, parts_of}
use Rattle.road_streams.specs.declared.Stream.{Stream}
use Rattle.road_streams.specs.declared.Traffic.{Traffic}

-- ── Streams: 4 bytes each, the detector, the group and the hourly rate in two ──

unfoldable pub stream_count : List ℕ → ℕ
stream_count streams = length streams / 4

unfoldable pub stream_at : List ℕ → ℕ → Stream
stream_at streams i =
    record { detector = byte_at streams (4 * i); group = byte_at streams (4 * i + 1); rate = two_at streams (4 * i + 2) }

-- ── Number 22 ──

-- group g is a vehicle group of the site
unfoldable pub vehicle_group : Site → ℕ → Bool
vehicle_group site g = ltb g site.size.groups && not (is_pedestrian site.groups g)

-- the rate is too high, or the site has no such detector or vehicle group
unfoldable pub bad_stream : Site → Stream → Bool
bad_stream site stream =
    ltb 1800 stream.rate || not (ltb stream.detector site.size.detectors) || not (vehicle_group site stream.group)

-- the bytes are not whole streams, there are more than 48 streams or more than 180,000 steps, or a stream is bad
unfoldable pub bad_streams : Site → List ℕ → ℕ → Bool
bad_streams site streams steps =
    not (eqb (length streams % 4) 0)
    || ltb 48 (stream_count streams)
    || ltb 180000 steps
    || any_of (λ i. bad_stream site (stream_at streams i)) (stream_count streams)

-- ── The traffic of one stream: the remainder, the vehicles queued and gone, and the count of a release ──

unfoldable pub no_traffic : Traffic
no_traffic = record { remainder = 0; queued = 0; gone = 0; count = 0 }

-- some vehicle waits
unfoldable pub queues : Traffic → Bool
queues t = ltb 0 t.queued

-- a sum of 36,000 or more is one vehicle, and the rest is kept
unfoldable pub arrived : ℕ → Traffic → Traffic
arrived rate t =
    let sum = t.remainder + rate in
    if ltb sum 36000
    then record { remainder = sum; queued = t.queued; gone = t.gone; count = t.count }
    else record { remainder = sum - 36000; queued = t.queued + 1; gone = t.gone; count = t.count }

-- a green step with a queue is counted; the 20th releases one vehicle, and the count is 0
unfoldable pub counted : Traffic → Traffic
counted t =
    if eqb (t.count + 1) 20
    then record { remainder = t.remainder; queued = t.queued - 1; gone = t.gone + 1; count = 0 }
    else record { remainder = t.remainder; queued = t.queued; gone = t.gone; count = t.count + 1 }

-- in any other colour, and with an empty queue, the count is 0
unfoldable pub released : ℕ → Traffic → Traffic
released colour t =
    if eqb colour green && queues t
    then counted t
    else record { remainder = t.remainder; queued = t.queued; gone = t.gone; count = 0 }

-- ── All streams ──

-- the traffic of stream i
unfoldable pub traffic_of : List Traffic → ℕ → Traffic
traffic_of traffic i = get_or traffic i no_traffic

unfoldable pub arrivals : List ℕ → List Traffic → List Traffic
arrivals streams traffic = list_of (λ i. arrived (stream_at streams i).rate (traffic_of traffic i)) (stream_count streams)

-- detector d is occupied: some stream that names it has a queue
unfoldable pub is_occupied : List ℕ → List Traffic → ℕ → Bool
is_occupied streams traffic d =
    any_of (λ i. eqb (stream_at streams i).detector d && queues (traffic_of traffic i)) (stream_count streams)

-- the input bits: the occupied detectors; other detectors and all buttons are clear
unfoldable pub inputs_of : List ℕ → List Traffic → ℕ
inputs_of streams traffic = sum_of (λ d. if is_occupied streams traffic d then 2 ^ d else 0) 48

-- by the colours of the groups, one byte each
unfoldable pub releases : List ℕ → List ℕ → List Traffic → List Traffic
releases streams colours traffic =
    list_of (λ i. released (byte_at colours (stream_at streams i).group) (traffic_of traffic i)) (stream_count streams)

-- ── The road: the controller's state, and the traffic of each stream ──

pub record Road : Type 0 where
  pub state : KeptState
  pub traffic : List Traffic

-- a colour buffer for as many groups as a site can have
unfoldable pub blank_colours : List ℕ
blank_colours = replicate 32 0

-- the fresh state, and no traffic
unfoldable pub fresh_road : List ℕ → Road
fresh_road streams = record { state = fresh_kept; traffic = list_of (λ i. no_traffic) (stream_count streams) }

-- one step at the site of the personality b: arrivals, then detectors, then the controller, then releases by the new colours
unfoldable pub road_stepped : List ℕ → List ℕ → Road → Road
road_stepped b streams road =
    let waiting = arrivals streams road.traffic in
    let inputs = inputs_of streams waiting in
    let own = with_own_times (site_of b) road.state in
    let colours = by_rules.buffer b own inputs blank_colours in
    record {
      state = kept_of (by_rules.next b own inputs (length blank_colours));
      traffic = releases streams colours waiting;
    }

unfoldable pub road_after : List ℕ → List ℕ → ℕ → Road
road_after b streams zero = fresh_road streams
road_after b streams (suc n) = road_stepped b streams (road_after b streams n)

-- ── The call ──

-- the personality's own refusals, then 22 at 0
unfoldable pub streams_verdict : List ℕ → List ℕ → ℕ → Verdict
streams_verdict b streams steps = verdict_of b or_else refuse_if (bad_streams (site_of b) streams steps) 22 0

-- then 13 at 0 if the state buffer does not have the length of a state, and 14 at 0 if the result buffer has fewer than 4 bytes for each stream
unfoldable pub road_verdict : List ℕ → List ℕ → ℕ → Bool → ℕ → Verdict
road_verdict b streams steps state_fits room =
    streams_verdict b streams steps or_else refuse_if (not state_fits) 13 0 or_else refuse_if (ltb room (length streams)) 14 0

-- the result of a stream: the vehicles queued and gone, two bytes each
unfoldable pub result_of : Traffic → List ℕ
result_of t = two.written t.queued ++ two.written t.gone

-- those of all streams, in the order handed in
unfoldable pub results_of : List ℕ → List Traffic → List ℕ
results_of streams traffic = parts_of (λ i. result_of (traffic_of traffic i)) (stream_count streams)

-- the result buffer: the results from its start on, and the bytes past them untouched; all of it untouched on a refusal
unfoldable pub results_for : Verdict → List ℕ → List ℕ → List ℕ
results_for (Ok _) results old = results ++ drop (length results) old
results_for (Err r) results old = old

unfoldable pub road_results : List ℕ → List ℕ → ℕ → Bool → List ℕ → List ℕ
road_results b streams steps state_fits old =
    results_for (road_verdict b streams steps state_fits (length old)) (results_of streams (road_after b streams steps).traffic) old
