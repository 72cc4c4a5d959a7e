-- One step of one stream keeps count of its vehicles: 36,000 for each vehicle queued or gone, and the remainder, make rate × n. So the remainder and the
-- vehicles are those of the division of rate × n by 36,000. What joins the queue is queued or gone after the step, so these vehicles are the arrivals.
use Prim.Native.Nat.{ℕ, zero, suc, ◌+◌, ◌*◌, ◌-◌, ◌/◌, ◌%◌, ◌≤◌, ◌<◌}
use mathlib.Core.Bool.{Bool, true, false, ◌&&◌}
use mathlib.Core.List.{List}
use mathlib.Core.Path.{◌≡◌, refl, sym, ◌∙◌, ap}
use lib.Dec.{ltb, eqb}
use native.Mathlib.Nat.{mul-suc, mul-zero, mul-add-div, mul-add-mod_self_left, div-eq_of_lt, mod-eq_of_lt, mul-le-mul}
use native.Mathlib.Omega.{arith}
use borrow.Author.Tests.{ltb-true, ltb-false, eqb-false}
use Rattle.std.specs.Prelude.{if◌then◌else◌}
use Rattle.laws.specs.Bytes.{byte_at}
use Rattle.laws.specs.Folds.{sum_of}
use Rattle.laws.proofs.Booleans.{and_right}
use Rattle.laws.proofs.Lists.{list_at}
use Rattle.rules.specs.Colours.{green}
use Rattle.rules.specs.Timed.{with_own_times}
use Rattle.rules.specs.Runs.{by_rules}
use Rattle.rules.specs.Site.{site_of}
use Rattle.road_streams.specs.declared.Traffic.{Traffic}
use Rattle.road_streams.specs.Road.{stream_count, stream_at, no_traffic, queues, arrived, counted, released, traffic_of, arrivals, inputs_of, releases, blank_colours, fresh_road, road_stepped, road_after}
use Rattle.proof_road.specs.Roads.{joining, arrivals_in, JoinsOnReaching, Arrived, ArrivalsAreCounted, Counted, VehiclesAreCounted}
use Rattle.proof_road.proofs.Streams.{known-streams}

pub record Flow (rate n : ℕ) (t : Traffic) : Type 0 where
  pub even : 36000 * (t.queued + t.gone) + t.remainder ≡ rate * n
  pub below : t.remainder < 36000
  pub counting : t.count < 20

-- ── One stream ──

pub flow-none : (rate : ℕ) → Flow rate 0 no_traffic
unfolding no_traffic
flow-none rate = record { even = omega (arith, mul-zero rate); below = omega arith; counting = omega arith }

pub flow-arrived : (rate n : ℕ) (t : Traffic) → rate ≤ 36000 → Flow rate n t → Flow rate (suc n) (arrived rate t)
unfolding arrived
flow-arrived rate n t small flow = step (ltb (t.remainder + rate) 36000) refl
  where
    step :
        (u : Bool) →
        ltb (t.remainder + rate) 36000 ≡ u →
        Flow rate (suc n)
        (if u
        then record { remainder = t.remainder + rate; queued = t.queued; gone = t.gone; count = t.count }
        else record { remainder = t.remainder + rate - 36000; queued = t.queued + 1; gone = t.gone; count = t.count })
    step true e =
        record {
          even = omega (arith, flow.even, mul-suc rate n);
          below = ltb-true (t.remainder + rate) 36000 e;
          counting = flow.counting;
        }
    step false e =
        let reached = ltb-false (t.remainder + rate) 36000 e in
        record {
          even = omega (arith, flow.even, mul-suc rate n);
          below = omega (arith, flow.below);
          counting = flow.counting;
        }

flow-counted : (rate n : ℕ) (t : Traffic) → queues t ≡ true → Flow rate n t → Flow rate n (counted t)
unfolding counted queues
flow-counted rate n t waiting flow = step (eqb (t.count + 1) 20) refl
  where
    step :
        (u : Bool) →
        eqb (t.count + 1) 20 ≡ u →
        Flow rate n
        (if u
        then record { remainder = t.remainder; queued = t.queued - 1; gone = t.gone + 1; count = 0 }
        else record { remainder = t.remainder; queued = t.queued; gone = t.gone; count = t.count + 1 })
    step true e =
        let some = ltb-true 0 t.queued waiting in
        record { even = omega (arith, flow.even); below = flow.below; counting = omega arith }
    step false e =
        let not_yet = eqb-false (t.count + 1) 20 e in
        record { even = flow.even; below = flow.below; counting = omega (arith, flow.counting, not_yet) }

pub flow-released : (rate n colour : ℕ) (t : Traffic) → Flow rate n t → Flow rate n (released colour t)
unfolding released
flow-released rate n colour t flow = step (eqb colour green && queues t) refl
  where
    step :
        (u : Bool) →
        (eqb colour green && queues t) ≡ u →
        Flow rate n
        (if u then counted t else record { remainder = t.remainder; queued = t.queued; gone = t.gone; count = 0 })
    step true e = flow-counted rate n t (and_right (eqb colour green) (queues t) e) flow
    step false e = record { even = flow.even; below = flow.below; counting = omega arith }

-- ── All streams ──

module _ (b streams : List ℕ) (i : ℕ) (l : i < stream_count streams) where
  pub fresh_at : traffic_of (fresh_road streams).traffic i ≡ no_traffic
  unfolding traffic_of fresh_road
  fresh_at = list_at (λ i. no_traffic) (stream_count streams) i no_traffic l

  pub arrivals-at : (traffic : List Traffic) → traffic_of (arrivals streams traffic) i ≡ arrived (stream_at streams i).rate (traffic_of traffic i)
  unfolding traffic_of arrivals
  arrivals-at traffic = list_at (λ i. arrived (stream_at streams i).rate (traffic_of traffic i)) (stream_count streams) i no_traffic l

  pub releases-at :
      (colours : List ℕ) (traffic : List Traffic) →
      traffic_of (releases streams colours traffic) i ≡ released (byte_at colours (stream_at streams i).group) (traffic_of traffic i)
  unfolding traffic_of releases
  releases-at colours traffic = list_at (λ i. released (byte_at colours (stream_at streams i).group) (traffic_of traffic i)) (stream_count streams) i no_traffic l

  pub road-flow : (stream_at streams i).rate ≤ 36000 → (n : ℕ) → Flow (stream_at streams i).rate n (traffic_of (road_after b streams n).traffic i)
  unfolding road_after road_stepped
  road-flow small zero = rw fresh_at (flow-none _)
  road-flow small (suc n) =
      let road = road_after b streams n in
      let waiting = arrivals streams road.traffic in
      let colours = by_rules.buffer b (with_own_times (site_of b) road.state) (inputs_of streams waiting) blank_colours in
      rw (releases-at colours waiting, arrivals-at road.traffic)
      (flow-released _ (suc n) _ _ (flow-arrived _ n _ small (road-flow small n)))

-- ── The arrivals ──

-- u is t after the arrivals of a step at a rate
record Joined (rate : ℕ) (t u : Traffic) : Type 0 where
  pub one : u.queued - t.queued ≡ (if ltb (t.remainder + rate) 36000 then 0 else 1)
  pub longer : u.queued ≡ t.queued + (u.queued - t.queued)
  pub gone : u.gone ≡ t.gone

joined : (rate : ℕ) (t : Traffic) → Joined rate t (arrived rate t)
unfolding arrived
joined rate t = by (ltb (t.remainder + rate) 36000) refl
  where
    by :
        (u : Bool) →
        ltb (t.remainder + rate) 36000 ≡ u →
        Joined rate t
        (if u
        then record { remainder = t.remainder + rate; queued = t.queued; gone = t.gone; count = t.count }
        else record { remainder = t.remainder + rate - 36000; queued = t.queued + 1; gone = t.gone; count = t.count })
    by true e = record { one = rw e (omega arith); longer = omega arith; gone = refl }
    by false e = record { one = rw e (omega arith); longer = omega arith; gone = refl }

-- a release moves a vehicle from those queued to those gone
released-same : (colour : ℕ) (t : Traffic) → (released colour t).queued + (released colour t).gone ≡ t.queued + t.gone
unfolding released counted queues
released-same colour t = by (eqb colour green && ltb 0 t.queued) refl (eqb (t.count + 1) 20)
  where
    by :
        (u : Bool) →
        (eqb colour green && ltb 0 t.queued) ≡ u →
        (v : Bool) →
        let after : Traffic =
        if u
        then (if v
        then record { remainder = t.remainder; queued = t.queued - 1; gone = t.gone + 1; count = 0 }
        else record { remainder = t.remainder; queued = t.queued; gone = t.gone; count = t.count + 1 })
        else record { remainder = t.remainder; queued = t.queued; gone = t.gone; count = 0 } in
        after.queued + after.gone ≡ t.queued + t.gone
    by true e true = omega (arith, ltb-true 0 t.queued (and_right (eqb colour green) (ltb 0 t.queued) e))
    by true e false = refl
    by false e v = refl

module _ (b streams : List ℕ) (i : ℕ) (l : i < stream_count streams) where
  joined_at :
      (n : ℕ) →
      let traffic = (road_after b streams n).traffic in
      Joined (stream_at streams i).rate (traffic_of traffic i) (traffic_of (arrivals streams traffic) i)
  joined_at n = rw (arrivals-at b streams i l (road_after b streams n).traffic) (joined _ _)

  -- what joins is queued or gone
  arrivals-held : (n : ℕ) → let t = traffic_of (road_after b streams n).traffic i in arrivals_in b streams i n ≡ t.queued + t.gone
  unfolding arrivals_in sum_of joining road_after road_stepped no_traffic
  arrivals-held zero = rw (fresh_at b streams i l) refl
  arrivals-held (suc n) =
      let road = road_after b streams n in
      let waiting = arrivals streams road.traffic in
      let colours = by_rules.buffer b (with_own_times (site_of b) road.state) (inputs_of streams waiting) blank_colours in
      let more = joined_at n in
      rw (releases-at b streams i l colours waiting, released-same _ (traffic_of waiting i))
      (omega (arith, arrivals-held n, more.longer, more.gone))

pub joins-on-reaching : JoinsOnReaching
unfolding JoinsOnReaching joining
joins-on-reaching b streams n i l = (joined_at b streams i l n).one

-- ── The division ──

pub flow-few : (rate n : ℕ) (t : Traffic) → rate ≤ 1800 → n ≤ 180000 → Flow rate n t → t.queued + t.gone ≤ 9000
flow-few rate n t slow short flow = omega (arith, flow.even, mul-le-mul slow short)

-- the remainder is below 36,000, so the vehicles are the whole part of the division, and the remainder is its rest
flow-divided :
    (rate n came : ℕ) (t : Traffic) →
    rate ≤ 1800 →
    came ≡ t.queued + t.gone →
    Flow rate n t →
    Arrived rate n came t
flow-divided rate n came t slow held flow =
    let vehicles = t.queued + t.gone in
    record {
      arrivals =
          held
          ∙ sym
          (ap (λ (x : ℕ). x / 36000) (sym flow.even)
          ∙ mul-add-div {m = 36000} (omega arith) vehicles t.remainder
          ∙ ap (λ (x : ℕ). vehicles + x) (div-eq_of_lt flow.below)
          ∙ omega arith);
      vehicles = held;
      remainder = sym (ap (λ (x : ℕ). x % 36000) (sym flow.even) ∙ mul-add-mod_self_left 36000 vehicles t.remainder ∙ mod-eq_of_lt flow.below);
      few = λ short. omega (arith, held, flow-few rate n t slow short flow);
    }

pub arrivals-are-counted : ArrivalsAreCounted
unfolding ArrivalsAreCounted
arrivals-are-counted b streams steps known n i l =
    let slow = ((known-streams (site_of b) streams steps known).each i l).rate in
    flow-divided _ n _ _ slow (arrivals-held b streams i l n) (road-flow b streams i l (omega (arith, slow)) n)

-- as many as the arrivals, which are few in the steps that a call may have
pub vehicles-are-counted : VehiclesAreCounted
unfolding VehiclesAreCounted ArrivalsAreCounted
vehicles-are-counted b streams steps known n i within l =
    let told = arrivals-are-counted b streams steps known n i l in
    let short = (known-streams (site_of b) streams steps known).few in
    record {
      remainder = told.remainder;
      vehicles = sym told.vehicles ∙ told.arrivals;
      few = omega (arith, told.vehicles, told.few (omega (arith, short, within)));
    }
