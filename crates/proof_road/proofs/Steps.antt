-- No step call of the road is refused: its inputs are of detectors that the site has, its state is valid, and its buffer has room for all groups.
use Prim.Native.Nat.{ℕ, zero, suc, ◌≤◌, ◌<◌}
use mathlib.Core.Bool.{true, false, not, ◌&&◌}
use mathlib.Core.List.{List, ◌++◌}
use mathlib.Core.Logic.{◌⊎◌, ⊎_elim}
use mathlib.Core.Path.{◌≡◌, ◌∙◌}
use lib.Dec.{ltb, eqb}
use lib.ListN.{length, drop}
use native.Mathlib.Omega.{arith}
use borrow.Author.Tests.{eqb-true, lt-ltb, le-ltb}
use Rattle.rules.specs.Verdicts.{Accepted}
use Rattle.rules.specs.declared.site.Site.{Site}
use Rattle.rules.specs.declared.state.KeptState.{KeptState}
use Rattle.laws.specs.Bytes.{bit}
use Rattle.laws.proofs.Booleans.{decided, and_left, and-false-left, and-false-right}
use Rattle.laws.proofs.Indices.{below-or-past}
use Rattle.laws.proofs.Folds.{any_none, any_found}
use Rattle.rules.specs.Verdicts.{◌or_else◌, refuse_if}
use Rattle.rules.specs.Personality.{verdict_of}
use Rattle.rules.specs.Site.{site_of}
use Rattle.rules.specs.Kept.{kept_valid, kept_stepped}
use Rattle.rules.specs.Colours.{colours_of}
use Rattle.rules.specs.Timed.{TimedState, kept_of, with_own_times, none_waiting, timed_valid, takes_over, ruling_next, timed_stepped}
use Rattle.rules.specs.Call.{wired, stray_input, step_verdict, handed_back, buffer_for, checks_by}
use Rattle.rules.specs.TimedCall.{timed_verdict}
use Rattle.rules.specs.Runs.{by_rules}
use Rattle.rules.specs.Laws.{Sound, AcceptedIsSound}
use Rattle.rules.specs.TimedLaws.{AcceptedIsAdmitted}
use Rattle.proof_acceptance.proofs.Acceptance.{accepted-is-sound}
use Rattle.proof_change.proofs.KeptValid.{kept-fresh-valid, kept-stepped-valid}
use Rattle.proof_change.proofs.Timed.{none-valid}
use Rattle.proof_time_bytes.proofs.Elsewhere.{accepted-is-admitted}
use Rattle.road_streams.specs.declared.Traffic.{Traffic}
use Rattle.road_streams.specs.Road.{stream_count, stream_at, bad_streams, queues, traffic_of, is_occupied, arrivals, inputs_of, blank_colours, fresh_road, road_stepped, road_after}
use Rattle.proof_road.specs.Roads.{inputs_at, NoStepRefused, RoadIsValid}
use Rattle.laws.proofs.Words.{word-bit, word-past}
use Rattle.proof_road.proofs.Streams.{KnownStreams, known-streams}

-- ── Inputs ──

-- an input bit is set for a detector of some stream
occupied-known : (site : Site) (streams : List ℕ) (steps : ℕ) (traffic : List Traffic) (d : ℕ) → KnownStreams site streams steps → is_occupied streams traffic d ≡ true → d < site.size.detectors
unfolding is_occupied
occupied-known site streams steps traffic d known h =
    let found = any_found (λ i. eqb (stream_at streams i).detector d && queues (traffic_of traffic i)) (stream_count streams) h in
    let i = found.0 in
    let same = eqb-true (stream_at streams i).detector d (and_left (eqb (stream_at streams i).detector d) (queues (traffic_of traffic i)) found.2) in
    omega (arith, (known.each i found.1).detector)

pub inputs-known :
    (site : Site) (streams : List ℕ) (steps : ℕ) (traffic : List Traffic) →
    KnownStreams site streams steps →
    stray_input site (inputs_of streams traffic) ≡ false
unfolding stray_input inputs_of wired
inputs-known site streams steps traffic known = any_none _ 64 (λ i l. step i (below-or-past i 48))
  where
    step : (i : ℕ) → (i < 48) ⊎ (48 ≤ i) → (bit i (inputs_of streams traffic) && not (wired site i)) ≡ false
    step i near =
        ⊎_elim
        (λ (l : i < 48).
        ⊎_elim
        (λ (e : is_occupied streams traffic i ≡ true).
        and-false-right (bit i (inputs_of streams traffic)) {b = not (wired site i)} (rw (lt-ltb i site.size.detectors (occupied-known site streams steps traffic i known e))))
        (λ (e : is_occupied streams traffic i ≡ false). and-false-left (not (wired site i)) (word-bit (is_occupied streams traffic) 48 i l ∙ e))
        (decided (is_occupied streams traffic i)))
        (λ (p : 48 ≤ i). and-false-left (not (wired site i)) (word-past (is_occupied streams traffic) 48 i p))
        near

-- ── A step call ──

module _ (b streams : List ℕ) (steps : ℕ) (read : verdict_of b ≡ Accepted) (known : bad_streams (site_of b) streams steps ≡ false) where
  pub sound : Sound (site_of b)
  unfolding AcceptedIsSound
  sound = accepted-is-sound b read

  pub wired-inputs : (traffic : List Traffic) → stray_input (site_of b) (inputs_of streams traffic) ≡ false
  wired-inputs traffic = inputs-known (site_of b) streams steps traffic (known-streams (site_of b) streams steps known)

  -- the state handed to the call
  abbrev own : KeptState → TimedState
  own s = with_own_times (site_of b) s

  room-enough : ltb (length blank_colours) (site_of b).size.groups ≡ false
  unfolding blank_colours
  room-enough = le-ltb 32 (site_of b).size.groups sound.groups.1

  own-valid : (s : KeptState) → timed_valid (site_of b) (own s) ≡ kept_valid (site_of b) s
  unfolding timed_valid AcceptedIsAdmitted
  own-valid s = rw (accepted-is-admitted b read, none-valid (site_of b))

  module _ (s : KeptState) (traffic : List Traffic) (v : kept_valid (site_of b) s ≡ true) where
    pub call-accepted : timed_verdict b (own s) (inputs_of streams traffic) (length blank_colours) ≡ Accepted
    unfolding checks_by step_verdict ◌or_else◌ refuse_if
    call-accepted = rw (read, own-valid s, v, wired-inputs traffic, room-enough)

    -- the state and the buffer that it gives
    pub state-given :
        kept_of (by_rules.next b (own s) (inputs_of streams traffic) (length blank_colours)) ≡ kept_stepped (site_of b) s (inputs_of streams traffic)
    unfolding by_rules handed_back timed_stepped ruling_next takes_over none_waiting kept_stepped
    state-given = rw call-accepted

    pub colours-given :
        by_rules.buffer b (own s) (inputs_of streams traffic) blank_colours
        ≡ colours_of (site_of b) (kept_stepped (site_of b) s (inputs_of streams traffic)).core ++ drop (site_of b).size.groups blank_colours
    unfolding by_rules buffer_for timed_stepped ruling_next takes_over none_waiting kept_stepped
    colours-given = rw call-accepted

  pub road-valid : (n : ℕ) → kept_valid (site_of b) (road_after b streams n).state ≡ true
  unfolding road_after fresh_road road_stepped
  road-valid zero = kept-fresh-valid (site_of b) sound
  road-valid (suc n) =
      let road = road_after b streams n in
      let waiting = arrivals streams road.traffic in
      rw (state-given road.state waiting (road-valid n))
      (kept-stepped-valid (site_of b) sound road.state (inputs_of streams waiting) (road-valid n) (wired-inputs waiting))

pub road-is-valid : RoadIsValid
unfolding RoadIsValid
road-is-valid b streams steps read known n =
    own-valid b streams steps read known (road_after b streams n).state ∙ road-valid b streams steps read known n

pub no-step-refused : NoStepRefused
unfolding NoStepRefused inputs_at
no-step-refused b streams steps read known n =
    let road = road_after b streams n in
    call-accepted b streams steps read known road.state (arrivals streams road.traffic) (road-valid b streams steps read known n)
