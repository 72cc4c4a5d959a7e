-- One step on the road: what its parts ask for holds after n steps, and what they give is the road after n + 1 steps.
use Prim.Native.Nat.{ℕ, suc, ◌+◌, ◌≤◌, ◌<◌}
use mathlib.Core.Bool.{true}
use mathlib.Core.List.{List, ◌++◌}
use mathlib.Core.Path.{◌≡◌, sym, ap, subst, subst⁻¹, ◌∙◌}
use lib.ListN.{drop, get_or-append}
use native.Mathlib.Numerals.{add-one}
use native.Mathlib.Omega.{arith}
use Rattle.rules.specs.declared.site.Site.{Site}
use Rattle.rules.specs.declared.state.KeptState.{KeptState}
use Rattle.rules.specs.declared.state.State.{State}
use Rattle.rules.specs.Site.{site_of}
use Rattle.rules.specs.Kept.{kept_valid, kept_stepped}
use Rattle.rules.specs.Colours.{shown_in, colours_of}
use Rattle.laws.specs.Folds.{list_of}
use Rattle.laws.specs.Bytes.{byte_at}
use Rattle.laws.proofs.Lists.{list_length, list_at}
use Rattle.rules.specs.Timed.{with_own_times}
use Rattle.rules.specs.Runs.{by_rules}
use Rattle.rules.specs.Laws.{Sound}
use Rattle.road_streams.specs.declared.Traffic.{Traffic}
use Rattle.road_streams.specs.Road.{stream_count, stream_at, traffic_of, arrived, arrivals, inputs_of, blank_colours, road_stepped, road_after}
use Rattle.proof_road.proofs.Streams.{KnownStreams, known-streams}
use Rattle.proof_road.proofs.Flow.{Flow, flow-arrived, flow-few, road-flow, arrivals-at}
use Rattle.proof_road.proofs.Steps.{sound, road-valid, state-given, colours-given}
use Rattle.road_step.specs.Cells.{traffic_in}
use Rattle.road_step.specs.Passes.{Arriving, ArrivedIn, Releasing, Painted, ReleasedIn}
use Rattle.road_step.specs.Greens.{GreenIn}
use Rattle.road_step.specs.OnRoad.{OnRoad}
use Rattle.road_step.proofs.Passes.{held_at}

-- the byte of a group is its colour
shown-at :
    (site : Site) (core : State) (g : ℕ) →
    g < site.size.groups →
    byte_at (colours_of site core ++ drop site.size.groups blank_colours) g ≡ shown_in site core g
unfolding byte_at colours_of
shown-at site core g l =
    let count = site.size.groups in
    get_or-append (list_of (shown_in site core) count) (drop count blank_colours) 0 g (omega (arith, list_length (shown_in site core) count))
    ∙ list_at (shown_in site core) count g 0 l

module _ {b streams : List ℕ} {steps : ℕ} {site : Site} {n : ℕ} {state : KeptState} {cells : List Traffic} (road : OnRoad b streams steps site n state cells) where
  known : KnownStreams (site_of b) streams steps
  known = known-streams (site_of b) streams steps road.known

  pub on-sound : Sound site
  on-sound = subst⁻¹ Sound road.place (sound b streams steps road.read road.known)

  pub on-valid : kept_valid site state ≡ true
  on-valid = rw (road.place, road.held) (road-valid b streams steps road.read road.known n)

  module _ (before : n < steps) where
    -- ── Arrivals ──

    module _ (i : ℕ) (l : i < stream_count streams) where
      slow : (stream_at streams i).rate ≤ 1800
      slow = (known.each i l).rate

      flow-held : Flow (stream_at streams i).rate n (traffic_of (road_after b streams n).traffic i)
      flow-held = road-flow b streams i l (omega (arith, slow)) n

      held : traffic_of cells i ≡ traffic_of (road_after b streams n).traffic i
      held = sym (held_at cells (stream_count streams) i l) ∙ ap (λ (t : List Traffic). traffic_of t i) road.traffic

      -- a vehicle more may have come
      flow_next : Flow (stream_at streams i).rate (suc n) (arrived (stream_at streams i).rate (traffic_of (road_after b streams n).traffic i))
      flow_next = flow-arrived _ n _ (omega (arith, slow)) flow-held

    pub may-arrive : Arriving streams cells
    may-arrive =
        record {
          room = road.room;
          each =
              λ i l.
              let flow = flow-held i l in
              let few = flow-few _ n _ (slow i l) (omega (arith, known.few)) flow in
              rw (held i l)
              record {
                rate = slow i l;
                detector = omega (arith, (known.each i l).detector, (sound b streams steps road.read road.known).detectors);
                below = flow.below;
                fits = omega (arith, few);
              };
        }

    -- ── Releases ──

    abbrev waiting : List Traffic
    waiting = arrivals streams (road_after b streams n).traffic

    module _ {more : List Traffic} {inputs : ℕ} (came : ArrivedIn streams cells more inputs) where
      came-traffic : traffic_in more (stream_count streams) ≡ waiting
      came-traffic = came.traffic ∙ ap (arrivals streams) road.traffic

      pub came-inputs : inputs ≡ inputs_of streams waiting
      came-inputs = came.word ∙ ap (λ (t : List Traffic). inputs_of streams (arrivals streams t)) road.traffic

      more-held : (i : ℕ) → i < stream_count streams → traffic_of more i ≡ arrived (stream_at streams i).rate (traffic_of (road_after b streams n).traffic i)
      more-held i l =
          sym (held_at more (stream_count streams) i l)
          ∙ ap (λ (t : List Traffic). traffic_of t i) came-traffic
          ∙ arrivals-at b streams i l (road_after b streams n).traffic

      pub may-release : Releasing streams more
      may-release =
          record {
            room = omega (arith, road.room, came.same);
            each =
                λ i l.
                let flow = flow_next i l in
                let few = flow-few _ (suc n) _ (slow i l) (omega (arith, known.few)) flow in
                rw (more-held i l)
                record {
                  group = omega (arith, (known.each i l).group, (sound b streams steps road.read road.known).groups.1);
                  counting = flow.counting;
                  fits = omega (arith, few);
                };
          }

      -- ── The next state of the road ──

      -- the colours of the streams' groups are green as the set says
      painted :
          (core : State) (greens : ℕ) →
          GreenIn (site_of b) core greens →
          Painted streams (colours_of (site_of b) core ++ drop (site_of b).size.groups blank_colours) greens
      painted core greens shown i l =
          let group = (known.each i l).group in
          rw (shown-at (site_of b) core (stream_at streams i).group group) (sym (shown (stream_at streams i).group group (known.each i l).vehicle))

      pub next-road :
          {next : KeptState} {greens : ℕ} {last : List Traffic} →
          next ≡ kept_stepped site state inputs →
          GreenIn site next.core greens →
          ReleasedIn streams greens more last →
          OnRoad b streams steps site (n + 1) next last
      unfolding road_after road_stepped
      next-road {next} {greens} {last} stepped shown left =
          let s = (road_after b streams n).state in
          let valid = road-valid b streams steps road.read road.known n in
          let stepped-is : next ≡ kept_stepped (site_of b) s (inputs_of streams waiting) = stepped ∙ rw (road.place, road.held, came-inputs) in
          let colours = colours_of (site_of b) next.core ++ drop (site_of b).size.groups blank_colours in
          let shown-is : colours ≡ by_rules.buffer b (with_own_times (site_of b) s) (inputs_of streams waiting) blank_colours =
          rw stepped-is (sym (colours-given b streams steps road.read road.known s waiting valid)) in
          let paint = painted next.core greens (subst (λ (place : Site). GreenIn place next.core greens) road.place shown) in
          record {
            read = road.read;
            place = road.place;
            known = road.known;
            within = omega arith;
            room = omega (arith, road.room, came.same, left.same);
            held = rw (add-one n) (stepped-is ∙ sym (state-given b streams steps road.read road.known s waiting valid));
            traffic = rw (add-one n) (left.traffic colours paint ∙ rw (came-traffic, shown-is));
          }
