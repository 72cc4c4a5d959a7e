-- The two passes over the streams, turn by turn: after the last turn the cells hold the arrivals, or the releases, and the input bits are those of the
-- occupied detectors.
use Prim.Native.Nat.{ℕ, ◌+◌, ◌/◌, ◌^◌, ◌≤◌, ◌<◌}
use mathlib.Core.Bool.{Bool, true, false, ◌&&◌, ◌||◌}
use mathlib.Core.List.{List}
use mathlib.Core.Path.{◌≡◌, refl, sym, ap, ◌∙◌}
use lib.Dec.{ltb, eqb}
use lib.ListN.{length, get_or, set}
use lib.Pow.{pow_pos}
use native.Mathlib.Numerals.{add-one}
use native.Mathlib.Omega.{arith}
use Rattle.laws.specs.Bytes.{bit, byte_at}
use Rattle.std.specs.Prelude.{if◌then◌else◌}
use Rattle.laws.specs.Folds.{any_of, list_of}
use Rattle.laws.proofs.Folds.{any_same}
use Rattle.laws.proofs.Lists.{list_same, list_at}
use Rattle.laws.proofs.Bits.{bit-blank, same_bits}
use Rattle.rules.specs.Colours.{red, green}
use Rattle.road_streams.specs.declared.Traffic.{Traffic}
use Rattle.road_streams.specs.Road.{stream_count, stream_at, no_traffic, queues, arrived, released, traffic_of, arrivals, is_occupied, inputs_of, releases}
use Rattle.laws.proofs.Words.{word_of, word-bit, word_small}
use Rattle.proof_road.proofs.Flow.{arrivals-at}
use Rattle.road_step.specs.Cells.{traffic_in}
use Rattle.road_step.specs.Passes.{MayArrive, Arriving, ArrivedIn, MayRelease, Releasing, ReleasedIn}
use Rattle.road_step.specs.Greens.{WithBit}
use Rattle.road_step.proofs.Cells.{Passed, passed_none, passed-more, passed-all}

-- the traffic in the cells, stream by stream
pub held_at : (cells : List Traffic) (n i : ℕ) → i < n → traffic_of (traffic_in cells n) i ≡ traffic_of cells i
unfolding traffic_of traffic_in
held_at cells n i l = list_at (λ j. get_or cells j no_traffic) n i no_traffic l

-- ── Arrivals ──

abbrev pub arriving : List ℕ → ℕ → Traffic → Traffic
arriving streams i t = arrived (stream_at streams i).rate t

-- stream i has a queue at detector d after its arrival
abbrev seen : List ℕ → List Traffic → ℕ → ℕ → Bool
seen streams old d i = eqb (stream_at streams i).detector d && queues (arriving streams i (traffic_of old i))

-- the first i streams are passed
pub record ArrivedTo (streams : List ℕ) (old new : List Traffic) (inputs i : ℕ) : Type 0 where
  pub within : i ≤ length streams / 4
  pub pass : Passed (arriving streams) old new i
  pub bits : (d : ℕ) → bit d inputs ≡ any_of (seen streams old d) i
  pub below : inputs < 2 ^ 48

arrived-held :
    (streams : List ℕ) (old : List Traffic) →
    arrivals streams (traffic_in old (stream_count streams)) ≡ list_of (λ j. arriving streams j (traffic_of old j)) (stream_count streams)
unfolding arrivals
arrived-held streams old =
    list_same (λ i. arrived (stream_at streams i).rate (traffic_of (traffic_in old (stream_count streams)) i)) (λ j. arriving streams j (traffic_of old j)) (stream_count streams)
    (λ j l. ap (arriving streams j) (held_at old (stream_count streams) j l))

module _ {streams : List ℕ} {old : List Traffic} where
  pub arrived-none : ArrivedTo streams old old 0 0
  unfolding any_of
  arrived-none = record { within = omega arith; pass = passed_none; bits = λ d. bit-blank d; below = pow_pos 48 }

  pub arrived-more :
      {new next : List Traffic} {inputs more i detector : ℕ} {queue : Bool} (t : Traffic) →
      ArrivedTo streams old new inputs i →
      i < length streams / 4 →
      i < length new →
      next ≡ set new i t →
      t ≡ arriving streams i (traffic_of new i) →
      detector ≡ (stream_at streams i).detector →
      queue ≡ queues t →
      WithBit inputs detector queue more →
      ArrivedTo streams old next more (i + 1)
  unfolding any_of queues
  arrived-more {new} {next} {inputs} {more} {i} {detector} {queue} t to l inside e made d-is q-is word =
      let old-made : t ≡ arriving streams i (traffic_of old i) = made ∙ ap (arriving streams i) (to.pass.left i (omega arith)) in
      record {
        within = omega arith;
        pass = passed-more t to.pass inside e made;
        bits =
            λ d.
            word.bits d
            ∙ rw (add-one i, to.bits d, d-is, q-is)
            (ap (λ (u : Traffic). any_of (seen streams old d) i || (eqb (stream_at streams i).detector d && ltb 0 u.queued)) old-made);
        below = word.below to.below;
      }

  pub arrived-room : {new : List Traffic} {inputs i : ℕ} → Arriving streams old → ArrivedTo streams old new inputs i → i < length streams / 4 → i < length new
  unfolding stream_count
  arrived-room fine to l = omega (arith, fine.room, to.pass.same)

  -- the traffic of the next stream is as handed in
  pub may-arrive-at :
      {new : List Traffic} {inputs i : ℕ} →
      Arriving streams old →
      ArrivedTo streams old new inputs i →
      i < length streams / 4 →
      MayArrive (stream_at streams i) (traffic_of new i)
  unfolding stream_count
  may-arrive-at {i = i} fine to l = rw (to.pass.left i (omega arith)) (fine.each i l)

  module _ {new : List Traffic} {inputs i : ℕ} (to : ArrivedTo streams old new inputs i) (last : stream_count streams ≤ i) where
    abbrev waiting : List Traffic
    waiting = arrivals streams (traffic_in old (stream_count streams))

    all_seen : (d : ℕ) → bit d inputs ≡ is_occupied streams waiting d
    unfolding is_occupied stream_count
    all_seen d =
        let end : i ≡ stream_count streams = omega (arith, to.within) in
        (rw end at (to.bits d))
        ∙ any_same (seen streams old d) (λ i. eqb (stream_at streams i).detector d && queues (traffic_of waiting i)) (stream_count streams)
        (λ j l.
        ap (λ (t : Traffic). eqb (stream_at streams j).detector d && queues t)
        (sym
        (arrivals-at streams streams j l (traffic_in old (stream_count streams)) ∙ ap (arriving streams j) (held_at old (stream_count streams) j l))))

    pub arrived-all : ArrivedIn streams old new inputs
    unfolding inputs_of stream_count
    arrived-all =
        record {
          same = to.pass.same;
          rest = λ j l. to.pass.left j (omega (arith, to.within, l));
          traffic = passed-all to.pass last ∙ sym (arrived-held streams old);
          word =
              same_bits 48 inputs (word_of (is_occupied streams waiting) 48) to.below (word_small (is_occupied streams waiting) 48)
              (λ d l. all_seen d ∙ sym (word-bit (is_occupied streams waiting) 48 d l));
        }

-- ── Releases ──

-- a colour that is green as the set says
abbrev pub coloured : ℕ → ℕ → ℕ
coloured greens g = if bit g greens then green else red

pub coloured-green : (greens g : ℕ) → eqb (coloured greens g) green ≡ bit g greens
coloured-green greens g = by (bit g greens)
  where
    by : (t : Bool) → eqb (if t then green else red) green ≡ t
    by true = refl
    by false = refl

abbrev pub releasing : List ℕ → ℕ → ℕ → Traffic → Traffic
releasing streams greens i t = released (coloured greens (stream_at streams i).group) t

same-release : (a b : ℕ) (t : Traffic) → eqb a green ≡ eqb b green → released a t ≡ released b t
unfolding released
same-release a b t e = rw e

pub may-release-at :
    {streams : List ℕ} (greens : ℕ) {old new : List Traffic} {i : ℕ} →
    Releasing streams old →
    Passed (releasing streams greens) old new i →
    i < length streams / 4 →
    MayRelease (stream_at streams i) (traffic_of new i)
unfolding stream_count
may-release-at greens {i = i} fine pass l = rw (pass.left i (omega arith)) (fine.each i l)

pub released-all :
    {streams : List ℕ} {greens : ℕ} {old new : List Traffic} {i : ℕ} →
    Passed (releasing streams greens) old new i →
    i ≤ stream_count streams →
    stream_count streams ≤ i →
    ReleasedIn streams greens old new
unfolding releases
released-all {streams} {greens} {old} {new} pass within last =
    record {
      same = pass.same;
      rest = λ j l. pass.left j (omega arith);
      traffic =
          λ colours painted.
          passed-all pass last
          ∙ list_same (λ j. releasing streams greens j (traffic_of old j)) (λ i. released (byte_at colours (stream_at streams i).group) (traffic_of (traffic_in old (stream_count streams)) i)) (stream_count streams)
          (λ j l.
          ap (releasing streams greens j) (sym (held_at old (stream_count streams) j l))
          ∙ same-release (coloured greens (stream_at streams j).group) (byte_at colours (stream_at streams j).group) (traffic_of (traffic_in old (stream_count streams)) j)
          (coloured-green greens (stream_at streams j).group ∙ sym (painted j l)));
    }
