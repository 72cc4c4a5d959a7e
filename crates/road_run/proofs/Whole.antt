-- The road from its start to its end: blank cells are the road's start, and the results are those of its end.
use Prim.Native.Nat.{ℕ, zero, suc, ◌+◌, ◌≤◌, ◌<◌}
use mathlib.Core.List.{List}
use mathlib.Core.Path.{◌≡◌, refl, sym, ap, ◌∙◌}
use lib.ListN.{length, get_or, replicate, take}
use lib.Seq.{sets, sets-eq}
use native.Mathlib.Omega.{arith}
use Rattle.rules.specs.Verdicts.{Accepted}
use Rattle.rules.specs.declared.site.Site.{Site}
use Rattle.rules.specs.declared.state.KeptState.{KeptState}
use Rattle.laws.proofs.Lists.{list_same}
use Rattle.std.proofs.lemmas.List.{length-take, get_or-take}
use Rattle.rules.specs.Site.{site_of}
use Rattle.rules.specs.Kept.{fresh_kept}
use Rattle.state_forms.specs.Forms.{parts_of}
use Rattle.state_forms.proofs.Parts.{parts_same, parts-length}
use Rattle.road_streams.specs.declared.Traffic.{Traffic}
use Rattle.road_streams.specs.Road.{stream_count, no_traffic, traffic_of, fresh_road, road_after, result_of, results_of, results_for}
use Rattle.proof_road.proofs.Streams.{known-streams}
use Rattle.road_step.specs.Cells.{traffic_in}
use Rattle.road_step.specs.OnRoad.{OnRoad}
use Rattle.road_step.proofs.Passes.{held_at}
use Rattle.road_run.specs.Whole.{OfPersonality}

-- the first n cells
taken-at : (cells : List Traffic) (n i : ℕ) → i < n → traffic_of (take n cells) i ≡ traffic_of cells i
unfolding traffic_of
taken-at cells n i l = get_or-take n cells i no_traffic l

-- ── The start ──

abbrev pub blank : List Traffic
blank = replicate 48 no_traffic

blank-from : (n i : ℕ) → get_or (replicate n no_traffic) i no_traffic ≡ no_traffic
blank-from zero i = refl
blank-from (suc n) zero = refl
blank-from (suc n) (suc i) = blank-from n i

blank-at : (i : ℕ) → traffic_of blank i ≡ no_traffic
unfolding traffic_of
blank-at i = blank-from 48 i

module _ {b : List ℕ} {site : Site} {streams : List ℕ} {steps : ℕ} (start : OfPersonality b site streams steps) where
  pub start-road : OnRoad b streams steps site 0 fresh_kept blank
  unfolding road_after fresh_road traffic_in traffic_of
  start-road =
      record {
        read = start.read;
        place = start.place;
        known = start.known;
        within = omega arith;
        room = omega (arith, (known-streams (site_of b) streams steps start.known).most);
        held = refl;
        traffic = list_same (λ i. get_or blank i no_traffic) (λ i. no_traffic) (stream_count streams) (λ i l. blank-at i);
      }

  -- ── The end ──

  pub end-results :
      {last : KeptState} {after : List Traffic} →
      OnRoad b streams steps site steps last after →
      parts_of (λ i. result_of (traffic_of (take (stream_count streams) after) i)) (length (take (stream_count streams) after)) ≡ results_of streams (road_after b streams steps).traffic
  unfolding results_of
  end-results {last} {after} road =
      let n = stream_count streams in
      let whole : length (take n after) ≡ n = omega (arith, road.room, length-take n after) in
      rw whole
      (parts_same (λ i. result_of (traffic_of (take n after) i)) (λ i. result_of (traffic_of (road_after b streams steps).traffic i)) n
      (λ i l. ap result_of (taken-at after n i l ∙ sym (held_at after n i l) ∙ ap (λ (t : List Traffic). traffic_of t i) road.traffic)))

  results-length : length (results_of streams (road_after b streams steps).traffic) ≡ length streams
  unfolding results_of result_of
  results-length =
      parts-length (λ i. result_of (traffic_of (road_after b streams steps).traffic i)) 4 (stream_count streams) (λ i. refl)
      ∙ (known-streams (site_of b) streams steps start.known).whole

  pub results-placed :
      (old : List ℕ) →
      length streams ≤ length old →
      sets old 0 (results_of streams (road_after b streams steps).traffic)
      ≡ results_for Accepted (results_of streams (road_after b streams steps).traffic) old
  unfolding results_for
  results-placed old enough =
      let written = results_of streams (road_after b streams steps).traffic in
      let whole : 0 + length written ≡ length written = omega arith in
      sets-eq written old 0 (omega (arith, results-length)) ∙ rw whole
