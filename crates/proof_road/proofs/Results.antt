-- The results of an accepted call, read again. Each stream has at most 9,000 vehicles queued and gone, so both numbers fit two bytes, and the bytes of all streams
-- are a row of such pairs.
use Prim.Native.Nat.{ℕ, ◌+◌, ◌*◌, ◌≤◌, ◌<◌}
use mathlib.Core.Bool.{Bool, false}
use mathlib.Core.List.{List, [], ◌++◌}
use mathlib.Core.Path.{◌≡◌, refl, sym, ap, subst, ◌∙◌}
use lib.ListN.{length, get_or, drop}
use native.Mathlib.Omega.{arith}
use Rattle.laws.specs.Folds.{list_of}
use Rattle.laws.proofs.Lists.{list_length, list_at}
use Rattle.rules.specs.Verdicts.{Accepted}
use Rattle.rules.specs.Personality.{verdict_of}
use Rattle.rules.specs.Site.{site_of}
use Rattle.rules.proofs.Verdicts.{or-first, or_later, refuse-passed}
use Rattle.state_forms.specs.Forms.{Form, two, parts_of, row, ◌⊗◌}
use Rattle.state_forms.proofs.Lawful.{two-law, both-law, row-law}
use Rattle.state_forms.proofs.Parts.{parts_same}
use Rattle.road_streams.specs.declared.Traffic.{Traffic}
use Rattle.road_streams.specs.Road.{stream_count, stream_at, bad_streams, traffic_of, road_after, streams_verdict, road_verdict, result_of, results_of, results_for, road_results}
use Rattle.proof_road.specs.Roads.{arrivals_in, Arrived, ArrivalsAreCounted, ResultsAreCounted}
use Rattle.proof_road.proofs.Streams.{known-streams}
use Rattle.proof_road.proofs.Flow.{arrivals-are-counted}

-- the vehicles queued and gone
abbrev Pair : Type 0
Pair = ℕ × ℕ

abbrev pair : Form Pair
pair = two ⊗ two

-- ── The bytes of n streams ──

module _ (traffic : ℕ → Traffic) (n : ℕ) (small : (i : ℕ) → i < n → (traffic i).queued + (traffic i).gone ≤ 9000) (rest : List ℕ) where
  abbrev pairs : ℕ → Pair
  pairs i = ((traffic i).queued, (traffic i).gone)

  abbrev written : List ℕ
  written = parts_of (λ i. result_of (traffic i)) n

  pair-at : (i : ℕ) → i < n → get_or (list_of pairs n) i (0, 0) ≡ pairs i
  pair-at i l = list_at pairs n i (0, 0) l

  as_row : written ≡ (row n (0, 0) pair).written (list_of pairs n)
  unfolding result_of
  as_row = parts_same (λ i. result_of (traffic i)) (λ i. pair.written (get_or (list_of pairs n) i (0, 0))) n (λ i l. ap pair.written (sym (pair-at i l)))

  read_back : list_of (λ i. pair.read (written ++ rest) (0 + i * 4)) n ≡ list_of pairs n
  read_back =
      rw as_row
      ((row-law pair (both-law two-law two-law) n (0, 0)).back (list_of pairs n) [] rest 0
      (list_length pairs n, λ i l. rw (pair-at i l) (omega (arith, small i l), omega (arith, small i l)))
      refl)

  pub result-at : (i : ℕ) → i < n → pair.read (written ++ rest) (4 * i) ≡ pairs i
  result-at i l =
      let at : 0 + i * 4 ≡ 4 * i = omega arith in
      subst (λ (p : ℕ). pair.read (written ++ rest) p ≡ pairs i) at
      (sym (list_at (λ k. pair.read (written ++ rest) (0 + k * 4)) n i (0, 0) l)
      ∙ ap (λ (l : List Pair). get_or l i (0, 0)) read_back
      ∙ pair-at i l)

-- ── An accepted call ──

-- none of its streams is refused
known : (b streams : List ℕ) (steps : ℕ) (state_fits : Bool) (room : ℕ) → road_verdict b streams steps state_fits room ≡ Accepted → bad_streams (site_of b) streams steps ≡ false
unfolding road_verdict streams_verdict
known b streams steps state_fits room ok =
    refuse-passed (bad_streams (site_of b) streams steps) 22 0 (or_later (verdict_of b) _ (or-first (streams_verdict b streams steps) _ ok))

pub results-are-counted : ResultsAreCounted
unfolding ResultsAreCounted ArrivalsAreCounted road_results results_for results_of
results-are-counted b streams steps state_fits old ok i l =
    let n = stream_count streams in
    let traffic : ℕ → Traffic = traffic_of (road_after b streams steps).traffic in
    let fine = known b streams steps state_fits (length old) ok in
    let short = (known-streams (site_of b) streams steps fine).few in
    let told : (j : ℕ) → j < n → Arrived (stream_at streams j).rate steps (arrivals_in b streams j steps) (traffic j) =
    arrivals-are-counted b streams steps fine steps in
    let few : (j : ℕ) → j < n → (traffic j).queued + (traffic j).gone ≤ 9000 = λ j m. omega (arith, (told j m).vehicles, (told j m).few short) in
    let back = result-at traffic n few (drop (length (results_of streams (road_after b streams steps).traffic)) old) i l in
    rw ok
    record {
      queued = ap (λ (p : Pair). p.0) back;
      gone = ap (λ (p : Pair). p.1) back;
      vehicles = ap (λ (p : Pair). p.0 + p.1) back ∙ sym (told i l).vehicles ∙ (told i l).arrivals;
    }
