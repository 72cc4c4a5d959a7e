-- The answer of the road call by cases: each check decides the verdict once the checks before it have passed. A refusal leaves both buffers, and a
-- road that is run writes both.
use Prim.Native.Nat.{ℕ, ◌≤◌, ◌<◌}
use mathlib.Core.Bool.{true, false}
use mathlib.Core.List.{List}
use mathlib.Core.Path.{◌≡◌, ◌∙◌}
use lib.ListN.{length}
use borrow.Author.Tests.{lt-ltb, le-ltb, eq-eqb, ne_eqb}
use Rattle.std.specs.Prelude.{Err}
use Rattle.rules.specs.declared.answer.Refusal.{Refusal}
use Rattle.rules.specs.Verdicts.{Outcome, Stepped, Accepted, Refused}
use Rattle.rules.specs.declared.site.Site.{Site}
use Rattle.rules.specs.declared.state.KeptState.{KeptState}
use Rattle.rules.specs.Verdicts.{◌or_else◌, refuse_if}
use Rattle.rules.specs.Personality.{verdict_of}
use Rattle.rules.specs.Site.{site_of}
use Rattle.rules.specs.Timed.{with_own_times}
use Rattle.rules.specs.Call.{bound_for, handed_back}
use Rattle.state_timed.specs.TimedLayout.{timed_bytes, timed_encoded}
use Rattle.road_streams.specs.Road.{bad_streams, road_after, streams_verdict, road_verdict, results_of, results_for, road_results}
use Rattle.board_road.specs.RoadCall.{board_verdict, last_state, results_after}

-- ── The verdict ──

module _ (b streams : List ℕ) (steps : ℕ) (state : List ℕ) (room : ℕ) where
  pub by-personality : {r : Refusal} → verdict_of b ≡ Err r → board_verdict b streams steps state room ≡ Err r
  unfolding board_verdict road_verdict streams_verdict ◌or_else◌
  by-personality e = rw e

  module _ (read : verdict_of b ≡ Accepted) where
    pub by-streams : bad_streams (site_of b) streams steps ≡ true → board_verdict b streams steps state room ≡ Refused 22 0
    unfolding board_verdict road_verdict streams_verdict ◌or_else◌ refuse_if
    by-streams e = rw (read, e)

    module _ (known : bad_streams (site_of b) streams steps ≡ false) where
      pub by_state : (length state ≡ timed_bytes → ⊥) → board_verdict b streams steps state room ≡ Refused 13 0
      unfolding board_verdict road_verdict streams_verdict ◌or_else◌ refuse_if
      by_state other = rw (read, known, ne_eqb (length state) timed_bytes other)

      pub by-room : length state ≡ timed_bytes → room < length streams → board_verdict b streams steps state room ≡ Refused 14 0
      unfolding board_verdict road_verdict streams_verdict ◌or_else◌ refuse_if
      by-room fits l = rw (read, known, eq-eqb (length state) timed_bytes fits, lt-ltb room (length streams) l)

      pub by-none : length state ≡ timed_bytes → length streams ≤ room → board_verdict b streams steps state room ≡ Accepted
      unfolding board_verdict road_verdict streams_verdict ◌or_else◌ refuse_if
      by-none fits l = rw (read, known, eq-eqb (length state) timed_bytes fits, le-ltb room (length streams) l)

-- ── The answer ──

-- what the call answers before it is packed, with both buffers as they return
abbrev pub Tries : List ℕ → List ℕ → ℕ → List ℕ → List ℕ → Outcome → List ℕ → List ℕ → Type 0
Tries b streams steps state old o new out =
    (o ≡ bound_for (board_verdict b streams steps state (length old)) 0)
    × (new ≡ last_state b streams steps state (length old))
    × (out ≡ results_after b streams steps state old)

module _ (b streams : List ℕ) (steps : ℕ) (state old : List ℕ) where
  pub declines : {r : Refusal} → board_verdict b streams steps state (length old) ≡ Err r → Tries b streams steps state old (Err r) state old
  unfolding bound_for last_state results_after board_verdict road_results handed_back results_for
  declines e = (rw e, rw e, rw e)

  pub goes_on :
      {site : Site} {last : KeptState} {new out : List ℕ} →
      board_verdict b streams steps state (length old) ≡ Accepted →
      site ≡ site_of b →
      last ≡ (road_after b streams steps).state →
      new ≡ timed_encoded (with_own_times site last) →
      out ≡ results_for Accepted (results_of streams (road_after b streams steps).traffic) old →
      Tries b streams steps state old (Stepped 0) new out
  unfolding bound_for last_state results_after board_verdict road_results handed_back
  goes_on e s l n w = (rw e, n ∙ rw (e, s, l), w ∙ rw e)
