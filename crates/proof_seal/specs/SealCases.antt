-- Worked cases: the junction of two phases, its fresh state and the sealed record of this state, and what other records are refused with.
use Rattle.std.specs.Prelude.{ℕ, List, [], ◌∷◌, ◌++◌, ◌≡◌, length, take, replicate, set}
use Rattle.rules.specs.Verdicts.{Verdict}
use Rattle.rules.specs.Verdicts.{Accepted, Refused}
use Rattle.rules.specs.Site.{site_of}
use Rattle.rules.specs.Timed.{fresh_timed}
use Rattle.rules.specs.Kept.{fresh_kept}
use Rattle.rules.specs.Junctions.{short_phase, junction, slower}
use Rattle.rules.specs.CallCases.{AllHold}
use Rattle.state_bytes.specs.Layout.{encoded}
use Rattle.state_timed.specs.TimedLayout.{timed_encoded}
use Rattle.state_sealed.specs.Sealed.{sealed_bytes, sealed_of}
use Rattle.board_seal.specs.SealCall.{seal_answer, seal_after, record_verdict}

-- the fresh state; the times of the junction rule, and none wait
unfoldable pub junction_state : List ℕ
junction_state = encoded fresh_kept ++ (10 ∷ 0 ∷ (short_phase ++ short_phase)) ++ replicate 271 0

unfoldable pub JunctionStarts : Type 0
JunctionStarts = timed_encoded (fresh_timed (site_of junction)) ≡ junction_state

-- version 6, 68 bytes with the check value 0xA42C18F8; the record has the check value 0xBEBA0B74
unfoldable pub junction_record : List ℕ
junction_record = (6 ∷ 68 ∷ 0 ∷ 248 ∷ 24 ∷ 44 ∷ 164 ∷ []) ++ junction_state ++ (116 ∷ 11 ∷ 186 ∷ 190 ∷ [])

unfoldable pub JunctionIsSealed : Type 0
JunctionIsSealed =
    (room : List ℕ) →
    length room ≡ sealed_bytes →
    (seal_answer junction junction_state room ≡ 0) × (seal_after junction junction_state room ≡ junction_record)

-- ── Records that are handed in ──

-- a personality, a record, and the verdict of its checks
pub data Case : Type 0 where
  on : List ℕ → List ℕ → Verdict → Case

abbrev Holds : Case → Type 0
Holds (on b sealed verdict) = record_verdict b sealed ≡ verdict

unfoldable pub cases : List Case
cases =
    on junction junction_record Accepted
    -- another version, also with other damage
    ∷ on junction (set junction_record 0 5) (Refused 27 0)
    ∷ on junction (set (set junction_record 0 7) 9 2) (Refused 27 0)
    -- no bytes, one too few, one too many
    ∷ on junction [] (Refused 28 0)
    ∷ on junction (take 346 junction_record) (Refused 28 0)
    ∷ on junction (junction_record ++ (0 ∷ [])) (Refused 28 0)
    -- age 2 for 1, another last byte, another length of the personality
    ∷ on junction (set junction_record 9 2) (Refused 28 0)
    ∷ on junction (set junction_record 346 70) (Refused 28 0)
    ∷ on junction (set junction_record 1 69) (Refused 28 0)
    -- the junction with longer times
    ∷ on slower junction_record (Refused 29 0)
    -- a whole record without a valid state
    ∷ on junction (sealed_of junction (replicate 336 0)) (Refused 13 0)
    ∷ []

unfoldable pub CasesHold : Type 0
CasesHold = AllHold Holds cases
