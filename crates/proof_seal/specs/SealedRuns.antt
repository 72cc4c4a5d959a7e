-- Runs of the library that are sealed and resumed in the middle. The library is the controller of proof_board: a run is a list of step and retiming
-- calls from the fresh state of an accepted personality, and its states are the caller's bytes.
use Rattle.std.specs.Prelude.{ℕ, List, ◌++◌, ◌≡◌, length}
use Rattle.rules.specs.Verdicts.{Accepted}
use Rattle.rules.specs.Personality.{verdict_of}
use Rattle.rules.specs.Runs.{Controller, Call, taken_from, left_by}
use Rattle.state_timed.specs.TimedLayout.{timed_bytes}
use Rattle.state_sealed.specs.Sealed.{sealed_bytes}
use Rattle.board_seal.specs.SealCall.{seal_after, resume_after}
use Rattle.proof_board.specs.BoardRuns.{OfEveryBuffer}
use Rattle.proof_seal.specs.SealLaws.{Savable}

-- a claim about every run of the library, by the fresh state and its calls
abbrev OfEveryRun : (Controller (List ℕ) → List ℕ → List ℕ → List Call → Type 0) → Type 0
OfEveryRun Claim =
    OfEveryBuffer (λ library. (b : List ℕ) → verdict_of b ≡ Accepted → (calls : List Call) → Claim library b (library.fresh b) calls)

-- every state of a run can be sealed
unfoldable pub RunsCanBeSealed : Type 0
RunsCanBeSealed = OfEveryRun (λ library b fresh calls. Savable b (left_by library b fresh calls))

-- What the later calls answer and show, and the bytes that they leave, are the same whether they go on from the state or from what is resumed
-- of it.
unfoldable pub SealedRunsGoOn : Type 0
SealedRunsGoOn =
    OfEveryRun
    (λ library b fresh calls.
    (later : List Call) (room old : List ℕ) →
    length room ≡ sealed_bytes →
    length old ≡ timed_bytes →
    let resumed = resume_after b (seal_after b (left_by library b fresh calls) room) old in
    (taken_from library b fresh (calls ++ later) ≡ taken_from library b fresh calls ++ taken_from library b resumed later)
    × (left_by library b fresh (calls ++ later) ≡ left_by library b resumed later))
