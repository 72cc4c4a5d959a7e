-- The answers of sealing and resuming: every refusal has a written number and place, and a refused call writes nothing.
use Rattle.std.specs.Prelude.{ℕ, Bool, true, ◌&&◌, ◌||◌, List, ◌⊎◌, ◌≡◌, eqb, leb}
use Rattle.rules.specs.Verdicts.{Verdict}
use Rattle.rules.specs.Verdicts.{Refused}
use Rattle.rules.specs.Laws.{reading_number, PlaceIn}
use Rattle.board_seal.specs.SealCall.{seal_verdict, seal_answer, seal_after, resume_verdict, resume_answer, resume_after}

-- as reading the personality refuses, or one of the call's own numbers at 0
abbrev Written : (ℕ → Bool) → List ℕ → Verdict → Type 0
Written own b verdict =
    (number place : ℕ) →
    verdict ≡ Refused number place →
    ((reading_number number ≡ true) × PlaceIn b place) ⊎ ((own number ≡ true) × (place ≡ 0))

abbrev pub seal_number : ℕ → Bool
seal_number number = eqb number 13 || eqb number 14

abbrev pub resume_number : ℕ → Bool
resume_number number = eqb number 13 || (leb 27 number && leb number 29)

unfoldable pub SealRefusalIsWritten : Type 0
SealRefusalIsWritten = (b state room : List ℕ) → Written seal_number b (seal_verdict b state room)

unfoldable pub ResumeRefusalIsWritten : Type 0
ResumeRefusalIsWritten = (b sealed old : List ℕ) → Written resume_number b (resume_verdict b sealed old)

unfoldable pub RefusalLeaves : Type 0
RefusalLeaves =
    ((b state room : List ℕ) → (seal_answer b state room ≡ 0 → ⊥) → seal_after b state room ≡ room)
    × ((b sealed old : List ℕ) → (resume_answer b sealed old ≡ 0 → ⊥) → resume_after b sealed old ≡ old)
