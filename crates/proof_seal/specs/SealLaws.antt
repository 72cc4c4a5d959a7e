-- What sealing and resuming promise, over the bytes that C and Rust hold. A saved state is resumed as it was, or refused: for another version of
-- the interface, for damage, or for another personality.
use Rattle.std.specs.Prelude.{ℕ, ◌<◌, true, List, ◌≡◌, eqb, length, set, if◌then◌else◌}
use Rattle.rules.specs.Verdicts.{Accepted}
use Rattle.laws.specs.Bytes.{byte_at}
use Rattle.rules.specs.Personality.{verdict_of}
use Rattle.base_crc.specs.CrcLaws.{SameAround, SameBytesAround}
use Rattle.state_forms.specs.Forms.{AreBytes}
use Rattle.state_timed.specs.TimedLayout.{timed_bytes}
use Rattle.state_sealed.specs.Sealed.{sealed_bytes, sealed_of, other_version}
use Rattle.board_answers.specs.Answers.{packed}
use Rattle.state_valid.specs.StateOf.{is_state_of}
use Rattle.board_seal.specs.SealCall.{seal_answer, seal_after, resume_answer, resume_after}

-- a personality and a state that can be sealed
pub record Savable (b state : List ℕ) : Type 0 where
  pub accepted : verdict_of b ≡ Accepted
  pub valid : is_state_of b state ≡ true

-- both of bytes, as every personality and state of a caller is
pub record Saved (b state : List ℕ) : Type 0 where
  pub savable : Savable b state
  pub personality-bytes : AreBytes b
  pub state-bytes : AreBytes state

-- ── A state is resumed as it was ──

-- both calls are accepted, and the buffer then holds the state, byte for byte
unfoldable pub ResumeGivesBack : Type 0
ResumeGivesBack =
    (b state : List ℕ) →
    Savable b state →
    (room old : List ℕ) →
    length room ≡ sealed_bytes →
    length old ≡ timed_bytes →
    (seal_answer b state room ≡ 0)
    × (resume_answer b (seal_after b state room) old ≡ 0)
    × (resume_after b (seal_after b state room) old ≡ state)

-- whatever bytes a record has: what is resumed is a valid state of the personality
unfoldable pub ResumedIsValid : Type 0
ResumedIsValid = (b sealed old : List ℕ) → resume_answer b sealed old ≡ 0 → is_state_of b (resume_after b sealed old) ≡ true

-- ── Or it is refused ──

-- an accepted personality is refused the record with this number, at 0, and nothing is written
unfoldable pub RefusedWith : ℕ → List ℕ → List ℕ → Type 0
RefusedWith number own sealed =
    verdict_of own ≡ Accepted →
    (old : List ℕ) →
    length old ≡ timed_bytes →
    (resume_answer own sealed old ≡ packed number 0) × (resume_after own sealed old ≡ old)

-- a damaged record: 27 if the damage is to the version, else 28
abbrev pub RefusedAsDamaged : List ℕ → List ℕ → Type 0
RefusedAsDamaged own found = RefusedWith (if other_version found then 27 else 28) own found

-- damage within 32 neighbouring bits
unfoldable pub DamageIsRefused : Type 0
DamageIsRefused =
    (b state found own : List ℕ) (from : ℕ) →
    Saved b state →
    AreBytes found →
    SameAround from (sealed_of b state) found →
    (found ≡ sealed_of b state → ⊥) →
    RefusedAsDamaged own found

-- damage within four neighbouring bytes
unfoldable pub FourBytesAreRefused : Type 0
FourBytesAreRefused =
    (b state found own : List ℕ) (i : ℕ) →
    Saved b state →
    AreBytes found →
    SameBytesAround i (sealed_of b state) found →
    (found ≡ sealed_of b state → ⊥) →
    RefusedAsDamaged own found

-- damage to one byte, whatever the byte
unfoldable pub OneByteIsRefused : Type 0
OneByteIsRefused =
    (b state own : List ℕ) (i x : ℕ) →
    Saved b state →
    i < sealed_bytes →
    x < 256 →
    (x ≡ byte_at (sealed_of b state) i → ⊥) →
    RefusedWith (if eqb i 0 then 27 else 28) own (set (sealed_of b state) i x)

-- bytes too few or too many
unfoldable pub OtherLengthIsRefused : Type 0
OtherLengthIsRefused = (found own : List ℕ) → (length found ≡ sealed_bytes → ⊥) → RefusedAsDamaged own found

-- a personality that differs within 32 neighbouring bits
unfoldable pub OtherPersonalityIsRefused : Type 0
OtherPersonalityIsRefused =
    (b state other : List ℕ) (from : ℕ) →
    Saved b state →
    AreBytes other →
    SameAround from b other →
    (other ≡ b → ⊥) →
    RefusedWith 29 other (sealed_of b state)

-- one that differs in one byte
unfoldable pub OtherByteIsRefused : Type 0
OtherByteIsRefused =
    (b state : List ℕ) (i x : ℕ) →
    Saved b state →
    i < length b →
    x < 256 →
    (x ≡ byte_at b i → ⊥) →
    RefusedWith 29 (set b i x) (sealed_of b state)

-- one of another length
unfoldable pub LongerOrShorterIsRefused : Type 0
LongerOrShorterIsRefused =
    (b state other : List ℕ) → Savable b state → (length other ≡ length b → ⊥) → RefusedWith 29 other (sealed_of b state)
