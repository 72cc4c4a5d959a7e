-- What holds of sealed records. A record reads back as it was written, and damage and another personality are found, if what differs is within 32
-- neighbouring bits, and so within four neighbouring bytes. A longer difference can be missed; of all records 1 in 2³² has the right check value.
use Rattle.std.specs.Prelude.{ℕ, ◌<◌, true, false, List, ◌≡◌, length}
use Rattle.base_crc.specs.CrcLaws.{SameAround}
use Rattle.state_forms.specs.Forms.{AreBytes}
use Rattle.state_timed.specs.TimedLayout.{timed_bytes}
use Rattle.state_sealed.specs.Sealed.{sealed_bytes, sealed_of, other_version, damaged, other_personality, state_in}

-- ── A record reads back ──

-- a record of this version, whole, of this personality and with this state
pub record Holds (b state sealed : List ℕ) : Type 0 where
  pub size : length sealed ≡ sealed_bytes
  pub version : other_version sealed ≡ false
  pub whole : damaged sealed ≡ false
  pub personality : other_personality b sealed ≡ false
  pub held : state_in sealed ≡ state

unfoldable pub SealedHolds : Type 0
SealedHolds = (b state : List ℕ) → length state ≡ timed_bytes → Holds b state (sealed_of b state)

-- ── What is found ──

-- a personality and a state: both are bytes, the length of the personality fits in two bytes, and that of the state is right
pub record Sealable (b state : List ℕ) : Type 0 where
  pub personality-bytes : AreBytes b
  pub short : length b < 65536
  pub state-bytes : AreBytes state
  pub long : length state ≡ timed_bytes

unfoldable pub SealedIsBytes : Type 0
SealedIsBytes = (b state : List ℕ) → Sealable b state → AreBytes (sealed_of b state)

-- any bytes but the record itself
unfoldable pub DamageIsFound : Type 0
DamageIsFound =
    (b state found : List ℕ) (from : ℕ) →
    Sealable b state →
    AreBytes found →
    SameAround from (sealed_of b state) found →
    (found ≡ sealed_of b state → ⊥) →
    damaged found ≡ true

unfoldable pub OtherLengthIsFound : Type 0
OtherLengthIsFound =
    (b other state : List ℕ) → (length other ≡ length b → ⊥) → other_personality other (sealed_of b state) ≡ true

unfoldable pub OtherBytesAreFound : Type 0
OtherBytesAreFound =
    (b other state : List ℕ) (from : ℕ) →
    AreBytes b →
    AreBytes other →
    SameAround from b other →
    (other ≡ b → ⊥) →
    other_personality other (sealed_of b state) ≡ true
