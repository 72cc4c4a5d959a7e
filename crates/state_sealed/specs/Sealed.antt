-- A sealed record: a state, with what it takes to tell at power-up that it is whole and is a state of this personality. It has 347 bytes:
--   0           the version of the interface, which is in this place in every version
--   1, 2        the length of the personality
--   3 to 6      the check value of the personality
--   7 to 342    the state
--   343 to 346  the check value of all bytes before
-- Numbers are little-endian. Check values find damage; they are no protection against intent.
use Rattle.std.specs.Prelude.{ℕ, ◌+◌, Bool, not, ◌&&◌, ◌||◌, List, ◌∷◌, ◌++◌, eqb, ltb, length, take, drop}
use Rattle.laws.specs.Bytes.{byte_at, two_at, four_at}
use Rattle.rules.specs.Junctions.{two, four}
use Rattle.base_crc.specs.Crc.{crc}
use Rattle.state_timed.specs.TimedLayout.{timed_bytes}

abbrev pub interface_version : ℕ
interface_version = 6

abbrev pub state_at : ℕ
state_at = 7

-- byte 343
abbrev pub check_at : ℕ
check_at = state_at + timed_bytes

abbrev pub sealed_bytes : ℕ
sealed_bytes = check_at + 4

-- ── Writing: personality, state ──

-- all but the last check value
unfoldable pub body_of : List ℕ → List ℕ → List ℕ
body_of b state = interface_version ∷ (two (length b) ++ four (crc b) ++ state)

unfoldable pub sealed_of : List ℕ → List ℕ → List ℕ
sealed_of b state = body_of b state ++ four (crc (body_of b state))

-- ── Reading ──

-- a record without a byte has no version
unfoldable pub other_version : List ℕ → Bool
other_version sealed = ltb 0 (length sealed) && not (eqb (byte_at sealed 0) interface_version)

unfoldable pub damaged : List ℕ → Bool
damaged sealed = not (eqb (length sealed) sealed_bytes) || not (eqb (four_at sealed check_at) (crc (take check_at sealed)))

unfoldable pub other_personality : List ℕ → List ℕ → Bool
other_personality b sealed = not (eqb (two_at sealed 1) (length b)) || not (eqb (four_at sealed 3) (crc b))

unfoldable pub state_in : List ℕ → List ℕ
state_in sealed = take timed_bytes (drop state_at sealed)
