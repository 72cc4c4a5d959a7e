-- What the check value finds: of two lists of bytes that differ, but only within 32 neighbouring bits, it is never the same. So it finds every
-- change of one byte, and every change of several within four neighbouring bytes.
use Rattle.std.specs.Prelude.{ℕ, ◌+◌, ◌*◌, ◌/◌, ◌%◌, ◌^◌, ◌≤◌, ◌<◌, Bool, List, ◌⊎◌, ◌≡◌, length, take}
use Rattle.laws.specs.Bytes.{byte_at, four_at, bit}
use Rattle.base_crc.specs.Crc.{crc}

-- every number is a byte
abbrev pub EachByte : List ℕ → Type 0
EachByte b = (i : ℕ) → byte_at b i < 256

-- a check value has 32 bits
unfoldable pub CrcIsSmall : Type 0
CrcIsSmall = (b : List ℕ) → EachByte b → crc b < 2 ^ 32

-- bit p of a list of bytes: 0 to 7 are the bits of byte 0, the lowest first
unfoldable pub bit_in : List ℕ → ℕ → Bool
bit_in b p = bit (p % 8) (byte_at b (p / 8))

-- the same in every bit before a place and from 32 bits after it on
unfoldable pub SameAround : ℕ → List ℕ → List ℕ → Type 0
SameAround from x y = (p : ℕ) → (p < from) ⊎ (from + 32 ≤ p) → bit_in x p ≡ bit_in y p

-- the same in every byte before a place and from four bytes after it on; a byte past the end counts as 0
unfoldable pub SameBytesAround : ℕ → List ℕ → List ℕ → Type 0
SameBytesAround i x y = (k : ℕ) → (k < i) ⊎ (i + 4 ≤ k) → byte_at x k ≡ byte_at y k

unfoldable pub BytesAreBits : Type 0
BytesAreBits = (i : ℕ) (x y : List ℕ) → SameBytesAround i x y → SameAround (8 * i) x y

unfoldable pub BurstIsFound : Type 0
BurstIsFound =
    (x y : List ℕ) (from : ℕ) → EachByte x → EachByte y → length x ≡ length y → SameAround from x y → crc x ≡ crc y → x ≡ y

-- ── With the check value behind the bytes ──

-- n bytes, and their check value in the four bytes behind them
pub record Closed (n : ℕ) (x : List ℕ) : Type 0 where
  pub size : length x ≡ n + 4
  pub check : four_at x n ≡ crc (take n x)

-- the change may also touch the check value
unfoldable pub ClosedBurstIsFound : Type 0
ClosedBurstIsFound = (n : ℕ) (x y : List ℕ) (from : ℕ) → EachByte x → EachByte y → Closed n x → Closed n y → SameAround from x y → x ≡ y
