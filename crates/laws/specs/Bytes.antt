-- Little-endian numbers and bits. A byte past the end reads as 0.
use Rattle.std.specs.Prelude.{ℕ, ◌+◌, ◌*◌, ◌/◌, ◌%◌, ◌^◌, Bool, List, eqb, get_or}

unfoldable pub byte_at : List ℕ → ℕ → ℕ
byte_at b i = get_or b i 0

-- the number in the two bytes from i on
unfoldable pub two_at : List ℕ → ℕ → ℕ
two_at b i = byte_at b i + 256 * byte_at b (i + 1)

-- the number in the four bytes from i on
unfoldable pub four_at : List ℕ → ℕ → ℕ
four_at b i = two_at b i + 65536 * two_at b (i + 2)

-- the number in the eight bytes from i on
unfoldable pub eight_at : List ℕ → ℕ → ℕ
eight_at b i = four_at b i + 4294967296 * four_at b (i + 4)

-- bit k of x is set; bit 0 is the lowest
unfoldable pub bit : ℕ → ℕ → Bool
bit k x = eqb (x / 2 ^ k % 2) 1
