-- Internal: no promise cites this file. Swaps of bits in pairs, in a number of 64 bits: the lower place of each pair is a bit of `low`, and
-- the upper place is `shift` above it.
use Rattle.std.specs.Prelude.{ℕ, ◌+◌, ◌-◌, Bool, not, ◌&&◌, leb, ltb, if◌then◌else◌}
use Rattle.laws.specs.Bytes.{bit}
use Rattle.laws.specs.Folds.{all_of}

-- k is the upper place of a pair
unfoldable pub upper : ℕ → ℕ → ℕ → Bool
upper low shift k = leb shift k && bit (k - shift) low

-- the place whose bit goes to place k
unfoldable pub source : ℕ → ℕ → ℕ → ℕ
source low shift k = if bit k low then shift + k else if upper low shift k then k - shift else k

-- k is in one pair at most, and its bit comes from one of the 64 places
unfoldable pub placed : ℕ → ℕ → ℕ → Bool
placed low shift k = not (bit k low && upper low shift k) && ltb (source low shift k) 64

-- no place of the 64 is in two pairs
unfoldable pub swaps : ℕ → ℕ → Bool
swaps low shift = all_of (placed low shift) 64
