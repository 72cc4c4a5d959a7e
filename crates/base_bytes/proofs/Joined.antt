-- Four bytes as one number, byte by byte.
use Rattle.std.proofs.Common.{ℕ, ◌+◌, ◌*◌, List, ◌≡◌, ap, arith}
use Rattle.laws.specs.Bytes.{byte_at, two_at, four_at}

pub four-by-bytes :
    (b : List ℕ) (i : ℕ) →
    four_at b i ≡ byte_at b i + 256 * byte_at b (i + 1) + 65536 * byte_at b (i + 2) + 16777216 * byte_at b (i + 3)
unfolding four_at two_at
four-by-bytes b i = let last : byte_at b (i + 2 + 1) ≡ byte_at b (i + 3) = ap (byte_at b) (omega arith) in omega arith
