-- The check value CRC-32 of Ethernet (IEEE 802.3) and zlib, bit by bit. It finds damage, and it is no protection against intent.
use Rattle.std.specs.Prelude.{ℕ, zero, suc, ◌/◌, List, [], ◌∷◌, if◌then◌else◌}
use Rattle.std.specs.Int.Bits.{bit_xor}
use Rattle.laws.specs.Bytes.{bit}
use Rattle.laws.specs.Folds.{list_of}

-- the polynomial in reflected form: bit 31 stands for x⁰ and bit 0 for x³¹; x³² is left out
abbrev pub polynomial : ℕ
polynomial = 0xEDB88320

abbrev pub all_ones : ℕ
all_ones = 0xFFFFFFFF

-- The register, one bit further: its lowest bit goes out, and if this was 1 the polynomial is combined with the rest by exclusive or.
unfoldable pub shifted : ℕ → ℕ
shifted register = if bit 0 register then bit_xor (register / 2) polynomial else register / 2

-- n bits further
unfoldable pub shifted_by : ℕ → ℕ → ℕ
shifted_by zero register = register
shifted_by (suc n) register = shifted_by n (shifted register)

-- the table of the way by bytes: each byte, eight bits further
unfoldable pub entries : List ℕ
entries = list_of (shifted_by 8) 256

-- one byte more: it is combined with the lowest eight bits, and these go out
unfoldable pub taken : ℕ → ℕ → ℕ
taken register byte = shifted_by 8 (bit_xor register byte)

unfoldable pub taken_all : ℕ → List ℕ → ℕ
taken_all register [] = register
taken_all register (byte ∷ rest) = taken_all (taken register byte) rest

-- at first the register is all ones, and at the end its bits are inverted
unfoldable pub crc : List ℕ → ℕ
crc bytes = bit_xor (taken_all all_ones bytes) all_ones
