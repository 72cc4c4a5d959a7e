-- Worked values of the check value.
use Rattle.std.specs.Prelude.{[], ◌∷◌, ◌≡◌}
use Rattle.base_crc.specs.Crc.{crc}

-- no bytes
unfoldable pub NoBytes : Type 0
NoBytes = crc [] ≡ 0

-- "123456789", the published test of the method
unfoldable pub NineDigits : Type 0
NineDigits = crc (49 ∷ 50 ∷ 51 ∷ 52 ∷ 53 ∷ 54 ∷ 55 ∷ 56 ∷ 57 ∷ []) ≡ 0xCBF43926

-- four bytes of 0, and of 255
unfoldable pub FourZeros : Type 0
FourZeros = crc (0 ∷ 0 ∷ 0 ∷ 0 ∷ []) ≡ 0x2144DF1C

unfoldable pub FourOnes : Type 0
FourOnes = crc (255 ∷ 255 ∷ 255 ∷ 255 ∷ []) ≡ 0xFFFFFFFF

-- 32 is the most: these two differ within 33 neighbouring bits, by the polynomial itself
unfoldable pub ThirtyThreeBits : Type 0
ThirtyThreeBits = (crc (0 ∷ 0 ∷ 0 ∷ 0 ∷ 0 ∷ []) ≡ 0xC622F71D) × (crc (0x41 ∷ 0x06 ∷ 0x71 ∷ 0xDB ∷ 0x01 ∷ []) ≡ 0xC622F71D)
