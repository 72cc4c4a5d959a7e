-- The worked values, computed.
use mathlib.Core.Path.{refl}
use Rattle.laws.specs.Bytes.{bit}
use Rattle.base_crc.specs.Crc.{shifted, shifted_by, taken, taken_all, crc}
use Rattle.base_crc.specs.CrcCases.{NoBytes, NineDigits, FourZeros, FourOnes, ThirtyThreeBits}

pub no_bytes : NoBytes
unfolding NoBytes crc taken_all
no_bytes = refl

pub nine-digits : NineDigits
unfolding NineDigits crc taken_all taken shifted_by shifted bit
nine-digits = refl

pub four-zeros : FourZeros
unfolding FourZeros crc taken_all taken shifted_by shifted bit
four-zeros = refl

pub four-ones : FourOnes
unfolding FourOnes crc taken_all taken shifted_by shifted bit
four-ones = refl

pub thirty-three-bits : ThirtyThreeBits
unfolding ThirtyThreeBits crc taken_all taken shifted_by shifted bit
thirty-three-bits = (refl, refl)
