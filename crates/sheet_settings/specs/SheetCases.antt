-- Worked cases, in a single list with one statement: each of them holds.
use Rattle.std.specs.Prelude.{ℕ, List, [], ◌∷◌, ◌≡◌, pos, Float}
use Rattle.std.specs.Float.{binary64}
use Rattle.std.specs.Float.Ieee.{of_int, of_bits}
use Rattle.rules.specs.CallCases.{AllHold}
use Rattle.sheet_settings.specs.declared.Detector.TheVariants.{Advance, StopLine}
use Rattle.sheet_settings.specs.Sheet.{Answer, Settings, Refused, answer_of}

-- metres as a whole number, and by their 64 bits
abbrev pub metres : ℕ → Float
metres n = of_int binary64 (pos n)

abbrev pub bits : ℕ → Float
bits b = of_bits binary64 b

-- the speed, the metres of an advance detector or of a stop-line zone, and the answer
pub data Case : Type 0 where
  advance : ℕ → Float → Answer → Case
  zone : ℕ → Float → Answer → Case

abbrev Holds : Case → Type 0
Holds (advance speed x answer) = answer_of (record { speed = speed; detector = Advance x }) ≡ answer
Holds (zone speed x answer) = answer_of (record { speed = speed; detector = StopLine x }) ≡ answer

unfoldable pub cases : List Case
cases =
    -- 18 m: minimum green is 100
    advance 32 (metres 18) (Settings 100 21)
    -- the other rows of 002's table; at 41 m and 52 m the formula decides, and not the table's 18 s and 22 s
    ∷ advance 24 (metres 12) (Settings 80 18)
    ∷ advance 40 (metres 24) (Settings 120 22)
    ∷ advance 48 (metres 30) (Settings 140 23)
    ∷ advance 56 (metres 41) (Settings 160 27)
    ∷ advance 64 (metres 52) (Settings 200 30)
    -- 0 m, −0 and the least number above 0
    ∷ advance 50 (metres 0) (Settings 40 0)
    ∷ zone 50 (metres 0) (Settings 40 0)
    ∷ advance 50 (bits 0x8000_0000_0000_0000) (Settings 40 0)
    ∷ zone 50 (bits 0x8000_0000_0000_0000) (Settings 40 0)
    ∷ advance 50 (bits 0x0000_0000_0000_0001) (Settings 40 1)
    ∷ zone 50 (bits 0x0000_0000_0000_0001) (Settings 40 0)
    -- the last number below 6, and 6
    ∷ advance 50 (bits 0x4017_ffff_ffff_ffff) (Settings 40 5)
    ∷ advance 50 (metres 6) (Settings 60 5)
    -- a zone has no passage time
    ∷ zone 50 (metres 18) (Settings 100 0)
    -- minimum green is 400 from 108 m to the last number below 114, and no more from 114 on
    ∷ advance 110 (metres 108) (Settings 400 36)
    ∷ advance 110 (bits 0x405b_0000_0000_0001) (Settings 400 36)
    ∷ advance 110 (bits 0x405c_7fff_ffff_ffff) (Settings 400 38)
    ∷ advance 110 (metres 114) (Refused 20 0)
    ∷ zone 20 (bits 0x405c_7fff_ffff_ffff) (Settings 400 0)
    ∷ zone 20 (metres 114) (Refused 20 0)
    -- 100 steps at 20 km/h are in, 101 are not
    ∷ advance 20 (bits 0x404b_c000_0000_0000) (Settings 220 100)
    ∷ advance 20 (bits 0x404b_d000_0000_0000) (Refused 20 0)
    -- 36 × distance beside 2,000, what 20 km/h cover in 100 steps: below it; above it and rounded down to it, so that 100 steps are enough
    -- and not 101; rounded to more
    ∷ advance 20 (bits 0x404b_c71c_71c7_1c71) (Settings 220 100)
    ∷ advance 20 (bits 0x404b_c71c_71c7_1c72) (Settings 220 100)
    ∷ advance 20 (bits 0x404b_c71c_71c7_1c73) (Refused 20 0)
    -- likewise beside 20: 1 step and not 2 at the second
    ∷ advance 20 (bits 0x3fe1_c71c_71c7_1c71) (Settings 40 1)
    ∷ advance 20 (bits 0x3fe1_c71c_71c7_1c72) (Settings 40 1)
    ∷ advance 20 (bits 0x3fe1_c71c_71c7_1c73) (Settings 40 2)
    -- beside 140: below it and rounded up to it; halfway to the next number and rounded to the even of the two, so that 7 steps are enough and
    -- not 8; rounded to more
    ∷ advance 20 (bits 0x400f_1c71_c71c_71c7) (Settings 40 7)
    ∷ advance 20 (bits 0x400f_1c71_c71c_71c8) (Settings 40 7)
    ∷ advance 20 (bits 0x400f_1c71_c71c_71c9) (Settings 40 8)
    -- halfway below 220, rounded up to it: 11 steps, as many as the product needs unrounded
    ∷ advance 20 (bits 0x4018_71c7_1c71_c71c) (Settings 60 11)
    ∷ advance 20 (bits 0x4018_71c7_1c71_c71d) (Settings 60 12)
    -- 300 m are metres of a sheet, the next number is not
    ∷ advance 110 (metres 300) (Refused 20 0)
    ∷ advance 110 (bits 0x4072_c000_0000_0001) (Refused 19 0)
    ∷ zone 110 (metres 300) (Refused 20 0)
    ∷ zone 110 (bits 0x4072_c000_0000_0001) (Refused 19 0)
    -- a number below 0, what is no number, and what is not finite
    ∷ advance 50 (bits 0x8000_0000_0000_0001) (Refused 19 0)
    ∷ zone 50 (bits 0xbff0_0000_0000_0000) (Refused 19 0)
    ∷ advance 50 (bits 0x7ff8_0000_0000_0000) (Refused 19 0)
    ∷ zone 50 (bits 0x7ff0_0000_0000_0001) (Refused 19 0)
    ∷ advance 50 (bits 0xffff_ffff_ffff_ffff) (Refused 19 0)
    ∷ advance 50 (bits 0x7ff0_0000_0000_0000) (Refused 19 0)
    ∷ zone 50 (bits 0xfff0_0000_0000_0000) (Refused 19 0)
    -- speeds from 20 to 110
    ∷ advance 19 (metres 18) (Refused 19 0)
    ∷ advance 20 (metres 18) (Settings 100 33)
    ∷ advance 110 (metres 18) (Settings 100 6)
    ∷ advance 111 (metres 18) (Refused 19 0)
    ∷ zone 0 (metres 18) (Refused 19 0)
    -- number 19 comes before number 20
    ∷ zone 111 (metres 300) (Refused 19 0)
    ∷ advance 20 (metres 300) (Refused 20 0)
    ∷ []

unfoldable pub CasesHold : Type 0
CasesHold = AllHold Holds cases
