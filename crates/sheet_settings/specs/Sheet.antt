-- Request six of document 02: the settings of a site sheet, by source document 002. Metres are binary64 values; a whole number beside
-- them is that number, unrounded.
use Rattle.std.specs.Prelude.{ℕ, ◌+◌, ◌*◌, Bool, true, false, ◌&&◌, ◌≡◌, leb, if◌then◌else◌, pos, Float, Result, Ok, Err}
use Rattle.std.specs.Float.{fin, binary64}
use Rattle.std.specs.Float.Ieee.{le, mul}
use Rattle.rules.specs.declared.answer.Refusal.{Refusal}
use Rattle.rules.specs.declared.answer.Report.{Report}
use Rattle.rules.specs.declared.site.Edition.{Edition}
use Rattle.rules.specs.declared.site.Edition.TheVariants.{One}
use Rattle.rules.specs.Limits.{limits, limit_of, within, phase_settings}
use Rattle.sheet_settings.specs.declared.Detector.{Detector}
use Rattle.sheet_settings.specs.declared.Detector.TheVariants.{Advance, StopLine}
use Rattle.sheet_settings.specs.declared.SheetSettings.{SheetSettings}
use Rattle.sheet_settings.specs.declared.Sheet.{Sheet}
use Rattle.sheet_settings.specs.Extremes.{Largest, Smallest, largest_to, smallest_from}

-- the whole number n, exactly
abbrev pub whole : ℕ → Float
whole n = fin false n (pos 0)

-- ── The ranges, number 19 ──

abbrev pub metres_of : Detector → Float
metres_of (Advance metres) = metres
metres_of (StopLine metres) = metres

abbrev pub speed_in_range : ℕ → Bool
speed_in_range speed = leb 20 speed && leb speed 110

-- from 0 to 300; −0 is 0, and what is no number is not among them
unfoldable pub metres_in_range : Float → Bool
metres_in_range metres = le (whole 0) metres && le metres (whole 300)

unfoldable pub in_range : Sheet → Bool
in_range s = speed_in_range s.speed && metres_in_range (metres_of s.detector)

-- ── The two settings ──

-- n vehicles fit in the metres: 6 n ≤ metres
unfoldable pub stand : Float → ℕ → Bool
stand metres n = le (whole (6 * n)) metres

-- a vehicle covers the distance in t steps: t × speed ≥ q, with q = 36 × metres rounded once to binary64
unfoldable pub covered : ℕ → Float → ℕ → Bool
covered speed metres t = le (mul binary64 metres (whole 36)) (whole (t * speed))

-- minimum green is 40 + 20 n steps (start loss 4 s, headway 2 s); n is the largest number of vehicles that fit in the metres
pub record MinimumGreen (metres : Float) (minimum : ℕ) : Type 0 where
  pub n : ℕ
  pub largest : Largest (stand metres) n
  pub formula : minimum ≡ 40 + 20 * n

-- the passage time is the smallest such t; that of a stop-line zone is 0
abbrev pub PassageTime : ℕ → Detector → ℕ → Type 0
PassageTime speed (Advance metres) t = Smallest (covered speed metres) t
PassageTime speed (StopLine metres) t = t ≡ 0

-- ── The answer: settings, or a refusal with its number and place ──

abbrev pub Answer : Type 0
Answer = Result SheetSettings Refusal

abbrev pub Settings : ℕ → ℕ → Answer
Settings minimum passage = Ok (record { minimum = minimum; passage = passage })

abbrev pub Refused : ℕ → ℕ → Answer
Refused number place = Err (record { number = number; place = place })

-- the highest M and the highest G of an edition of the limits
unfoldable pub highest_minimum : Edition → ℕ
highest_minimum edition = (limit_of (limits edition) (phase_settings + 1)).high

unfoldable pub highest_gap : Edition → ℕ
highest_gap edition = (limit_of (limits edition) (phase_settings + 3)).high

unfoldable pub within_limits : Edition → ℕ → ℕ → Bool
within_limits edition minimum passage = leb minimum (highest_minimum edition) && leb passage (highest_gap edition)

-- the settings of a sheet in range
pub record SettingsFor (s : Sheet) (minimum passage : ℕ) : Type 0 where
  pub range : in_range s ≡ true
  pub green : MinimumGreen (metres_of s.detector) minimum
  pub time : PassageTime s.speed s.detector passage

-- the answer to a sheet; number 19 comes before number 20. A sheet names no edition: 20 is for settings above the limits of an edition, and
-- settings that are given are within those of each
pub data AnswerFor (s : Sheet) : Answer → Type 0 where
  out_of_range : in_range s ≡ false → AnswerFor s (Refused 19 0)
  above_limits : (edition : Edition) (m g : ℕ) → SettingsFor s m g → within_limits edition m g ≡ false → AnswerFor s (Refused 20 0)
  given : (m g : ℕ) → SettingsFor s m g → ((edition : Edition) → within_limits edition m g ≡ true) → AnswerFor s (Settings m g)

-- The paper's number and place for each answer, and the settings that it gives.
unfoldable pub settings_report_of : Answer → Report
settings_report_of (Ok s) = record { number = 0; place = 0 }
settings_report_of (Err r) = record { number = r.number; place = r.place }

unfoldable pub minimum_of : Answer → ℕ
minimum_of (Ok s) = s.minimum
minimum_of (Err r) = 0

unfoldable pub passage_of : Answer → ℕ
passage_of (Ok s) = s.passage
passage_of (Err r) = 0

-- ── The answer, computed. No more than 50 vehicles stand in 300 m, and 300 m at 20 km/h take 540 steps; the limits of M and G are the same in
-- both editions, so one is asked ──

unfoldable pub vehicles : Float → ℕ
vehicles metres = largest_to 50 (stand metres)

unfoldable pub minimum_green : Float → ℕ
minimum_green metres = 40 + 20 * vehicles metres

unfoldable pub passage_over : ℕ → Float → ℕ
passage_over speed metres = smallest_from 0 540 (covered speed metres)

abbrev pub passage_time : ℕ → Detector → ℕ
passage_time speed (Advance metres) = passage_over speed metres
passage_time speed (StopLine metres) = 0

unfoldable pub answer_from : ℕ → ℕ → Answer
answer_from minimum passage = if within_limits One minimum passage then Settings minimum passage else Refused 20 0

unfoldable pub answer_of : Sheet → Answer
answer_of s =
    if in_range s
    then answer_from (minimum_green (metres_of s.detector)) (passage_time s.speed s.detector)
    else Refused 19 0

-- the computed answer is the one stated, and no other is
pub record AsStated : Type 0 where
  pub stated : (s : Sheet) → AnswerFor s (answer_of s)
  pub only : (s : Sheet) (a : Answer) → AnswerFor s a → a ≡ answer_of s

-- a personality of the edition may have m as M and g as G: neither is refused with 5
abbrev pub MayHave : Edition → ℕ → ℕ → Type 0
MayHave edition m g = (within (limits edition) (phase_settings + 1) m ≡ true) × (within (limits edition) (phase_settings + 3) g ≡ true)

-- the settings of every answer are such, in each edition
unfoldable pub Admitted : Type 0
Admitted = (edition : Edition) (s : Sheet) (m g : ℕ) → answer_of s ≡ Settings m g → MayHave edition m g
