-- What holds of all yellow times of the table.
use Rattle.std.specs.Prelude.{ℕ, ◌+◌, ◌≤◌, true, ◌≡◌, ℤ}
use Rattle.std.specs.Int.Signed.{le_z}
use Rattle.rules.specs.declared.site.Edition.{Edition}
use Rattle.rules.specs.Limits.{limits, within, phase_settings}
use Rattle.sheet_yellow.specs.Yellow.{Yellow, answer_of}

-- at one grade, a higher speed never has a shorter yellow
unfoldable pub NeverFallsWithSpeed : Type 0
NeverFallsWithSpeed =
    (slow fast : ℕ) (grade : ℤ) (a b : ℕ) →
    slow ≤ fast →
    answer_of slow grade ≡ Yellow a →
    answer_of fast grade ≡ Yellow b →
    a ≤ b

-- at one speed, a higher grade never has a longer yellow
unfoldable pub NeverRisesWithGrade : Type 0
NeverRisesWithGrade =
    (speed : ℕ) (low high : ℤ) (a b : ℕ) →
    le_z low high ≡ true →
    answer_of speed low ≡ Yellow a →
    answer_of speed high ≡ Yellow b →
    b ≤ a

-- a personality of each edition may have every yellow time as Y: it is not refused with 5
unfoldable pub Admitted : Type 0
Admitted =
    (edition : Edition) (speed : ℕ) (grade : ℤ) (a : ℕ) →
    answer_of speed grade ≡ Yellow a →
    within (limits edition) (phase_settings + 4) a ≡ true
