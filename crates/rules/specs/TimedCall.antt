-- The calls on a timed state: the step call, and the retiming call, which hands over the times of a second personality.
use Rattle.std.specs.Prelude.{ℕ, Bool, true, not, ◌&&◌, ◌||◌, List, eqb, leb, ltb, length}
use Rattle.rules.specs.Types.{Verdict, Site, Times}
use Rattle.laws.specs.Bytes.{byte_at}
use Rattle.laws.specs.Folds.{any_of}
use Rattle.rules.specs.Verdicts.{◌or_else◌, refuse_if}
use Rattle.rules.specs.Personality.{body_at, phases_head, groups_head, pedestrians_head, early_head, has_early, order_head, verdict_of}
use Rattle.rules.specs.Site.{site_of}
use Rattle.rules.specs.Timed.{TimedState, timed_valid}
use Rattle.rules.specs.Call.{checks_by}

-- ── The step call ──

abbrev pub timed_verdict : List ℕ → TimedState → ℕ → ℕ → Verdict
timed_verdict = checks_by verdict_of timed_valid

-- ── The bytes of the time settings ──

-- byte i is from one place on and before another
unfoldable pub between : ℕ → ℕ → ℕ → Bool
between from past i = leb from i && ltb i past

-- Byte i of an accepted personality is part of a time setting: start red, the settings of kinds 2 and 6, and of kind 7 if it is present.
unfoldable pub time_byte : List ℕ → ℕ → Bool
time_byte b i =
    between 6 8 i
    || between (body_at phases_head) (groups_head b) i
    || between (body_at (pedestrians_head b)) (early_head b) i
    || (has_early b && between (body_at (early_head b)) (order_head b) i)

-- 26: another length, or another byte that is not part of a time setting
unfoldable pub differs_elsewhere : List ℕ → List ℕ → Bool
differs_elsewhere b new =
    not (eqb (length new) (length b)) || any_of (λ i. not (time_byte b i) && not (eqb (byte_at new i) (byte_at b i))) (length b)

-- ── The retiming call ──

-- the checks, by the verdict on a personality and the test of a valid state: the first personality, 13, the new personality, then 26
unfoldable pub retime_checks_by : (List ℕ → Verdict) → (Site → TimedState → Bool) → List ℕ → TimedState → List ℕ → Verdict
retime_checks_by verdict valid b s new =
    verdict b
    or_else refuse_if (not (valid (site_of b) s)) 13 0
    or_else verdict new
    or_else refuse_if (differs_elsewhere b new) 26 0

abbrev pub retime_verdict : List ℕ → TimedState → List ℕ → Verdict
retime_verdict = retime_checks_by verdict_of timed_valid

-- the times wait, in the place of any that waited
unfoldable pub retimed : TimedState → Times → TimedState
retimed s times =
    record { core = s.core; kept = s.kept; ruling = s.ruling; waiting = record { present = true; times = times } }
