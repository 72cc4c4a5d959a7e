-- Kind 7 and the groups that stop early, by whether kind 7 is there: with it its own checks, and no group is refused for stopping early;
-- without it the groups alone.
use Prim.Native.Nat.{ℕ}
use mathlib.Core.Bool.{true, false, not, ◌&&◌}
use mathlib.Core.List.{List}
use mathlib.Core.Path.{◌≡◌, sym}
use Rattle.rules.specs.Verdicts.{Verdict, Accepted, Refused, refuse_if}
use Rattle.rules.specs.Limits.{early_setting}
use Rattle.laws.specs.Folds.{any_of}
use Rattle.rules.specs.Personality.{record_at, phase_count, group_count, groups_head, early_head, has_early, timed_section, stops_early, early_section, early_missing}
use Rattle.laws.proofs.Booleans.{and-false-left, and-false-right}
use Rattle.laws.proofs.Folds.{any_false}
use Rattle.rules.proofs.Verdicts.{all-good}
use Rattle.rules.proofs.Checks.{refuse_made, refuse_passed}

pub early_there : (b : List ℕ) → has_early b ≡ true → early_section b ≡ timed_section b (early_head b) 7 early_setting 1 (phase_count b)
unfolding early_section
early_there b there = rw there

pub early_absent : (b : List ℕ) → has_early b ≡ false → early_section b ≡ Accepted
unfolding early_section
early_absent b absent = rw absent

-- the check of group g
abbrev pub missing_at : List ℕ → ℕ → Verdict
missing_at b g = refuse_if (stops_early b g && not (has_early b)) 17 (record_at (groups_head b) 2 g)

pub none_stops : (b : List ℕ) → any_of (stops_early b) (group_count b) ≡ false → early_missing b ≡ Accepted
unfolding early_missing
none_stops b none = sym (all-good _ 17 _ (group_count b) (λ g l. and-false-left (not (has_early b)) (any_false _ _ g none l)))

pub none_missing : (b : List ℕ) → has_early b ≡ true → early_missing b ≡ Accepted
unfolding early_missing
none_missing b there = sym (all-good _ 17 _ (group_count b) (λ g l. and-false-right (stops_early b g) (rw there)))

pub one_stops : (b : List ℕ) (g : ℕ) → has_early b ≡ false → stops_early b g ≡ true → missing_at b g ≡ Refused 17 (record_at (groups_head b) 2 g)
one_stops b g absent stops = refuse_made 17 _ (rw (absent, stops))

pub goes_on : (b : List ℕ) (g : ℕ) → stops_early b g ≡ false → missing_at b g ≡ Accepted
goes_on b g e = refuse_passed 17 _ (and-false-left (not (has_early b)) e)
