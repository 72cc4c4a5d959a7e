-- What the checks of the groups tell: a group record passes where it is neither bad nor the ninth pedestrian one, and once all have
-- passed each set stays below 2 ^ P, so that the test over eight bits decides whether two groups share a phase.
use Prim.Native.Nat.{ℕ, ◌^◌, ◌<◌}
use mathlib.Core.Bool.{false, ◌&&◌}
use mathlib.Core.List.{List}
use mathlib.Core.Path.{◌≡◌, refl, sym}
use borrow.Author.Tests.{leb-false}
use Rattle.laws.specs.Bytes.{bit}
use Rattle.rules.specs.Personality.{phase_count, group_count, group_set, bad_group, ninth_pedestrian, group_record, groups_section, share_phase, group_mark}
use Rattle.laws.specs.Folds.{any_of}
use Rattle.rules.specs.Verdicts.{Accepted}
use Rattle.laws.proofs.Booleans.{or-false-left}
use Rattle.laws.proofs.JoinedBits.{common-below}
use Rattle.rules.proofs.Verdicts.{or-first, or_later, refuse-passed, first-each, refuse-no, or-next}

pub group-passed : (b : List ℕ) (g : ℕ) → bad_group (phase_count b) (group_set b g) (group_mark b g) ≡ false → ninth_pedestrian b g ≡ false → group_record b g ≡ Accepted
unfolding group_record
group-passed b g p q = sym (or-next refl (refuse-no 6 _ p) (sym (refuse-no 7 _ q)))

-- ── The sets ──

set_below : (b : List ℕ) (g : ℕ) → groups_section b ≡ Accepted → g < group_count b → group_set b g < 2 ^ phase_count b
unfolding groups_section group_record bad_group
set_below b g h l =
    let passed = first-each (group_record b) (group_count b) g (or-first _ _ (or_later _ _ h)) l in
    leb-false _ _ (or-false-left _ _ (or-false-left _ _ (refuse-passed _ _ _ (or-first _ _ passed))))

pub share-decided :
    (b : List ℕ) (g j : ℕ) →
    groups_section b ≡ Accepted →
    j < group_count b →
    group_set b j < 2 ^ 8 →
    any_of (λ p. bit p (group_set b g) && bit p (group_set b j)) 8 ≡ share_phase b g j
unfolding share_phase
share-decided b g j h l k = common-below (group_set b g) (group_set b j) (phase_count b) 8 (set_below b j h l) k
