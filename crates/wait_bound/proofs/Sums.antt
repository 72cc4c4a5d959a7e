-- Start red and the shares of all phases are the bound, and no sum on the way is more than the bound: so each is at most the greatest wait
-- that the table of limits admits, a number of two bytes.
use Prim.Native.Nat.{ℕ, ◌+◌, ◌≤◌, ◌<◌}
use mathlib.Core.List.{List}
use mathlib.Core.Path.{◌≡◌, refl, ap, ◌∙◌}
use native.Mathlib.Nat.{le_trans}
use native.Mathlib.Omega.{arith}
use lib.ListN.{get_or}
use Rattle.rules.specs.declared.site.PhaseTimes.{PhaseTimes}
use Rattle.rules.specs.declared.site.Size.{Size}
use Rattle.rules.specs.declared.site.Times.{Times}
use Rattle.laws.specs.Folds.{sum_of}
use Rattle.rules.specs.Site.{no_phase_times, phase_times, walk_times}
use Rattle.rules.specs.WaitBound.{phase_share, longest_walk, longest_clearance}
use Rattle.rules.specs.Laws.{SoundTimes}
use Rattle.rules.proofs.Settings.{walk-told, wait-two-bytes}
use Rattle.wait_bound_movements.specs.declared.Longest.{Longest}
use Rattle.wait_bound_movements.specs.Longest.{no_longest}
use Rattle.proof_acceptance.proofs.WaitBound.{bound_by, wait-within}
use Rattle.laws.proofs.Sums.{sum_same, sum-part}

-- ── The shares ──

-- the share of phase p
abbrev pub share_at : List PhaseTimes → List Longest → ℕ → ℕ
share_at owns longest p =
    phase_share (get_or owns p no_phase_times) (get_or longest p no_longest).walk (get_or longest p no_longest).clearance

pub bound-fits :
    (size : Size) (times : Times) (crossings : List ℕ) →
    size.phases ≤ 7 →
    SoundTimes size times →
    bound_by size times crossings ≤ 65535
bound-fits size times crossings few sound =
    le_trans
    (wait-within sound.table size times crossings sound.in_table few)
    (wait-two-bytes sound.table sound.table_usable)

-- W and C1 of a movement are each no more than an age
pub walk-fits :
    (size : Size) (times : Times) →
    SoundTimes size times →
    (k : ℕ) →
    k < size.movements →
    (walk_times times k).walk + (walk_times times k).first ≤ 65535
walk-fits size times sound k l =
    let own = walk-told sound.table sound.table_usable (sound.in_table.walk k l) in
    omega arith

module _
    (size : Size)
    (times : Times)
    (crossings : List ℕ)
    (longest : List Longest)
    (few : size.phases ≤ 7)
    (walk : (p : ℕ) → p < 8 → (get_or longest p no_longest).walk ≡ longest_walk crossings times.walks size.movements p)
    (clearance : (p : ℕ) → p < 8 → (get_or longest p no_longest).clearance ≡ longest_clearance crossings times.walks size.movements p)
  where
    abbrev shares : ℕ → ℕ
    shares = share_at times.phases longest

    pub all-shares : (p : ℕ) → p ≡ size.phases → times.start + sum_of shares p ≡ bound_by size times crossings
    unfolding phase_times
    all-shares p e =
        ap (λ (n : ℕ). times.start + n)
        (ap (sum_of shares) e ∙ sum_same shares _ size.phases (λ p l. rw (walk p (omega arith), clearance p (omega arith))))

    pub shares-fit : SoundTimes size times → (p : ℕ) → p < size.phases → times.start + sum_of shares p + shares p ≤ 65535
    shares-fit sound p l =
        omega (
          arith,
          sum-part shares p size.phases l,
          all-shares size.phases refl,
          bound-fits size times crossings few sound,
        )
