-- Phase sets as numbers. A set below 2 ^ P has as many phases as its number has ones, and has them all exactly where it is one less than
-- 2 ^ P. So a record is bad by its two bytes, and the union of the sets tells whether a phase is in none.
use Prim.Native.Nat.{ℕ, ◌+◌, ◌^◌, ◌<◌, min}
use mathlib.Core.Bool.{true, false, not, or-false}
use mathlib.Core.List.{List}
use mathlib.Core.Logic.{⊎_elim}
use mathlib.Core.Path.{◌≡◌, sym, ap, ◌∙◌}
use native.Mathlib.Numerals.{add-one}
use native.Mathlib.Omega.{arith}
use lib.Bits.{bit_or, or_lt}
use lib.Pow.{pow_pos}
use borrow.Author.Tests.{leb-false, not-false}
use Rattle.laws.specs.Bytes.{bit}
use Rattle.rules.specs.Personality.{phase_count, group_count, group_set, pedestrian, bad_group, phase_without_group, walks_phase, group_mark}
use Rattle.laws.specs.Folds.{any_of}
use Rattle.laws.proofs.Bits.{bit-blank}
use Rattle.laws.proofs.Folds.{any_none, any_false}
use Rattle.laws.proofs.Booleans.{decided, or-false-left}
use Rattle.laws.proofs.BitRanges.{full-each, all-full}
use Rattle.laws.proofs.JoinedBits.{bit-or}
use Rattle.read_groups.specs.GroupsRead.{CrossedPhases}

-- ── The records of a personality ──

module _ (b : List ℕ) where
  -- the union of the first g sets, in a byte
  abbrev pub Gathered : ℕ → ℕ → Type 0
  Gathered served g = (served < 256) × (served < 2 ^ phase_count b) × ((p : ℕ) → bit p served ≡ any_of (λ i. bit p (group_set b i)) g)

  pub gathered_none : Gathered 0 0
  unfolding any_of
  gathered_none = (omega arith, pow_pos (phase_count b), bit-blank)

  -- the set of a group that is not bad
  set-within : (g : ℕ) → bad_group (phase_count b) (group_set b g) (group_mark b g) ≡ false → group_set b g < 2 ^ phase_count b
  unfolding bad_group
  set-within g good = leb-false _ _ (or-false-left _ _ (or-false-left _ _ good))

  pub gathered-more :
      (served g : ℕ) {set : ℕ} →
      set < 256 →
      set ≡ group_set b g →
      bad_group (phase_count b) (group_set b g) (group_mark b g) ≡ false →
      Gathered served g →
      Gathered (bit_or served set) (g + 1)
  unfolding any_of
  gathered-more served g {set} h e good gathered = (
    or_lt 8 served set gathered.0 h,
    or_lt (phase_count b) served set gathered.1 (rw e (set-within g good)),
    λ p. rw (add-one g, bit-or p served set, gathered.2 p, e),
  )

  -- the union of the sets of the pedestrian groups alone
  pub crossed-none : CrossedPhases b 0 0
  unfolding any_of
  crossed-none = record { within = pow_pos (phase_count b); told = bit-blank }

  module _ {crossed g : ℕ} (gathered : CrossedPhases b crossed g) where
    pub crossed-more : {set : ℕ} → set ≡ group_set b g → bad_group (phase_count b) (group_set b g) (group_mark b g) ≡ false → pedestrian b g ≡ true → CrossedPhases b (bit_or crossed set) (g + 1)
    unfolding any_of walks_phase
    crossed-more {set} e good walks =
        record {
          within = or_lt (phase_count b) crossed set gathered.within (rw e (set-within g good));
          told = λ p. rw (add-one g, bit-or p crossed set, gathered.told p, e, walks);
        }

    pub crossed-same : pedestrian b g ≡ false → CrossedPhases b crossed (g + 1)
    unfolding any_of walks_phase
    crossed-same vehicle =
        record { within = gathered.within; told = λ p. gathered.told p ∙ rw (add-one g, vehicle) (sym (or-false _)) }

  -- the union of all is one less than the bound: no phase is without a group
  pub all-served :
      (served : ℕ) {bound : ℕ} →
      bound ≡ min (2 ^ phase_count b) 512 →
      Gathered served (group_count b) →
      served + 1 ≡ bound →
      phase_without_group b ≡ false
  unfolding phase_without_group
  all-served served bounded gathered e =
      any_none _ _
      (λ p l. ap not (sym (gathered.2 p) ∙ full-each (phase_count b) served p (omega (arith, bounded, e, gathered.0)) l))

  -- it is not: some phase is
  pub one-unserved :
      (served : ℕ) {bound : ℕ} →
      bound ≡ min (2 ^ phase_count b) 512 →
      Gathered served (group_count b) →
      (served + 1 ≡ bound → ⊥) →
      phase_without_group b ≡ true
  unfolding phase_without_group
  one-unserved served bounded gathered e =
      ⊎_elim
      (λ (t : phase_without_group b ≡ true). t)
      (λ (t : phase_without_group b ≡ false).
      let full = all-full (phase_count b) served gathered.1 (λ p l. gathered.2 p ∙ not-false _ (any_false _ _ p t l)) in
      absurd (e (omega (arith, bounded, full, gathered.0))))
      (decided (phase_without_group b))
