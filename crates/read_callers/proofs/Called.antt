-- The phases that are called, as a set: those of the pedestrian groups, and of each detector passed whose mode calls. Once it has every phase
-- none is without a caller, whichever detectors are left; and where it lacks one after the last detector, some phase is.
use Prim.Native.Nat.{ℕ, ◌+◌, ◌-◌, ◌*◌, ◌%◌, ◌^◌, ◌≤◌, ◌<◌}
use mathlib.Core.Bool.{Bool, true, false, not, ◌||◌, or-false, and-true}
use mathlib.Core.List.{List}
use mathlib.Core.Logic.{⊎_elim}
use mathlib.Core.Path.{◌≡◌, refl, sym, ap, ◌∙◌}
use native.Mathlib.Numerals.{add-one}
use native.Mathlib.Omega.{arith}
use lib.Bits.{bit_or, or_lt}
use lib.Dec.{eqb}
use lib.Pow.{pow_pos, pow_mono}
use borrow.Author.Tests.{eqb-true, eqb-false, eq-eqb, ne_eqb, not-false}
use Rattle.laws.specs.Bytes.{bit}
use Rattle.laws.specs.Folds.{any_of}
use Rattle.rules.specs.Personality.{phase_count, group_count, detector_count, detector_phase, detector_mode, calls_phase, walks_phase, phase_without_caller}
use Rattle.laws.proofs.Booleans.{decided, or_left, or_right, or_cases, and-false-right, or_swap}
use Rattle.laws.proofs.Folds.{any_found, any_at, any_none, any_false}
use Rattle.laws.proofs.Bits.{bit-one}
use Rattle.laws.proofs.BitRanges.{shifted, full-each, all-full}
use Rattle.laws.proofs.JoinedBits.{bit-or}
use Rattle.read_groups.specs.GroupsRead.{CrossedPhases}

module _ (b : List ℕ) where
  -- phase p is called by one of the first d detectors, or by a pedestrian group
  abbrev called_by : ℕ → ℕ → Bool
  called_by d p = any_of (calls_phase b p) d || any_of (walks_phase b p) (group_count b)

  pub record Called (set d : ℕ) : Type 0 where
    pub within : set < 2 ^ phase_count b
    pub told : (p : ℕ) → bit p set ≡ called_by d p

  pub called-none : {set : ℕ} → CrossedPhases b set (group_count b) → Called set 0
  unfolding any_of
  called-none crossed = record { within = crossed.within; told = crossed.told }

  module _ {set d phase mode : ℕ} (called : Called set d) (own : phase ≡ detector_phase b d) (read : mode ≡ detector_mode b d) where
    pub called_more :
        phase_count b ≤ 7 → phase < phase_count b → (mode % 4 ≡ 0 → ⊥) → Called (bit_or set (1 * 2 ^ phase % 2 ^ 8)) (d + 1)
    unfolding any_of calls_phase
    called_more few l calls =
        rw (shifted 8 phase (omega arith))
        (record {
          within = or_lt (phase_count b) set (1 * 2 ^ phase) called.within (omega (arith, pow_mono l));
          told = λ p.
              bit-or p set (1 * 2 ^ phase)
              ∙ rw (
                add-one d,
                bit-one phase p,
                called.told p,
                ← own,
                ← read,
                ne_eqb (mode % 4) 0 calls,
                and-true (eqb phase p),
              )
              (or_swap (any_of (calls_phase b p) d) (any_of (walks_phase b p) (group_count b)) (eqb phase p));
        })

    -- a mode that does not call
    pub called_same : mode % 4 ≡ 0 → Called set (d + 1)
    unfolding any_of calls_phase
    called_same none =
        record {
          within = called.within;
          told = λ p.
              called.told p
              ∙ rw (add-one d, ← read, eq-eqb (mode % 4) 0 none, and-false-right (eqb (detector_phase b d) p) refl, or-false (any_of (calls_phase b p) d));
        }

  all-passed : {set d : ℕ} → Called set d → d ≤ detector_count b → set + 1 ≡ 2 ^ phase_count b → phase_without_caller b ≡ false
  unfolding phase_without_caller
  all-passed {set} {d} called few full =
      any_none _ (phase_count b)
      (λ p l.
      ap not
      (⊎_elim
      (λ (by : any_of (calls_phase b p) d ≡ true).
      let found = any_found _ d by in
      or_left _ (any_at _ (detector_count b) found.0 (omega (arith, found.1)) found.2))
      (λ (by : any_of (walks_phase b p) (group_count b) ≡ true). or_right (any_of (calls_phase b p) (detector_count b)) by)
      (or_cases _ _ (sym (called.told p) ∙ full-each (phase_count b) set p full l))))

  one-uncalled : {set d : ℕ} → Called set d → d ≡ detector_count b → (set + 1 ≡ 2 ^ phase_count b → ⊥) → phase_without_caller b ≡ true
  unfolding phase_without_caller
  one-uncalled {set} called whole lacks =
      ⊎_elim
      (λ (t : phase_without_caller b ≡ true). t)
      (λ (t : phase_without_caller b ≡ false).
      absurd
      (lacks
      (all-full (phase_count b) set called.within
      (λ p l. called.told p ∙ ap (λ (d : ℕ). called_by d p) whole ∙ not-false _ (any_false _ _ p t l)))))
      (decided (phase_without_caller b))

  -- the set of all phases is one less than 2 ^ P
  module _ {set d : ℕ} (few : phase_count b ≤ 7) (called : Called set d) where
    pub all-called : d ≤ detector_count b → set ≡ 1 * 2 ^ phase_count b % 2 ^ 8 - 1 → true ≡ not (phase_without_caller b)
    all-called within full =
        sym (ap not (all-passed called within (omega (arith, full, shifted 8 (phase_count b) (omega arith), pow_pos (phase_count b)))))

    pub called-decided : d ≡ detector_count b → eqb set (1 * 2 ^ phase_count b % 2 ^ 8 - 1) ≡ not (phase_without_caller b)
    called-decided whole =
        ⊎_elim
        (λ (e : eqb set (1 * 2 ^ phase_count b % 2 ^ 8 - 1) ≡ true).
        e ∙ all-called (omega arith) (eqb-true set (1 * 2 ^ phase_count b % 2 ^ 8 - 1) e))
        (λ (e : eqb set (1 * 2 ^ phase_count b % 2 ^ 8 - 1) ≡ false).
        e
        ∙ sym
        (ap not
        (one-uncalled called whole
        (λ full.
        eqb-false set (1 * 2 ^ phase_count b % 2 ^ 8 - 1) e
        (omega (arith, full, shifted 8 (phase_count b) (omega arith), pow_pos (phase_count b)))))))
        (decided (eqb set (1 * 2 ^ phase_count b % 2 ^ 8 - 1)))
