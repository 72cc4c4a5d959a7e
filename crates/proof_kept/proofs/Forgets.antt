-- Forgetting the kept set gives the scanning step. In a valid state both searches find the same phase, so a step does the same to the rest of
-- the state, and the set that it leaves is the scan of the demands that it leaves.
use Rattle.std.specs.Prelude.{Option}
use Prim.Native.Nat.{ℕ, ◌<◌}
use mathlib.Core.Bool.{true, false, not, ◌&&◌}
use mathlib.Core.Path.{◌≡◌, sym, ap, ◌∙◌}
use native.Mathlib.Omega.{arith}
use Rattle.rules.specs.declared.site.Site.{Site}
use Rattle.rules.specs.declared.state.Demands.{Demands}
use Rattle.rules.specs.declared.state.KeptState.{KeptState}
use Rattle.laws.specs.Bytes.{bit}
use Rattle.laws.specs.Folds.{set_of, sum_of}
use Rattle.rules.specs.Site.{crosses}
use Rattle.rules.specs.State.{fresh, locked, asked}
use Rattle.rules.specs.Demands.{stands, movement_demands}
use Rattle.rules.specs.Interval.{clears_lock}
use Rattle.rules.specs.Step.{stepped_to, stepped}
use Rattle.rules.specs.Kept.{fresh_kept, kept_valid, kept_after, kept_left, kept_stepped}
use Rattle.rules.specs.Laws.{Sound}
use Rattle.laws.proofs.Booleans.{and_left, and-false-left, or-false-both}
use Rattle.laws.proofs.Bits.{bit-blank}
use Rattle.laws.proofs.Folds.{any_none}
use Rattle.laws.proofs.ByteSets.{set_same}
use Rattle.proof_runs.proofs.Steps.{asked_now, locked_now, begun, ended, now, asked-at, locked-at, locked-of, asked_of}
use Rattle.proof_kept.proofs.Scans.{standing_after, kept-after, next-kept, kept-left}

pub stepped_same :
    (site : Site) →
    Sound site →
    (s : KeptState) (inputs : ℕ) →
    kept_valid site s ≡ true →
    (kept_stepped site s inputs).core ≡ stepped site s.core inputs
unfolding kept_stepped stepped stepped_to
stepped_same site sound s inputs v = ap (λ (next : Option ℕ). stepped_to next site s.core inputs) (next-kept site sound s inputs v)

-- ── A step keeps the set true ──

module _ (site : Site) (sound : Sound site) (s : KeptState) (inputs : ℕ) (v : kept_valid site s ≡ true) where
  -- what the step leaves of the demands
  left : Demands
  left = (stepped site s.core inputs).demands

  lock-was : (p : ℕ) → p < 8 → bit p left.locks ≡ true → bit p (standing_after site s inputs).locks ≡ true
  unfolding left locked
  lock-was p l h =
      locked-at site s.core inputs p l
      ∙ and_left (locked_now site s.core inputs p) (not (clears_lock (ended site s.core inputs) (now site s.core inputs) p))
      (sym (locked-of site s.core inputs p l) ∙ h)

  button-was :
      (k : ℕ) → k < site.size.movements → bit k left.buttons ≡ true → bit k (standing_after site s inputs).buttons ≡ true
  unfolding left asked
  button-was k l h =
      let small : k < 8 = omega (arith, sound.movements) in
      asked-at site s.core inputs k small
      ∙ and_left (asked_now site s.core inputs k) (not (begun site s.core inputs k)) (sym (asked_of site s.core inputs k small) ∙ h)

  pub keeps-scan : (kept_stepped site s inputs).kept ≡ set_of (stands site.crossings site.size.movements (kept_stepped site s inputs).core.demands)
  unfolding kept_stepped left stepped stepped_to
  keeps-scan =
      rw (next-kept site sound s inputs v)
      (set_same (kept_left site.crossings site.size.movements (standing_after site s inputs) left (kept_after site s inputs)) (stands site.crossings site.size.movements left)
      (λ p l.
      kept-left site.crossings site.size.movements (standing_after site s inputs) left lock-was button-was p l (kept_after site s inputs) (kept-after site sound s inputs v p l)))

-- ── The fresh state ──

-- it has no demand, so the scan finds none
pub fresh-scan : (site : Site) → fresh_kept.kept ≡ set_of (stands site.crossings site.size.movements fresh_kept.core.demands)
unfolding fresh_kept stands movement_demands fresh set_of sum_of
fresh-scan site =
    set_same (λ p. false) (stands site.crossings site.size.movements fresh.demands)
    (λ p l.
    sym
    (or-false-both (bit-blank p)
    (any_none (λ k. bit k 0 && crosses site.crossings k p) site.size.movements
    (λ k m. and-false-left (crosses site.crossings k p) (bit-blank k)))))
