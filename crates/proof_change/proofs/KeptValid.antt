-- Valid states with the kept set, of a sound site: the fresh state is one, and a step keeps them so.
use Prim.Native.Nat.{ℕ}
use mathlib.Core.Bool.{true, false}
use mathlib.Core.Path.{◌≡◌, ap, ◌∙◌}
use borrow.Author.Tests.{eq-eqb}
use Rattle.rules.specs.declared.site.Site.{Site}
use Rattle.rules.specs.declared.state.KeptState.{KeptState}
use Rattle.rules.specs.declared.state.State.{State}
use Rattle.rules.specs.State.{valid}
use Rattle.rules.specs.Kept.{fresh_kept, kept_valid, kept_stepped}
use Rattle.rules.specs.Call.{stray_input}
use Rattle.rules.specs.Laws.{Sound}
use Rattle.laws.proofs.Booleans.{and_left, and_both}
use Rattle.proof_validity.proofs.Fresh.{fresh-valid}
use Rattle.proof_validity.proofs.Validity.{stepped-valid}
use Rattle.proof_kept.proofs.Forgets.{stepped_same, keeps-scan, fresh-scan}

module _ (site : Site) (sound : Sound site) where
  pub kept-fresh-valid : kept_valid site fresh_kept ≡ true
  unfolding kept_valid fresh_kept
  kept-fresh-valid = and_both (fresh-valid site sound) (eq-eqb _ _ (fresh-scan site))

  pub kept-stepped-valid :
      (s : KeptState) (inputs : ℕ) →
      kept_valid site s ≡ true →
      stray_input site inputs ≡ false →
      kept_valid site (kept_stepped site s inputs) ≡ true
  unfolding kept_valid
  kept-stepped-valid s inputs v wired =
      and_both
      (ap (λ (t : State). valid site t) (stepped_same site sound s inputs v) ∙ stepped-valid site sound s.core inputs (and_left (valid site s.core) _ v) wired)
      (eq-eqb _ _ (keeps-scan site sound s inputs v))
