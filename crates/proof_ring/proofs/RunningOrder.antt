-- The ring of a sound site. Each phase is counted once among the entries of the running order, by index, so it stands once in the list of them. No
-- other proof looks at the order: whatever is shown of the ring is shown of every order in which each phase stands once.
use Prim.Native.Nat.{ℕ, zero, suc}
use mathlib.Core.List.{[], ◌∷◌}
use mathlib.Core.Path.{◌≡◌, refl, ◌∙◌}
use native.Mathlib.Omega.{arith}
use lib.Dec.{eqb}
use lib.ListN.{get_or}
use Rattle.rules.specs.declared.site.Site.{Site}
use Rattle.laws.specs.Folds.{count_of, list_of}
use Rattle.rules.specs.Site.{ring}
use Rattle.rules.specs.Laws.{Sound}
use Rattle.laws.proofs.Lists.{list_length}
use Rattle.laws.proofs.Entries.{total, one, places, total-append}
use Rattle.proof_ring.proofs.Ring.{RingOf}

places-counted : (f : ℕ → ℕ) (p n : ℕ) → places p (list_of f n) ≡ count_of (λ i. eqb (f i) p) n
unfolding total one list_of count_of
places-counted f p zero = refl
places-counted f p (suc n) = omega (arith, total-append (one p) (list_of f n) (f n ∷ []), places-counted f p n)

pub ring_of : (site : Site) → Sound site → RingOf site.size.phases (ring site.order site.size.phases)
unfolding ring
ring_of site sound =
    let entry : ℕ → ℕ = λ i. get_or site.order i 0 in
    record {
      entries = list_length entry site.size.phases;
      each = λ p h. places-counted entry p site.size.phases ∙ sound.order_once p h;
    }
