-- A ring cut at a phase: the phases behind it and those before it.
use Rattle.std.proofs.Common.{◌≡◌, ℕ, Bool, true, false, not, eqb, List, [], ◌∷◌, ◌++◌, length, take, drop, find, position, refl, ap, ◌∙◌, arith}
use mathlib.Core.Logic.{⊎_elim}
use Rattle.std.proofs.Math.Numerals.{one-add}
use Rattle.std.specs.List.{position_or_len}
use Rattle.std.specs.Option.{unwrap_or}
use Rattle.std.proofs.lemmas.Grind.{common_steps}
use Rattle.std.proofs.lemmas.List.Sums.{prefix_len-le-length}
use Rattle.rules.specs.Site.{ring}
use Rattle.rules.specs.Demands.{after, before, first_in, next_after}
use Rattle.laws.proofs.Booleans.{decided}

found : (f : ℕ → Bool) (l : List ℕ) → find f l ≡ first_in f l
unfolding first_in
found f [] = refl
found f (q ∷ l) = grind (arith, common_steps, found f l)

place : (p : ℕ) (l : List ℕ) → unwrap_or (position (λ q. eqb q p) l) (length l) ≡ position_or_len (λ q. eqb q p) l
place p l = grind (arith, common_steps, prefix_len-le-length (λ q. not (eqb q p)) l)

front : (p : ℕ) (l : List ℕ) → take (position_or_len (λ q. eqb q p) l) l ≡ before p l
unfolding before
front p [] = refl
front p (q ∷ l) =
    ⊎_elim
    (λ (t : eqb q p ≡ true). rw t)
    (λ (t : eqb q p ≡ false). rw (t, one-add) (ap (λ (k : List ℕ). q ∷ k) (front p l)))
    (decided (eqb q p))

behind : (p : ℕ) (l : List ℕ) → drop 1 (drop (position_or_len (λ q. eqb q p) l) l) ≡ after p l
unfolding after
behind p [] = refl
behind p (q ∷ l) =
    ⊎_elim
    (λ (t : eqb q p ≡ true). rw t)
    (λ (t : eqb q p ≡ false). rw (t, one-add) (behind p l))
    (decided (eqb q p))

-- the search behind the place of p, and then in front of it
pub next-found :
    (ring : List ℕ) (p at : ℕ) (f : ℕ → Bool) →
    at ≡ unwrap_or (position (λ q. eqb q p) ring) (length ring) →
    find f (drop 1 (drop at ring) ++ take at ring) ≡ next_after ring p f
unfolding next_after
next-found ring p at f e = found f _ ∙ rw (e, place p ring, front p ring, behind p ring)
