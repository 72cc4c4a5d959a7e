-- The entries of a list before a phase, and those after it: the parts, and what is counted of them.
use Prim.Native.Nat.{ℕ, ◌+◌}
use mathlib.Core.Bool.{true, false}
use mathlib.Core.List.{List, [], ◌∷◌, ◌++◌, append-nil}
use mathlib.Core.Logic.{⊎_elim}
use mathlib.Core.Path.{◌≡◌, refl, ap, ◌∙◌}
use native.Mathlib.Omega.{arith}
use borrow.Author.Tests.{eqb-true, eqb-false, ne_eqb}
use lib.Dec.{eqb}
use Rattle.rules.specs.Demands.{after, before}
use Rattle.laws.proofs.Booleans.{decided}
use Rattle.laws.proofs.Entries.{total, one, places, In, one-own, total-append, in-none, later-in}

-- ── The entries before a phase, and those after it ──

pub split : {p : ℕ} {l : List ℕ} → In p l → l ≡ before p l ++ (p ∷ after p l)
unfolding before after
split {l = []} i = absurd (in-none i)
split {p} {l = x ∷ l} i =
    ⊎_elim
    (λ (e : eqb x p ≡ true). rw e (cc (eqb-true x p e)))
    (λ (e : eqb x p ≡ false). rw e (ap (λ (m : List ℕ). x ∷ m) (split (later-in i (eqb-false x p e)))))
    (decided (eqb x p))

-- the sum over a list, by its parts around p
pub around : (f : ℕ → ℕ) {p : ℕ} {l : List ℕ} → In p l → total f l ≡ total f (before p l) + f p + total f (after p l)
unfolding total
around f {p} {l} i = ap (total f) (split i) ∙ omega (arith, total-append f (before p l) (p ∷ after p l))

-- of two lists, one behind the other, where q stands in the first
pub in-front :
    {q : ℕ} {l : List ℕ} (m : List ℕ) → In q l → (before q (l ++ m) ≡ before q l) × (after q (l ++ m) ≡ after q l ++ m)
unfolding before after
in-front {l = []} m i = absurd (in-none i)
in-front {q} {l = x ∷ l} m i =
    ⊎_elim
    (λ (e : eqb x q ≡ true). rw e (refl, refl))
    (λ (e : eqb x q ≡ false).
    let r = in-front m (later-in i (eqb-false x q e)) in rw e (ap (λ (k : List ℕ). x ∷ k) r.0, r.1))
    (decided (eqb x q))

-- and where it does not
pub behind :
    (q : ℕ) (l m : List ℕ) → places q l ≡ 0 → (before q (l ++ m) ≡ l ++ before q m) × (after q (l ++ m) ≡ after q m)
unfolding before after total
behind q [] m h = (refl, refl)
behind q (x ∷ l) m h =
    let r = behind q l m (omega arith) in
    rw (ne_eqb x q (λ e. omega (arith, one-own q, ap (one q) e))) (ap (λ (k : List ℕ). x ∷ k) r.0, r.1)

-- nothing is cut off by a phase that does not stand there
pub uncut : (q : ℕ) (l : List ℕ) → places q l ≡ 0 → (before q l ≡ l) × (after q l ≡ [])
unfolding before after
uncut q l h = rw append-nil at (behind q l [] h)
