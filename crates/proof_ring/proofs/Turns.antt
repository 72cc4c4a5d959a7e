-- The ring turned past a phase. The phases after p in cyclic order are those that stand behind p, then those before it; turned on past one
-- of them, t, they are what stood there behind t, then p, then what stood before t.
use Prim.Native.Nat.{ℕ, ◌+◌, ◌≤◌, ◌<◌}
use mathlib.Core.List.{List, ◌∷◌, ◌++◌, append_assoc}
use mathlib.Core.Logic.{⊎_elim}
use mathlib.Core.Path.{◌≡◌, sym, ap, ◌∙◌}
use native.Mathlib.Nat.{eq-zero-or-pos}
use native.Mathlib.Omega.{arith}
use borrow.Author.Tests.{ne_eqb}
use Rattle.rules.specs.Demands.{after, before}
use Rattle.proof_ring.proofs.Entries.{split, around, in-front, behind, uncut}
use Rattle.laws.proofs.Entries.{total, one, places, In, one-other, total-append}

-- the phases after p in cyclic order
unfoldable pub turn : List ℕ → ℕ → List ℕ
turn ring p = after p ring ++ before p ring

-- turning past p leaves one p out where p stands in the ring
pub turn-leaves : (f : ℕ → ℕ) {p : ℕ} {ring : List ℕ} → In p ring → f p + total f (turn ring p) ≡ total f ring
unfolding turn
turn-leaves f {p} {ring} i = omega (arith, around f i, total-append f (after p ring) (before p ring))

-- and nothing else anywhere
pub turn-keeps :
    (f : ℕ → ℕ) (ring : List ℕ) (p : ℕ) → (total f (turn ring p) ≤ total f ring) × (total f ring ≤ f p + total f (turn ring p))
unfolding turn
turn-keeps f ring p =
    ⊎_elim
    (λ (none : places p ring ≡ 0). rw ((uncut p ring none).0, (uncut p ring none).1) (omega arith))
    (λ (some : 0 < places p ring). omega (arith, turn-leaves f {p = p} {ring = ring} (record { found = some })))
    (eq-zero-or-pos (places p ring))

pub turn_in : {q p : ℕ} {ring : List ℕ} → In q ring → (q ≡ p → ⊥) → In q (turn ring p)
turn_in {q} {p} {ring} i ne =
    record { found = omega (arith, turn-keeps (one q) ring p, one-other {q = q} {x = p} (λ e. ne (sym e))) }

-- a cyclic order may be cut anywhere
turn-cut : {t : ℕ} (l m : List ℕ) → In t l → places t m ≡ 0 → turn (l ++ m) t ≡ turn (m ++ l) t
unfolding turn
turn-cut {t} l m i h =
    rw ((in-front m i).0, (in-front m i).1, (behind t m l h).0, (behind t m l h).1) (append_assoc (after t l) m (before t l))

-- a cut before p
turn-from :
    {p : ℕ} {ring : List ℕ} (t : ℕ) → In p ring → places t ring ≡ 1 → turn ring t ≡ turn (p ∷ turn ring p) t
unfolding turn total
turn-from {p} {ring} t i single =
    ap (λ (l : List ℕ). turn l t) (split i)
    ∙ ⊎_elim
    (λ (none : places t (before p ring) ≡ 0).
    sym (turn-cut (p ∷ after p ring) (before p ring) (record { found = omega (arith, around (one t) i) }) none))
    (λ (some : 0 < places t (before p ring)).
    turn-cut (before p ring) (p ∷ after p ring) (record { found = some }) (omega (arith, around (one t) i)))
    (eq-zero-or-pos (places t (before p ring)))

-- turned on from p past t, which stands once in the ring
pub turn_on :
    {p t : ℕ} {ring : List ℕ} →
    In p ring →
    places t ring ≡ 1 →
    (t ≡ p → ⊥) →
    turn ring t ≡ after t (turn ring p) ++ (p ∷ before t (turn ring p))
unfolding turn after before
turn_on {p} {t} i single ne = turn-from t i single ∙ rw (ne_eqb p t (λ e. ne (sym e)))
