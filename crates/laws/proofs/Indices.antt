-- Two indices compared: the same or apart, below or past; a test by index up to the next one.
use Prim.Native.Nat.{ℕ, suc, ◌+◌, ◌≤◌, ◌<◌}
use mathlib.Core.Bool.{Bool, true, false, ◌&&◌}
use mathlib.Core.Logic.{◌⊎◌, inl, inr, ⊎_elim}
use mathlib.Core.Path.{◌≡◌, sym, ap, ◌∙◌, subst}
use native.Mathlib.Nat.{eq-or-lt_of_le, le_of_suc-le-suc}
use native.Mathlib.Omega.{arith}
use lib.Dec.{leb, ltb, eqb}
use borrow.Author.Tests.{leb-true, ltb-true, ltb-false, eqb-true, eqb-false, eq-eqb, ne_eqb}
use Rattle.laws.proofs.Booleans.{decided, never_both, and_split}

-- ── Cases ──

-- an index below n + 1 is n, or is below n
pub last-or-below : {i n : ℕ} → i < suc n → (i ≡ n) ⊎ (i < n)
last-or-below h = eq-or-lt_of_le (le_of_suc-le-suc h)

pub below-or-past : (i n : ℕ) → (i < n) ⊎ (n ≤ i)
below-or-past i n =
    ⊎_elim
    (λ (t : ltb i n ≡ true). inl (ltb-true i n t))
    (λ (t : ltb i n ≡ false). inr (ltb-false i n t))
    (decided (ltb i n))

pub same-or-apart : (i j : ℕ) → (i ≡ j) ⊎ (i ≡ j → ⊥)
same-or-apart i j =
    ⊎_elim
    (λ (t : eqb i j ≡ true). inl (eqb-true i j t))
    (λ (t : eqb i j ≡ false). inr (eqb-false i j t))
    (decided (eqb i j))

-- ── Tests of two numbers ──

pub eqb-turned : (a b : ℕ) → eqb a b ≡ eqb b a
eqb-turned a b =
    ⊎_elim
    (λ (e : a ≡ b). rw e)
    (λ (apart : a ≡ b → ⊥). ne_eqb a b apart ∙ sym (ne_eqb b a (λ e. apart (sym e))))
    (same-or-apart a b)

pub eqb-suc : (a b : ℕ) → eqb (suc a) (suc b) ≡ eqb a b
eqb-suc a b =
    ⊎_elim
    (λ (e : a ≡ b). eq-eqb (suc a) (suc b) (ap suc e) ∙ sym (eq-eqb a b e))
    (λ (apart : a ≡ b → ⊥). ne_eqb (suc a) (suc b) (λ e. apart (omega (arith, e))) ∙ sym (ne_eqb a b apart))
    (same-or-apart a b)

pub in-range : (low high n : ℕ) → (leb low n && leb n high) ≡ true → (low ≤ n) × (n ≤ high)
in-range low high n h = let both = and_split (leb low n) (leb n high) h in (leb-true low n both.0, leb-true n high both.1)

-- ── What holds by index ──

-- a test that fails from n on passes below n only
pub passes-below : (t : Bool) (i n : ℕ) → (n ≤ i → t ≡ false) → t ≡ true → i < n
passes-below t i n past p = ⊎_elim (λ (l : i < n). l) (λ (l : n ≤ i). absurd (never_both p (past l))) (below-or-past i n)

-- a test that fails below n passes from n on only
pub fails-to : (f : ℕ → Bool) {n i : ℕ} → ((k : ℕ) → k < n → f k ≡ false) → f i ≡ true → n ≤ i
fails-to f {n} {i} fails p = ⊎_elim (λ (l : i < n). absurd (never_both p (fails i l))) (λ (l : n ≤ i). l) (below-or-past i n)

-- what holds from k up to n, and of n
pub upto-more : (P : ℕ → Type 0) (k n : ℕ) → ((i : ℕ) → k ≤ i → i < n → P i) → P n → (i : ℕ) → k ≤ i → i < n + 1 → P i
upto-more P k n before here i h l =
    ⊎_elim
    (λ (e : i ≡ n). subst P (sym e) here)
    (λ (m : i < n). before i h m)
    (last-or-below (omega (arith, l)))

-- what holds below n, and of n
pub below_more : (P : ℕ → Type 0) (n : ℕ) → ((i : ℕ) → i < n → P i) → P n → (i : ℕ) → i < suc n → P i
below_more P n before here i l = upto-more P 0 n (λ i h m. before i m) here i (omega arith) (omega arith)
