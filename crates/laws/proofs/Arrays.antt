-- An array that a loop fills: f in front, the old entries behind, one more of f after each turn; or written part behind part.
use Prim.Native.Nat.{ℕ, zero, suc, ◌+◌, ◌-◌, ◌≤◌, ◌<◌}
use mathlib.Core.List.{List, [], ◌∷◌, ◌++◌, append-nil}
use mathlib.Core.Path.{◌≡◌, refl, sym, ap, ◌∙◌}
use native.Mathlib.Numerals.{add-one}
use native.Mathlib.Omega.{arith}
use native.Mathlib.Nat.{add-zero, zero-add, le_of_eq}
use lib.ListN.{length, get_or, drop, set, drop_of_length-le}
use lib.Seq.{drop-cons, drop-length, set_at, append_snoc, get_or_at, sets, sets-eq, length-sets}
use Rattle.laws.specs.Folds.{list_of}
use Rattle.laws.proofs.Lists.{list_length}

-- ── Filled from the front ──

-- f at the first k indices, and the old entries from there on
pub record Filled {ℓ} {A : Type ℓ} (f : ℕ → A) (old out : List A) (k : ℕ) : Type ℓ where
  pub told : out ≡ list_of f k ++ drop k old

module _ {ℓ} {A : Type ℓ} where
  -- a store at the boundary, behind a front of any kind
  pub store-more :
      (front old : List A) (k : ℕ) (v : A) →
      length front ≡ k →
      k < length old →
      set (front ++ drop k old) k v ≡ (front ++ (v ∷ [])) ++ drop (suc k) old
  store-more front old k v e h =
      rw (drop-cons old k v h)
      (set_at front (get_or old k v) (drop (suc k) old) v k e ∙ sym (append_snoc front v (drop (suc k) old)))

  fill-all : (f : ℕ → A) (old : List A) (n : ℕ) → length old ≡ n → list_of f n ++ drop n old ≡ list_of f n
  fill-all f old n h = rw (drop_of_length-le old {i = n} (le_of_eq h)) (append-nil (list_of f n))

  pub fill_none : (f : ℕ → A) (old : List A) → Filled f old old 0
  unfolding list_of
  fill_none f old = record { told = refl }

  pub fill_step :
      {f : ℕ → A} {old out : List A} {k : ℕ} {a : A} →
      Filled f old out k →
      k < length old →
      a ≡ f k →
      Filled f old (set out k a) (k + 1)
  unfolding list_of
  fill_step {f} {old} {out} {k} {a} filled h same =
      record { told = rw (filled.told, same, add-one k) (store-more (list_of f k) old k (f k) (list_length f k) h) }

  pub fill_done :
      {f : ℕ → A} {old out : List A} {k : ℕ} {n : ℕ} →
      Filled f old out k →
      length old ≡ n →
      k ≤ n →
      n ≤ k →
      out ≡ list_of f n
  fill_done {f} {old} {out} {k} {n} filled len a b =
      let last : k ≡ n = omega arith in
      rw (filled.told, last) (fill-all f old n len)

  -- the entry at the boundary is the old one
  pub fill-boundary :
      {f : ℕ → A} {old out : List A} (d : A) (k : ℕ) → Filled f old out k → k < length old → get_or out k d ≡ get_or old k d
  fill-boundary {f} {old} {out} d k filled h =
      rw (filled.told, drop-cons old k d h) (get_or_at (list_of f k) (get_or old k d) (drop (suc k) old) d k (list_length f k))

  -- an entry that is as f has it counts as written
  fill_one :
      {f : ℕ → A} {old out : List A} (d : A) (k : ℕ) →
      Filled f old out k →
      k < length old →
      get_or old k d ≡ f k →
      Filled f old out (suc k)
  unfolding list_of
  fill_one {f} {old} {out} d k filled h same =
      record { told = filled.told ∙ rw (drop-cons old k d h, same) (sym (append_snoc (list_of f k) (f k) (drop (suc k) old))) }

  fill_more :
      {f : ℕ → A} {old out : List A} (d : A) (k m : ℕ) →
      Filled f old out k →
      k + m ≤ length old →
      ((i : ℕ) → k ≤ i → i < k + m → get_or old i d ≡ f i) →
      Filled f old out (k + m)
  fill_more d k zero filled h same = let last : k + 0 ≡ k = omega arith in rw last filled
  fill_more d k (suc m) filled h same =
      let next : k + suc m ≡ suc (k + m) = omega arith in
      rw next
      (fill_one d (k + m) (fill_more d k m filled (omega arith) (λ i a b. same i a (omega arith))) (omega arith)
      (same (k + m) (omega arith) (omega arith)))

  -- the rest is as f has it
  pub fill-kept :
      {f : ℕ → A} {old out : List A} (d : A) (k n : ℕ) →
      Filled f old out k →
      length old ≡ n →
      k ≤ n →
      ((i : ℕ) → k ≤ i → i < n → get_or old i d ≡ f i) →
      out ≡ list_of f n
  fill-kept d k n filled len h same =
      let rest : k + (n - k) ≡ n = omega arith in
      fill_done (rw rest at (fill_more d k (n - k) filled (omega arith) (λ i a b. same i a (omega arith)))) len (omega arith) (omega arith)

-- ── Written from a place on, part behind part ──

-- the first i of n entries are stored from the place on
pub record Stored {A : Type 0} (row : ℕ → List A) (old : List A) (at n : ℕ) (out : List A) (i : ℕ) : Type 0 where
  pub within : i ≤ n
  pub entries : out ≡ sets old at (row i)

module _ {A : Type 0} where
  sets-append : (l p q : List A) (i : ℕ) → sets l i (p ++ q) ≡ sets (sets l i p) (i + length p) q
  sets-append l [] q i = rw add-zero
  sets-append l (a ∷ p) q i =
      sets-append (set l i a) p q (suc i)
      ∙ ap (λ (n : ℕ). sets (sets (set l i a) (suc i) p) n q) (omega arith)

  -- a part stored behind another
  pub sets-next : (l p q : List A) (i n : ℕ) → n ≡ i + length p → sets (sets l i p) n q ≡ sets l i (p ++ q)
  sets-next l p q i n e = rw (e, sets-append l p q i)

  pub sets-whole : (l p : List A) → length p ≡ length l → sets l 0 p ≡ p
  sets-whole l p e =
      sets-eq p l 0 (omega arith)
      ∙ rw (zero-add (length p), e, drop-length l) (append-nil p)

  module _ {row : ℕ → List A} {old : List A} {at n : ℕ} where
    pub stored-none : row 0 ≡ [] → Stored row old at n old 0
    stored-none e = record { within = omega arith; entries = rw e }

    pub stored-length : {out : List A} {i : ℕ} → Stored row old at n out i → length out ≡ length old
    stored-length {out} {i} h = ap length h.entries ∙ length-sets old at (row i)

    pub stored_more :
        {out : List A} {i : ℕ} (part : List A) (m : ℕ) →
        Stored row old at n out i →
        i < n →
        m ≡ at + length (row i) →
        row (suc i) ≡ row i ++ part →
        Stored row old at n (sets out m part) (i + 1)
    stored_more {out} {i} part m h l e more =
        record { within = omega arith; entries = rw (h.entries, add-one i, more) (sets-next old (row i) part at m e) }

    pub stored-all : {out : List A} {i : ℕ} → Stored row old at n out i → n ≤ i → out ≡ sets old at (row n)
    stored-all {out} {i} h l = let e : i ≡ n = omega (arith, h.within) in rw e at h.entries

  -- one entry of a list by index
  pub stored_one :
      (f : ℕ → A) {old out : List A} {at n i m : ℕ} {v : A} →
      Stored (list_of f) old at n out i →
      i < n →
      m ≡ at + i →
      v ≡ f i →
      Stored (list_of f) old at n (set out m v) (i + 1)
  unfolding list_of
  stored_one f {i = i} {m = m} {v = v} h l e same = stored_more (v ∷ []) m h l (rw (list_length f i) e) (rw same)
