-- Lists by index: the list of f has f at each index, a row has blanks past it, and inside a list the default is not asked for.
use Prim.Native.Nat.{ℕ, zero, suc, ◌-◌, ◌≤◌, ◌<◌}
use mathlib.Core.List.{List, [], ◌∷◌, ◌++◌}
use mathlib.Core.Logic.{⊎_elim}
use mathlib.Core.Path.{◌≡◌, refl, sym, subst, ◌∙◌}
use native.Mathlib.Nat.{le_of_suc-le-suc, not-suc-le-zero}
use native.Mathlib.Omega.{arith}
use lib.ListN.{length, get_or, replicate, set, length-append, length-replicate, length-set, get_or-append}
use lib.Seq.{get_or-append-add, get_or_at, ext_get_or, get_or-set_same, get_or-set_other}
use Rattle.laws.specs.Folds.{list_of, row_of}
use Rattle.laws.proofs.Folds.{fold_same}
use Rattle.laws.proofs.Indices.{last-or-below, below-or-past, same-or-apart}

module _ {ℓ} {A : Type ℓ} where
  -- ── Any list ──

  -- inside a list the default is not asked for
  pub entry-same : (l : List A) (i : ℕ) (d e : A) → i < length l → get_or l i d ≡ get_or l i e
  entry-same [] i d e h = absurd (not-suc-le-zero h)
  entry-same (x ∷ l) zero d e h = refl
  entry-same (x ∷ l) (suc i) d e h = entry-same l i d e (le_of_suc-le-suc h)

  -- ── The list of f ──

  pub list_length : (f : ℕ → A) (n : ℕ) → length (list_of f n) ≡ n
  unfolding list_of
  list_length f zero = refl
  list_length f (suc n) = length-append (list_of f n) (f n ∷ []) ∙ omega (arith, list_length f n)

  pub list_at : (f : ℕ → A) (n i : ℕ) (d : A) → i < n → get_or (list_of f n) i d ≡ f i
  unfolding list_of
  list_at f zero i d h = absurd (not-suc-le-zero h)
  list_at f (suc n) i d h =
      ⊎_elim
      (λ (e : i ≡ n).
      subst (λ (j : ℕ). get_or (list_of f n ++ (f n ∷ [])) j d ≡ f j) (sym e)
      (get_or_at (list_of f n) (f n) [] d n (list_length f n)))
      (λ (l : i < n).
      get_or-append (list_of f n) (f n ∷ []) d i (subst (λ (m : ℕ). i < m) (sym (list_length f n)) l)
      ∙ list_at f n i d l)
      (last-or-below h)

  pub list_same : (f g : ℕ → A) (n : ℕ) → ((i : ℕ) → i < n → f i ≡ g i) → list_of f n ≡ list_of g n
  unfolding list_of
  list_same = fold_same list_of (λ f g. refl) (λ f g n front last. rw (front, last))

  -- a list with f at every index is the list of f
  pub list-told :
      (f : ℕ → A) (l : List A) (n : ℕ) (d : A) →
      length l ≡ n →
      ((i : ℕ) → i < n → get_or l i d ≡ f i) →
      l ≡ list_of f n
  list-told f l n d e h =
      ext_get_or d l (list_of f n) (e ∙ sym (list_length f n))
      (λ i m. let below : i < n = omega arith in h i below ∙ sym (list_at f n i d below))

  -- a list is the list of its own entries
  pub listed : (l : List A) (n : ℕ) (d : A) → length l ≡ n → list_of (λ i. get_or l i d) n ≡ l
  listed l n d e = sym (list-told (λ i. get_or l i d) l n d e (λ i h. refl))

  -- a store, if f has the new entry there and the old entries elsewhere
  pub list_set :
      (f : ℕ → A) (l : List A) (n i : ℕ) (a d : A) →
      length l ≡ n →
      i < n →
      f i ≡ a →
      ((j : ℕ) → j < n → (j ≡ i → ⊥) → f j ≡ get_or l j d) →
      set l i a ≡ list_of f n
  list_set f l n i a d e m own other =
      list-told f (set l i a) n d (length-set l i a ∙ e)
      (λ j k.
      ⊎_elim
      (λ (same : j ≡ i). rw same (get_or-set_same l i a d (omega arith) ∙ sym own))
      (λ (apart : j ≡ i → ⊥). get_or-set_other l i j a d apart ∙ sym (other j k apart))
      (same-or-apart j i))

  -- ── A row of f, and blanks up to the room ──

  pub row_at : (f : ℕ → A) (n room i : ℕ) (blank : A) → i < n → get_or (row_of f n room blank) i blank ≡ f i
  unfolding row_of
  row_at f n room i blank h =
      get_or-append
      (list_of f n)
      (replicate (room - n) blank)
      blank
      i
      (subst (λ (m : ℕ). i < m) (sym (list_length f n)) h)
      ∙ list_at f n i blank h

  blanks : (m i : ℕ) (blank : A) → get_or (replicate m blank) i blank ≡ blank
  blanks zero i blank = refl
  blanks (suc m) zero blank = refl
  blanks (suc m) (suc i) blank = blanks m i blank

  pub row-past : (f : ℕ → A) (n room i : ℕ) (blank : A) → n ≤ i → get_or (row_of f n room blank) i blank ≡ blank
  unfolding row_of
  row-past f n room i blank h =
      subst (λ (j : ℕ). get_or (list_of f n ++ replicate (room - n) blank) j blank ≡ blank) (omega (arith, list_length f n))
      (get_or-append-add (list_of f n) (replicate (room - n) blank) (i - n) blank ∙ blanks (room - n) (i - n) blank)

  row-length : (f : ℕ → A) (n room : ℕ) (blank : A) → n ≤ room → length (row_of f n room blank) ≡ room
  unfolding row_of
  row-length f n room blank h =
      length-append (list_of f n) (replicate (room - n) blank)
      ∙ omega (arith, list_length f n, length-replicate (room - n) blank)

  -- a list with f at the first indices and blanks at the others is the row of f
  pub row_told :
      (f : ℕ → A) (l : List A) (n room : ℕ) (blank : A) →
      n ≤ room →
      length l ≡ room →
      ((i : ℕ) → i < n → f i ≡ get_or l i blank) →
      ((i : ℕ) → n ≤ i → i < room → get_or l i blank ≡ blank) →
      row_of f n room blank ≡ l
  row_told f l n room blank h e own past =
      ext_get_or blank (row_of f n room blank) l (row-length f n room blank h ∙ sym e)
      (λ i m.
      ⊎_elim
      (λ (below : i < n). row_at f n room i blank below ∙ own i below)
      (λ (from : n ≤ i). row-past f n room i blank from ∙ sym (past i from (omega (arith, row-length f n room blank h))))
      (below-or-past i n))
