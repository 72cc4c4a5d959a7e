-- Laws of verdicts: acceptance of checks in order is acceptance of each, and a refusal comes from one of them. And as code makes checks
-- one after the other: one that passed leaves the answer to the next, a refusal is the answer, and once each of a row has passed the
-- row has.
use Rattle.std.specs.Prelude.{Ok, Err}
use Prim.Native.Nat.{ℕ, zero, suc, ◌+◌, ◌<◌}
use mathlib.Core.Bool.{Bool, true, false}
use mathlib.Core.Logic.{◌⊎◌, inl, inr, ⊎_elim}
use mathlib.Core.Path.{◌≡◌, refl, ap, sym, ◌∙◌}
use native.Mathlib.Nat.{not-suc-le-zero}
use native.Mathlib.Numerals.{add-one}
use native.Mathlib.Omega.{arith}
use Rattle.rules.specs.Types.{Verdict, Accepted, Refused, Refusal}
use Rattle.rules.specs.Verdicts.{◌or_else◌, refuse_if, first_of}
use Rattle.laws.proofs.Indices.{last-or-below}
use Rattle.laws.proofs.Folds.{fold_at}

pub refused-not-accepted : {n p : ℕ} → Refused n p ≡ Accepted → ⊥
refused-not-accepted h = let z : ◌≡◌ {A = ℕ} 0 1 = cc in omega arith

-- refusals are the same only with the same number and place
pub refused-same : (m q n p : ℕ) → Refused m q ≡ Refused n p → (m ≡ n) × (q ≡ p)
refused-same m q n p h =
    let same : ◌≡◌ {A = Refusal} (record { number = m; place = q }) (record { number = n; place = p }) = cc in
    (ap (λ (r : Refusal). r.number) same, ap (λ (r : Refusal). r.place) same)

pub or-first : (a b : Verdict) → (a or_else b) ≡ Accepted → a ≡ Accepted
unfolding ◌or_else◌
or-first (Ok _) b h = refl
or-first (Err r) b h = h

pub or_later : (a b : Verdict) → (a or_else b) ≡ Accepted → b ≡ Accepted
unfolding ◌or_else◌
or_later (Ok _) b h = h
or_later (Err r) b h = absurd (refused-not-accepted h)

pub or-refused : (a b : Verdict) {n p : ℕ} → (a or_else b) ≡ Refused n p → (a ≡ Refused n p) ⊎ ((a ≡ Accepted) × (b ≡ Refused n p))
unfolding ◌or_else◌
or-refused (Ok _) b h = inr (refl, h)
or-refused (Err r) b h = inl h

pub refuse-passed : (t : Bool) (n p : ℕ) → refuse_if t n p ≡ Accepted → t ≡ false
unfolding refuse_if
refuse-passed true n p h = absurd (refused-not-accepted h)
refuse-passed false n p h = refl

pub refuse-failed : (t : Bool) (m q : ℕ) {n p : ℕ} → refuse_if t m q ≡ Refused n p → (t ≡ true) × (n ≡ m) × (p ≡ q)
unfolding refuse_if
refuse-failed true m q {n} {p} h = let same = refused-same m q n p h in (refl, sym same.0, sym same.1)
refuse-failed false m q h = absurd (refused-not-accepted (sym h))

pub first-each : (f : ℕ → Verdict) (n i : ℕ) → first_of f n ≡ Accepted → i < n → f i ≡ Accepted
unfolding first_of
first-each f n i h l =
    fold_at first_of (λ v all. all ≡ Accepted → v ≡ Accepted)
    (λ f n p. or_later (first_of f n) (f n) p)
    (λ f n v below p. below (or-first (first_of f n) (f n) p)) f n i l h

pub first-refused : (f : ℕ → Verdict) (m : ℕ) {n p : ℕ} → first_of f m ≡ Refused n p → (i : ℕ) × (i < m) × (f i ≡ Refused n p)
unfolding first_of
first-refused f zero h = absurd (refused-not-accepted (sym h))
first-refused f (suc m) {n} {p} h =
    ⊎_elim
    (λ (e : first_of f m ≡ Refused n p). let w = first-refused f m e in (w.0, omega (arith, w.1), w.2))
    (λ (e : (first_of f m ≡ Accepted) × (f m ≡ Refused n p)). (m, omega arith, e.1))
    (or-refused (first_of f m) (f m) h)

-- ── A check that is made ──

pub refuse-yes : {t : Bool} (n p : ℕ) → t ≡ true → Refused n p ≡ refuse_if t n p
unfolding refuse_if
refuse-yes n p e = rw e

pub refuse-no : {t : Bool} (n p : ℕ) → t ≡ false → refuse_if t n p ≡ Accepted
unfolding refuse_if
refuse-no n p e = rw e

-- a check, then another: w is what the first answers, and it passed
pub or-next : {a b v w : Verdict} → w ≡ a → w ≡ Accepted → v ≡ b → v ≡ (a or_else b)
unfolding ◌or_else◌
or-next e p q = rw (← e, p) q

-- it refused
pub or-stop : {a w : Verdict} (b : Verdict) {n p : ℕ} → w ≡ a → w ≡ Refused n p → w ≡ (a or_else b)
unfolding ◌or_else◌
or-stop b e r = rw (← e, r)

-- ── A row of checks ──

pub first_more : (f : ℕ → Verdict) (i : ℕ) → first_of f i ≡ Accepted → f i ≡ Accepted → first_of f (i + 1) ≡ Accepted
unfolding first_of ◌or_else◌
first_more f i p q = rw (add-one, p, q)

pub first-stop :
    (f : ℕ → Verdict) (n i : ℕ) {v : Verdict} {k p : ℕ} →
    i < n →
    first_of f i ≡ Accepted →
    v ≡ f i →
    v ≡ Refused k p →
    v ≡ first_of f n
unfolding first_of
first-stop f zero i h e q r = absurd (not-suc-le-zero h)
first-stop f (suc n) i h e q r =
    ⊎_elim
    (λ (m : i ≡ n). or-next (ap (first_of f) m) e (q ∙ ap f m))
    (λ (l : i < n). or-stop (f n) (first-stop f n i l e q r) r)
    (last-or-below h)

pub first_done : (f : ℕ → Verdict) (n i : ℕ) → first_of f i ≡ Accepted → i ≡ n → Accepted ≡ first_of f n
first_done f n i e m = sym (ap (first_of f) (sym m) ∙ e)

-- a row of records, each refused with the number k at its place where it is bad
module _ (bad : ℕ → Bool) (k : ℕ) (place : ℕ → ℕ) where
  abbrev pub record_check : ℕ → Verdict
  record_check i = refuse_if (bad i) k (place i)

  pub good_more : (i : ℕ) → first_of record_check i ≡ Accepted → bad i ≡ false → first_of record_check (i + 1) ≡ Accepted
  good_more i p q = first_more record_check i p (refuse-no k (place i) q)

  pub bad-stop :
      (n i : ℕ) {at : ℕ} →
      i < n →
      first_of record_check i ≡ Accepted →
      bad i ≡ true →
      at ≡ place i →
      Refused k at ≡ first_of record_check n
  bad-stop n i h e q m = first-stop record_check n i h e (ap (Refused k) m ∙ refuse-yes k (place i) q) refl

  -- none of them is bad
  pub all-good : (n : ℕ) → ((i : ℕ) → i < n → bad i ≡ false) → Accepted ≡ first_of record_check n
  unfolding first_of
  all-good zero h = refl
  all-good (suc n) h =
      or-next (all-good n (λ i l. h i (omega arith))) refl (sym (refuse-no k (place n) (h n (omega arith))))
