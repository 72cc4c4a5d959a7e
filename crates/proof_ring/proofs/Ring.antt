-- A ring of phases, in whichever order, and how far a phase is along it. There are as many entries as phases, and each phase stands there once,
-- so nothing else does, and a sum over the entries is the sum by index. Where the search for a demanded phase stops at t, another demanded
-- phase is still ahead with the same phases before it.
use Prim.Native.Nat.{ℕ, zero, suc, ◌+◌, ◌≤◌, ◌<◌}
use mathlib.Core.Bool.{Bool, true, false, ◌||◌}
use mathlib.Core.List.{List, [], ◌∷◌, ◌++◌}
use mathlib.Core.Logic.{⊎_elim}
use mathlib.Core.Path.{◌≡◌, refl, sym, ap, ◌∙◌}
use native.Mathlib.Omega.{arith}
use borrow.Author.Tests.{eqb-true, eqb-false, eq-eqb, ne_eqb}
use lib.Dec.{eqb}
use lib.ListN.{length}
use Rattle.std.specs.Prelude.{if◌then◌else◌, Some}
use Rattle.laws.specs.Folds.{sum_of}
use Rattle.rules.specs.IntervalTable.{is_held}
use Rattle.rules.specs.Demands.{after, before, first_in}
use Rattle.laws.proofs.Booleans.{or_right, decided, never_both}
use Rattle.laws.proofs.Indices.{below-or-past, same-or-apart}
use Rattle.laws.proofs.Entries.{total, one, places, In, one-own, one-other, total-ones, sum-of-one, in-none, in-first, in-later, later-in}
use Rattle.proof_ring.proofs.Entries.{around, in-front, uncut}
use Rattle.proof_ring.proofs.Turns.{turn, turn-leaves, turn-keeps, turn_in, turn_on}

-- A ring of n phases: n entries, and each phase below n stands in it once.
pub record RingOf (n : ℕ) (ring : List ℕ) : Type 0 where
  pub entries : length ring ≡ n
  pub each : (p : ℕ) → p < n → places p ring ≡ 1

-- ── What stands in it ──

last-in : {n : ℕ} {ring : List ℕ} → RingOf (suc n) ring → In n ring
last-in {n} ofn = record { found = omega (arith, ofn.each n (omega arith)) }

-- without its last phase it is a ring of one phase less
without-last : (n : ℕ) (ring : List ℕ) → RingOf (suc n) ring → RingOf n (turn ring n)
without-last n ring ofn =
    record {
      entries = omega (arith, turn-leaves (λ p. 1) (last-in ofn), total-ones ring, total-ones (turn ring n), ofn.entries);
      each = λ p h.
          omega (arith, turn-leaves (one p) (last-in ofn), one-other {q = p} {x = n} (omega arith), ofn.each p (omega arith));
    }

ring-sum : (f : ℕ → ℕ) (n : ℕ) (ring : List ℕ) → RingOf n ring → total f ring ≡ sum_of f n
unfolding total sum_of
ring-sum f zero [] ofn = refl
ring-sum f zero (p ∷ ring) ofn = absurd (omega (arith, ofn.entries))
ring-sum f (suc n) ring ofn =
    omega (arith, turn-leaves f (last-in ofn), ring-sum f n (turn ring n) (without-last n ring ofn))

-- ── The search ──

found_in : (d : ℕ → Bool) (l : List ℕ) {t : ℕ} → first_in d l ≡ Some t → In t l × (d t ≡ true)
unfolding first_in
found_in d [] e = absurd (let z : ◌≡◌ {A = ℕ} 0 1 = cc in omega arith)
found_in d (x ∷ l) {t} e =
    ⊎_elim
    (λ (a : d x ≡ true). let same : x ≡ t = cc (rw a at e) in rw (← same) (in-first x l, a))
    (λ (a : d x ≡ false). let r = found_in d l (rw a at e) in (in-later x r.0, r.1))
    (decided (d x))

some-found : (d : ℕ → Bool) {q : ℕ} {l : List ℕ} → In q l → d q ≡ true → is_held (first_in d l) ≡ true
unfolding first_in is_held
some-found d {l = []} i h = absurd (in-none i)
some-found d {q} {l = x ∷ l} i h =
    ⊎_elim
    (λ (a : d x ≡ true). rw a)
    (λ (a : d x ≡ false). rw a (some-found d (later-in i (λ e. never_both h (rw e at a))) h))
    (decided (d x))

-- two tests that agree on every entry find the same
same_in : (d e : ℕ → Bool) (l : List ℕ) → ((q : ℕ) → In q l → d q ≡ e q) → first_in d l ≡ first_in e l
unfolding first_in
same_in d e [] h = refl
same_in d e (x ∷ l) h = rw (h x (in-first x l), same_in d e l (λ q i. h q (in-later x i)))

-- ── How far it is ──

-- the sum of f over the entries before the first q
along : (ℕ → ℕ) → ℕ → List ℕ → ℕ
along f q l = total f (before q l)

-- the sum over the phases after p in cyclic order, up to and without q
pub rest : (ℕ → ℕ) → List ℕ → ℕ → ℕ → ℕ
rest f ring q p = along f q (turn ring p)

-- the sum over the phases from t on, up to and without q
pub from : (ℕ → ℕ) → List ℕ → ℕ → ℕ → ℕ
from f ring q t = if eqb t q then 0 else f t + rest f ring q t

pub from-own : (f : ℕ → ℕ) (ring : List ℕ) (q : ℕ) → from f ring q q ≡ 0
unfolding from
from-own f ring q = rw (eq-eqb q q refl)

pub from-other : (f : ℕ → ℕ) (ring : List ℕ) {q t : ℕ} → (t ≡ q → ⊥) → from f ring q t ≡ f t + rest f ring q t
unfolding from
from-other f ring {q} {t} ne = rw (ne_eqb t q ne)

along-most : (f : ℕ → ℕ) {q : ℕ} {l : List ℕ} → In q l → along f q l + f q ≤ total f l
unfolding along
along-most f i = omega (arith, around f i)

-- The search stops at q or before it, and what is left of the list past its find holds q behind the same entries.
stops-before :
    (f : ℕ → ℕ) (d : ℕ → Bool) {q t : ℕ} (l m : List ℕ) →
    In q l →
    d q ≡ true →
    first_in d l ≡ Some t →
    (t ≡ q → ⊥) →
    f t + along f q (after t l ++ m) ≤ along f q l
unfolding along first_in total after before
stops-before f d [] m i h e ne = absurd (in-none i)
stops-before f d {q} {t} (x ∷ l) m i h e ne =
    ⊎_elim
    (λ (a : d x ≡ true).
    let same : x ≡ t = cc (rw a at e) in
    let other : x ≡ q → ⊥ = λ r. ne (sym same ∙ r) in
    rw (eq-eqb x t same, ne_eqb x q other, (in-front m (later-in i other)).0) (omega (arith, ap f same)))
    (λ (a : d x ≡ false).
    let further : first_in d l ≡ Some t = rw a at e in
    let other : x ≡ q → ⊥ = λ r. never_both h (rw r at a) in
    rw (ne_eqb x t (λ r. never_both (found_in d l further).1 (rw r at a)), ne_eqb x q other)
    (omega (arith, stops-before f d l m (later-in i other) h further ne)))
    (decided (d x))

-- of two phases, one of which stands in the first list and the other does not, the search finds that one
first_of :
    (t q : ℕ) (l m : List ℕ) → In t l → places q l ≡ 0 → first_in (λ x. eqb x t || eqb x q) (l ++ m) ≡ Some t
unfolding first_in total
first_of t q [] m i none = absurd (in-none i)
first_of t q (x ∷ l) m i none =
    ⊎_elim
    (λ (e : eqb x t ≡ true). rw e (ap Some (eqb-true x t e)))
    (λ (e : eqb x t ≡ false).
    rw (e, ne_eqb x q (λ r. omega (arith, one-own q, ap (one q) r)))
    (first_of t q l m (later-in i (eqb-false x t e)) (omega arith)))
    (decided (eqb x t))

module _ {n : ℕ} {ring : List ℕ} (ofn : RingOf n ring) where
  stands : {p : ℕ} → p < n → In p ring
  stands {p} h = record { found = omega (arith, ofn.each p h) }

  below : {p : ℕ} → In p ring → p < n
  below {p} i =
      ⊎_elim
      (λ (h : p < n). h)
      (λ (h : n ≤ p). absurd (omega (arith, ring-sum (one p) n ring ofn, sum-of-one p n h, i.found)))
      (below-or-past p n)

  -- past a phase of the ring it stands no more
  own-gone : {q : ℕ} → q < n → places q (turn ring q) ≡ 0
  own-gone {q} h = omega (arith, turn-leaves (one q) (stands h), one-own q, ofn.each q h)

  -- ── The search from a phase on ──

  -- what it finds is a phase, and another one
  pub found-other : (d : ℕ → Bool) {p t : ℕ} → first_in d (turn ring p) ≡ Some t → (t < n) × (t ≡ p → ⊥)
  found-other d {p} {t} e =
      let found = (found_in d (turn ring p) e).0 in
      let here : t < n = below (record { found = omega (arith, turn-keeps (one t) ring p, found.found) }) in
      (here, λ same. omega (arith, found.found, own-gone here, ap (λ (x : ℕ). places t (turn ring x)) same))

  -- and where another phase is demanded it finds one
  pub other-found : (d : ℕ → Bool) {p q : ℕ} → q < n → (q ≡ p → ⊥) → d q ≡ true → is_held (first_in d (turn ring p)) ≡ true
  other-found d h ne = some-found d (turn_in (stands h) ne)

  -- two tests that agree on every phase find the same
  pub found-same : (d e : ℕ → Bool) (p : ℕ) → ((q : ℕ) → q < n → d q ≡ e q) → first_in d (turn ring p) ≡ first_in e (turn ring p)
  found-same d e p h =
      same_in d e (turn ring p)
      (λ q i. h q (below (record { found = omega (arith, turn-keeps (one q) ring p, i.found) })))

  -- ── What the way may sum up to ──

  module _ (f : ℕ → ℕ) {q : ℕ} (hq : q < n) where
    -- once round
    pub rest-own : f q + rest f ring q q ≡ sum_of f n
    unfolding rest along
    rest-own =
        rw (uncut q (turn ring q) (own-gone hq)).0 (omega (arith, turn-leaves f (stands hq), ring-sum f n ring ofn))

    pub rest-other : {p : ℕ} → p < n → (p ≡ q → ⊥) → f p + rest f ring q p + f q ≤ sum_of f n
    unfolding rest
    rest-other hp ne =
        omega (
          arith,
          turn-leaves f (stands hp),
          along-most f (turn_in (stands hq) (λ e. ne (sym e))),
          ring-sum f n ring ofn,
        )

    pub from-most : {t : ℕ} → t < n → from f ring q t + f q ≤ sum_of f n
    from-most {t} ht =
        ⊎_elim
        (λ (same : t ≡ q). rw same (omega (arith, from-own f ring q, rest-own)))
        (λ (other : t ≡ q → ⊥). omega (arith, from-other f ring other, rest-other ht other))
        (same-or-apart t q)

    -- The search for the next demanded phase never jumps over a demanded q.
    jump :
        {p t : ℕ} →
        p < n →
        (p ≡ q → ⊥) →
        (d : ℕ → Bool) →
        d q ≡ true →
        first_in d (turn ring p) ≡ Some t →
        (t ≡ q → ⊥) →
        f t + rest f ring q t ≤ rest f ring q p
    unfolding rest
    jump {p} {t} hp ne d h e apart =
        let other = found-other d e in
        rw (turn_on (stands hp) (ofn.each t other.0) other.1)
        (stops-before f d (turn ring p) (p ∷ before t (turn ring p)) (turn_in (stands hq) (λ e. ne (sym e))) h e apart)

    -- So from its find on it is no further than it was from the end of p on.
    pub nearer :
        {p t : ℕ} →
        p < n →
        (d : ℕ → Bool) →
        d q ≡ true →
        first_in d (turn ring p) ≡ Some t →
        from f ring q t ≤ rest f ring q p
    nearer {p} {t} hp d h e =
        ⊎_elim
        (λ (same : t ≡ q). rw same (omega (arith, from-own f ring q)))
        (λ (apart : t ≡ q → ⊥).
        ⊎_elim
        (λ (own : p ≡ q). rw own (omega (arith, from-most (found-other d e).0, rest-own)))
        (λ (ne : p ≡ q → ⊥). omega (arith, from-other f ring apart, jump hp ne d h e apart))
        (same-or-apart p q))
        (same-or-apart t q)

    -- If r comes next after q, the way to q leads through r from r only.
    past :
        {r t : ℕ} (k : List ℕ) →
        turn ring q ≡ k →
        first_in (λ x. true) k ≡ Some r →
        r < n →
        (r ≡ q → ⊥) →
        t < n →
        (t ≡ r → ⊥) →
        (t ≡ q → ⊥) →
        first_in (λ x. eqb x t || eqb x q) (turn ring r) ≡ Some t
    unfolding first_in total after before
    past [] same e hr rq ht ne apart = absurd (let z : ◌≡◌ {A = ℕ} 0 1 = cc in omega arith)
    past {r} {t} (x ∷ l) same e hr rq ht ne apart =
        let first : x ≡ r = cc in
        let own : places q (x ∷ l) ≡ 0 = rw same at (own-gone hq) in
        let found : In t (x ∷ l) = rw same at (turn_in {q = t} {p = q} (stands ht) apart) in
        rw (turn_on (stands hq) (ofn.each r hr) rq, same, eq-eqb x r first)
        (first_of t q l (q ∷ []) (later-in found (λ d. ne (sym d ∙ first))) (omega (arith, own)))

    pub from_past :
        {r t : ℕ} →
        first_in (λ x. true) (turn ring q) ≡ Some r →
        t < n →
        (t ≡ r → ⊥) →
        f r + from f ring q t + f q ≤ sum_of f n
    from_past {r} {t} e ht ne =
        let other = found-other (λ x. true) e in
        let whole = rest-other other.0 other.1 in
        ⊎_elim
        (λ (same : t ≡ q). rw same (omega (arith, whole, from-own f ring q)))
        (λ (apart : t ≡ q → ⊥).
        let test : ℕ → Bool = λ x. eqb x t || eqb x q in
        omega (
          arith,
          whole,
          nearer other.0 test (or_right (eqb q t) (eq-eqb q q refl))
              (past (turn ring q) refl e other.0 other.1 ht ne apart),
        ))
        (same-or-apart t q)
