-- Boolean tests: what a joined or negated test says of its parts, and how to put one together from them.
use mathlib.Core.Bool.{cond, Bool, true, false, not, ◌&&◌, ◌||◌, true≢false, and-true, and_assoc}
use mathlib.Core.List.{List, [], ◌∷◌}
use mathlib.Core.Logic.{◌⊎◌, inl, inr}
use mathlib.Core.Path.{◌≡◌, refl, sym, ap, ◌∙◌}
use borrow.Author.Tests.{not-false}
use Rattle.std.specs.Prelude.{if◌then◌else◌}

-- ── Both ──

pub and_left : (a b : Bool) → (a && b) ≡ true → a ≡ true
and_left true b h = refl
and_left false b h = h

pub and_right : (a b : Bool) → (a && b) ≡ true → b ≡ true
and_right true b h = h
and_right false b h = absurd (true≢false (sym h))

pub and_split : (a b : Bool) → (a && b) ≡ true → (a ≡ true) × (b ≡ true)
and_split a b h = (and_left a b h, and_right a b h)

pub and_both : {a b : Bool} → a ≡ true → b ≡ true → (a && b) ≡ true
and_both {a} {b} p q = rw (p, q)

pub and-false-left : {a : Bool} (b : Bool) → a ≡ false → (a && b) ≡ false
and-false-left b p = rw p

pub and-false-right : (a : Bool) {b : Bool} → b ≡ false → (a && b) ≡ false
and-false-right true p = p
and-false-right false p = refl

pub and-false-cases : (a b : Bool) → (a && b) ≡ false → (a ≡ false) ⊎ (b ≡ false)
and-false-cases true b h = inr h
and-false-cases false b h = inl refl

-- the second fails if the first holds
pub and-false-rest : {a : Bool} (b : Bool) → (a && b) ≡ false → a ≡ true → b ≡ false
and-false-rest b h p = rw p at h

-- ── Either ──

pub or_left : {a : Bool} (b : Bool) → a ≡ true → (a || b) ≡ true
or_left b p = rw p

pub or_right : (a : Bool) {b : Bool} → b ≡ true → (a || b) ≡ true
or_right true p = refl
or_right false p = p

pub or_cases : (a b : Bool) → (a || b) ≡ true → (a ≡ true) ⊎ (b ≡ true)
or_cases true b h = inl refl
or_cases false b h = inr h

pub or-false-left : (a b : Bool) → (a || b) ≡ false → a ≡ false
or-false-left true b h = h
or-false-left false b h = refl

pub or-false-right : (a b : Bool) → (a || b) ≡ false → b ≡ false
or-false-right true b h = absurd (true≢false h)
or-false-right false b h = h

pub or-false-both : {a b : Bool} → a ≡ false → b ≡ false → (a || b) ≡ false
or-false-both p q = rw (p, q)

pub or-false-three : (a b c : Bool) → (a || b || c) ≡ false → (a ≡ false) × (b ≡ false) × (c ≡ false)
or-false-three a b c h =
    let e = or-false-left (a || b) c h in
    (or-false-left a b e, or-false-right a b e, or-false-right (a || b) c h)

-- the last of three tests, before the second
pub or_swap : (a b c : Bool) → ((a || b) || c) ≡ ((a || c) || b)
or_swap true b c = refl
or_swap false true true = refl
or_swap false true false = refl
or_swap false false true = refl
or_swap false false false = refl

-- ── True or false ──

-- a test is true or false
pub decided : (a : Bool) → (a ≡ true) ⊎ (a ≡ false)
decided true = inl refl
decided false = inr refl

-- no test is both
pub never_both : {a : Bool} → a ≡ true → a ≡ false → ⊥
never_both p q = true≢false (sym p ∙ q)

pub not-true-false : (a : Bool) → (a ≡ true → ⊥) → a ≡ false
not-true-false true h = absurd (h refl)
not-true-false false h = refl

pub not-false-true : (a : Bool) → (a ≡ false → ⊥) → a ≡ true
not-false-true true h = refl
not-false-true false h = absurd (h refl)

-- two tests that imply each other are one
pub same_tests : (a b : Bool) → (a ≡ true → b ≡ true) → (b ≡ true → a ≡ true) → a ≡ b
same_tests true b f g = sym (f refl)
same_tests false true f g = g refl
same_tests false false f g = refl

-- ── Tests as implications ──

-- a clause "not a, or b": if a then b
pub implied : (a b : Bool) → (not a || b) ≡ true → a ≡ true → b ≡ true
implied true b h p = h
implied false b h p = absurd (true≢false (sym p))

pub implies : (a b : Bool) → (a ≡ true → b ≡ true) → (not a || b) ≡ true
implies true b h = h refl
implies false b h = refl

-- a clause "a, or b": if not b then a
pub otherwise : (a b : Bool) → (a || b) ≡ true → b ≡ false → a ≡ true
otherwise true b h q = refl
otherwise false b h q = absurd (true≢false (sym h ∙ q))

pub else-holds : (a b : Bool) → (b ≡ false → a ≡ true) → (a || b) ≡ true
else-holds a true h = or_right a refl
else-holds a false h = or_left false (h refl)

-- a clause "not both": if a then not b
pub not-both : (a b : Bool) → not (a && b) ≡ true → a ≡ true → b ≡ false
not-both true true h p = absurd (true≢false (sym h))
not-both true false h p = refl
not-both false b h p = absurd (true≢false (sym p))

pub excludes : (a b : Bool) → (a ≡ true → b ≡ false) → not (a && b) ≡ true
excludes true b h = ap not (h refl)
excludes false b h = refl

-- "not both" fails: both hold
pub both-passed : (a b : Bool) → not (a && b) ≡ false → (a ≡ true) × (b ≡ true)
both-passed a b h = and_split a b (not-false (a && b) h)

-- ── A choice whose test is known ──

module _ {ℓ} {A : Type ℓ} {c : A} {t : Bool} where
  pub chosen : {a : A} (b : A) → t ≡ true → c ≡ a → c ≡ cond t a b
  chosen b e p = rw e p

  pub passed-by : (a : A) {b : A} → t ≡ false → c ≡ b → c ≡ cond t a b
  passed-by a e p = rw e p

-- ── Several tests ──

-- joined from the left
abbrev pub joined : Bool → List Bool → Bool
joined test [] = test
joined test (next ∷ rest) = joined (test && next) rest

-- the tests of a list that all pass
unfoldable pub every : List Bool → Bool
every [] = true
every (test ∷ tests) = test && every tests

pub joined-every : (test : Bool) (rest : List Bool) → joined test rest ≡ every (test ∷ rest)
unfolding every
joined-every test [] = sym (and-true test)
joined-every test (next ∷ rest) = joined-every (test && next) rest ∙ and_assoc test next (every rest)

pub every-head : (test : Bool) (tests : List Bool) → every (test ∷ tests) ≡ true → test ≡ true
unfolding every
every-head test tests h = and_left test (every tests) h

pub every-tail : (test : Bool) (tests : List Bool) → every (test ∷ tests) ≡ true → every tests ≡ true
unfolding every
every-tail test tests h = and_right test (every tests) h
