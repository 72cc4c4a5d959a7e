-- Starts whose keys fall: each is at most the number that bounds those to come, and after it that number is below its key. So none comes twice,
-- and there are no more than the number.
use Prim.Native.Nat.{ℕ, ◌-◌, ◌≤◌, ◌<◌}
use mathlib.Core.Bool.{true, false, not}
use mathlib.Core.List.{List, [], ◌∷◌}
use mathlib.Core.Logic.{⊎_elim}
use mathlib.Core.Path.{◌≡◌, refl}
use native.Mathlib.Omega.{arith}
use lib.Dec.{eqb}
use borrow.Author.Tests.{eq-eqb, eqb-false, not-true}
use Rattle.rules.specs.Runs.{Step}
use Rattle.rules.specs.OnceEach.{some_starts, phase_starts, other_starts, how_many}
use Rattle.laws.proofs.Booleans.{and_left, and_right, and_both, decided}

-- in a step that a number bounds, with the number that bounds the later ones
abbrev pub Falls : (ℕ → ℕ) → ℕ → Step → ℕ → Type 0
Falls key n step left = (left ≤ n) × ((r : ℕ) → phase_starts r step ≡ true → (left < key r) × (key r ≤ n))

abbrev pub Falling : (ℕ → ℕ) → ℕ → List Step → Type 0
Falling key n [] = Unit {0}
Falling key n (step ∷ later) = (left : ℕ) × Falls key n step left × Falling key left later

module _ (key : ℕ → ℕ) where
  -- a greater number bounds them too
  pub falling-more : (n m : ℕ) (steps : List Step) → n ≤ m → Falling key n steps → Falling key m steps
  falling-more n m [] most falling = tt
  falling-more n m (step ∷ later) most falling = (
    falling.0,
    (omega (arith, falling.1.0), λ r e. ((falling.1.1 r e).0, omega (arith, (falling.1.1 r e).1))),
    falling.2,
  )

  -- a phase whose key is past the number does not start any more
  once :
      (r n : ℕ) (steps : List Step) →
      Falling key n steps →
      (how_many (phase_starts r) steps ≤ 1) × (n < key r → how_many (phase_starts r) steps ≡ 0)
  unfolding how_many
  once r n [] falling = (omega arith, λ h. refl)
  once r n (step ∷ later) falling =
      let rest = once r falling.0 later falling.2 in
      ⊎_elim
      (λ (e : phase_starts r step ≡ true).
      let falls = falling.1.1 r e in
      rw e (omega (arith, rest.1 falls.0), λ h. absurd (omega (arith, falls.1, h))))
      (λ (e : phase_starts r step ≡ false). rw e (omega (arith, rest.0), λ h. omega (arith, rest.1 (omega (arith, falling.1.0, h)))))
      (decided (phase_starts r step))

  pub starts-once : (r n : ℕ) (steps : List Step) → Falling key n steps → how_many (phase_starts r) steps ≤ 1
  starts-once r n steps falling = (once r n steps falling).0

  -- if the keys of other phases than q are 2 or more, fewer than the number are starts of others
  pub others-few :
      (q : ℕ) →
      ((r : ℕ) → (r ≡ q → ⊥) → 2 ≤ key r) →
      (n : ℕ) (steps : List Step) →
      Falling key n steps →
      how_many (other_starts q) steps ≤ n - 1
  unfolding how_many other_starts phase_starts
  others-few q some n [] falling = omega arith
  others-few q some n (step ∷ later) falling =
      let rest = others-few q some falling.0 later falling.2 in
      let t = step.after.position.phase in
      ⊎_elim
      (λ (e : other_starts q step ≡ true).
      let starts = and_left (some_starts step) (not (eqb t q)) e in
      let other = eqb-false t q (not-true (eqb t q) (and_right (some_starts step) (not (eqb t q)) e)) in
      let falls = falling.1.1 t (and_both starts (eq-eqb t t refl)) in
      rw e (omega (arith, rest, falls.0, falls.1, some t other)))
      (λ (e : other_starts q step ≡ false). rw e (omega (arith, rest, falling.1.0)))
      (decided (other_starts q step))
