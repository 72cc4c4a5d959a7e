-- Several bytes as one number. Equal numbers have equal pairs of bytes, and the number is 0 exactly if each of its bytes is.
use Prim.Native.Nat.{ℕ, suc, ◌+◌, ◌*◌, ◌<◌}
use mathlib.Core.Bool.{Bool, ◌&&◌, and_assoc}
use mathlib.Core.List.{List, []}
use mathlib.Core.Path.{◌≡◌, refl, ap, ◌∙◌}
use native.Mathlib.Nat.{mul-zero, suc-mul}
use native.Mathlib.Omega.{arith}
use lib.Dec.{eqb}
use borrow.Author.Tests.{eqb-true, eq-eqb}
use Rattle.laws.specs.Bytes.{byte_at, two_at, four_at, eight_at}
use Rattle.laws.proofs.Booleans.{and_left, and_right, and_both, same_tests}
use Rattle.laws.proofs.Folds.{Tested, tested-more}
use Rattle.state_forms.specs.Forms.{AreBytes}
use Rattle.rules.specs.SiteTimes.{phase_within, walk_within}
use Rattle.state_times.specs.TimesLayout.{six, phase_of, walk}
use Rattle.state_valid.proofs.Records.{phase-absent, walk-absent}

-- ── Equal numbers ──

two-small : {b : List ℕ} → AreBytes b → (i : ℕ) → two_at b i < 65536
unfolding two_at
two-small bytes i = omega (arith, bytes.each i, bytes.each (i + 1))

four-small : {b : List ℕ} → AreBytes b → (i : ℕ) → four_at b i < 4294967296
unfolding four_at
four-small bytes i = omega (arith, two-small bytes i, two-small bytes (i + 2))

module _ {a b : List ℕ} (first : AreBytes a) (second : AreBytes b) where
  four_same : (i j : ℕ) → four_at a i ≡ four_at b j → (two_at a i ≡ two_at b j) × (two_at a (i + 2) ≡ two_at b (j + 2))
  unfolding four_at
  four_same i j e =
      (omega (arith, e, two-small first i, two-small second j), omega (arith, e, two-small first i, two-small second j))

  eight-same : (i j : ℕ) → eight_at a i ≡ eight_at b j → (four_at a i ≡ four_at b j) × (four_at a (i + 4) ≡ four_at b (j + 4))
  unfolding eight_at
  eight-same i j e =
      (omega (arith, e, four-small first i, four-small second j), omega (arith, e, four-small first i, four-small second j))

  pub phase-same :
      (i j : ℕ) →
      eight_at a i ≡ eight_at b j →
      four_at a (i + 8) ≡ four_at b (j + 8) →
      six.read a i ≡ six.read b j
  phase-same i j eight four =
      let halves = eight-same i j eight in
      let low = four_same i j halves.0 in
      let middle = four_same (i + 4) (j + 4) halves.1 in
      let high = four_same (i + 8) (j + 8) four in
      rw (low.0, low.1, middle.0, further 4 2 6 (omega arith) middle.1, high.0, further 8 2 10 (omega arith) high.1)
    where
      further : (m n k : ℕ) → m + n ≡ k → two_at a (i + m + n) ≡ two_at b (j + m + n) → two_at a (i + k) ≡ two_at b (j + k)
      further m n k e same =
          let left : i + k ≡ i + m + n = omega (arith, e) in
          let right : j + m + n ≡ j + k = omega (arith, e) in
          ap (two_at a) left ∙ same ∙ ap (two_at b) right

  pub walk_same :
      (i j : ℕ) →
      four_at a i ≡ four_at b j →
      two_at a (i + 4) ≡ two_at b (j + 4) →
      walk.read a i ≡ walk.read b j
  walk_same i j four two =
      let low = four_same i j four in
      rw (low.0, low.1, two)

-- ── The number 0 ──

-- a number and a multiple of another add up to 0 exactly if both numbers are 0
sum-zero : (m x y : ℕ) → eqb (x + suc m * y) 0 ≡ (eqb x 0 && eqb y 0)
sum-zero m x y =
    same_tests _ _
    (λ t. let e = eqb-true (x + suc m * y) 0 t in and_both (eq-eqb x 0 (omega (arith, e))) (eq-eqb y 0 (omega (arith, e, suc-mul m y))))
    (λ t.
    let low = eqb-true x 0 (and_left _ _ t) in
    let high = eqb-true y 0 (and_right (eqb x 0) _ t) in
    rw (low, high, mul-zero (suc m)))

module _ (b : List ℕ) where
  two-zero : (i : ℕ) → eqb (two_at b i) 0 ≡ (eqb (byte_at b i) 0 && eqb (byte_at b (i + 1)) 0)
  unfolding two_at
  two-zero i = sum-zero 255 (byte_at b i) (byte_at b (i + 1))

  four-zero : (i : ℕ) → eqb (four_at b i) 0 ≡ (eqb (two_at b i) 0 && eqb (two_at b (i + 2)) 0)
  unfolding four_at
  four-zero i = sum-zero 65535 (two_at b i) (two_at b (i + 2))

  eight-zero : (i : ℕ) → eqb (eight_at b i) 0 ≡ (eqb (four_at b i) 0 && eqb (four_at b (i + 4)) 0)
  unfolding eight_at
  eight-zero i = sum-zero 4294967295 (four_at b i) (four_at b (i + 4))

  -- a run of bytes, tested by four at once
  pub four-tested :
      (at : ℕ) {n i : ℕ} {all own : Bool} →
      Tested (λ k. eqb (byte_at b (at + k)) 0) (4 * n) all (4 * i) →
      i < n →
      own ≡ eqb (four_at b (at + 4 * i)) 0 →
      Tested (λ k. eqb (byte_at b (at + k)) 0) (4 * n) (all && own) (4 * (i + 1))
  four-tested at {n} {i} h l e =
      let k = 4 * i in
      let last = tested-more (tested-more (tested-more (tested-more h (omega arith) refl) (omega arith) refl) (omega arith) refl) (omega arith) refl in
      let next : 4 * (i + 1) ≡ k + 1 + 1 + 1 + 1 = omega arith in
      let second : at + k + 1 ≡ at + (k + 1) = omega arith in
      let third : at + k + 2 ≡ at + (k + 1 + 1) = omega arith in
      let fourth : at + (k + 1 + 1) + 1 ≡ at + (k + 1 + 1 + 1) = omega arith in
      rw (next, e, four-zero (at + k), two-zero (at + k), two-zero (at + k + 2), second, third, fourth) (simp and_assoc (simp and_assoc at last))

  pub phase-zero :
      (at early : ℕ) (has : Bool) →
      (eqb (eight_at b at) 0 && eqb (four_at b (at + 8)) 0 && eqb early 0) ≡ phase_within [] has (phase_of (six.read b at) early)
  phase-zero at early has =
      let sixth : at + 4 + 2 ≡ at + 6 = omega arith in
      let tenth : at + 8 + 2 ≡ at + 10 = omega arith in
      rw (eight-zero at, four-zero at, four-zero (at + 4), four-zero (at + 8), sixth, tenth)
      (simp and_assoc (simp and_assoc at (phase-absent has (phase_of (six.read b at) early))))

  pub walk-zero : (at : ℕ) → (eqb (four_at b at) 0 && eqb (two_at b (at + 4)) 0) ≡ walk_within [] (walk.read b at)
  walk-zero at = rw (four-zero at) (walk-absent (walk.read b at))
