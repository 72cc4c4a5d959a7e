-- An input bit is stray exactly where the quotient of the detectors' bits, or that of the buttons' bits, is not 0.
use Prim.Native.Nat.{ℕ, ◌+◌, ◌/◌, ◌%◌, ◌^◌, ◌≤◌, ◌<◌}
use mathlib.Core.Bool.{true, false, not, ◌&&◌, ◌||◌}
use mathlib.Core.Logic.{⊎_elim}
use mathlib.Core.Path.{◌≡◌, sym, ap, ◌∙◌}
use native.Mathlib.Omega.{arith}
use lib.Dec.{leb, ltb, eqb}
use lib.Pow.{shr-shr}
use borrow.Author.Tests.{le-ltb, lt-leb, ltb-false, leb-false, eq-eqb, ne_eqb, not-true}
use Rattle.rules.specs.declared.site.Site.{Site}
use Rattle.laws.specs.Bytes.{bit}
use Rattle.rules.specs.Call.{wired, stray_input}
use Rattle.rules.specs.Laws.{Sound}
use Rattle.laws.proofs.Booleans.{and_left, and_right, and-false-cases, and-false-left, and-false-right, or_left, or_right, or-false-left, or-false-right, or-false-both, decided, never_both}
use Rattle.laws.proofs.Indices.{below-or-past}
use Rattle.laws.proofs.Folds.{any_found, any_false}
use Rattle.laws.proofs.Bits.{bit-lower}
use Rattle.laws.proofs.BitRanges.{no-bits-from, bit-from}

module _ (site : Site) where
  -- ── Bits without a detector or button ──

  unwired-low : (i : ℕ) → site.size.detectors ≤ i → i < 48 → wired site i ≡ false
  unfolding wired
  unwired-low i d l =
      or-false-both (le-ltb i site.size.detectors d) (and-false-left (ltb i (48 + site.size.movements)) (lt-leb 48 i l))

  unwired-high : (i : ℕ) → site.size.detectors ≤ i → 48 + site.size.movements ≤ i → wired site i ≡ false
  unfolding wired
  unwired-high i d l =
      or-false-both (le-ltb i site.size.detectors d) (and-false-right (leb 48 i) (le-ltb i (48 + site.size.movements) l))

  past-detectors : (i : ℕ) → wired site i ≡ false → site.size.detectors ≤ i
  unfolding wired
  past-detectors i e =
      ltb-false i site.size.detectors
      (or-false-left (ltb i site.size.detectors) (leb 48 i && ltb i (48 + site.size.movements)) e)

  past-buttons : (i : ℕ) → wired site i ≡ false → 48 ≤ i → 48 + site.size.movements ≤ i
  unfolding wired
  past-buttons i e l =
      ⊎_elim
      (λ (t : leb 48 i ≡ false). let below = leb-false 48 i t in omega arith)
      (λ (t : ltb i (48 + site.size.movements) ≡ false). ltb-false i (48 + site.size.movements) t)
      (and-false-cases (leb 48 i) (ltb i (48 + site.size.movements))
      (or-false-right (ltb i site.size.detectors) (leb 48 i && ltb i (48 + site.size.movements)) e))

module _ (site : Site) (sound : Sound site) (x : ℕ) (h : x < 2 ^ 64) where
  -- ── No bit is stray ──

  clear : stray_input site x ≡ false → (i : ℕ) → i < 64 → wired site i ≡ false → bit i x ≡ false
  unfolding stray_input
  clear none i l u =
      ⊎_elim
      (λ (t : bit i x ≡ false). t)
      (λ (t : not (wired site i) ≡ false). absurd (never_both (ap not u) t))
      (and-false-cases (bit i x) (not (wired site i)) (any_false (λ (j : ℕ). bit j x && not (wired site j)) 64 i none l))

  detectors-clear : stray_input site x ≡ false → x % 2 ^ 48 / 2 ^ site.size.detectors ≡ 0
  detectors-clear none =
      no-bits-from site.size.detectors 48 (x % 2 ^ 48) (omega arith)
      (λ i d l. bit-lower 48 i x l ∙ clear none i (omega arith) (unwired-low site i d l))

  buttons-clear : stray_input site x ≡ false → x / 2 ^ 48 / 2 ^ site.size.movements ≡ 0
  buttons-clear none =
      shr-shr x 48 site.size.movements
      ∙ no-bits-from (48 + site.size.movements) 64 x h
      (λ i d l. clear none i l (unwired-high site i (omega (arith, sound.detectors)) d))

  -- ── A bit is stray ──

  found : stray_input site x ≡ true → (i : ℕ) × (bit i x ≡ true) × (wired site i ≡ false)
  unfolding stray_input
  found some =
      let w = any_found (λ (j : ℕ). bit j x && not (wired site j)) 64 some in
      let i = w.0 in (
        i,
        and_left (bit i x) (not (wired site i)) w.2,
        not-true (wired site i) (and_right (bit i x) (not (wired site i)) w.2),
      )

  detector-stray : (i : ℕ) → bit i x ≡ true → wired site i ≡ false → i < 48 → x % 2 ^ 48 / 2 ^ site.size.detectors ≡ 0 → ⊥
  detector-stray i set u l =
      bit-from site.size.detectors i (x % 2 ^ 48) (past-detectors site i u) (bit-lower 48 i x l ∙ set)

  button-stray : (i : ℕ) → bit i x ≡ true → wired site i ≡ false → 48 ≤ i → x / 2 ^ 48 / 2 ^ site.size.movements ≡ 0 → ⊥
  button-stray i set u l empty =
      bit-from (48 + site.size.movements) i x (past-buttons site i u l) set (sym (shr-shr x 48 site.size.movements) ∙ empty)

  -- ── Together ──

  pub stray-by-quotients :
      (not (eqb (x % 2 ^ 48 / 2 ^ site.size.detectors) 0) || not (eqb (x / 2 ^ 48 / 2 ^ site.size.movements) 0))
      ≡ stray_input site x
  stray-by-quotients =
      let low = x % 2 ^ 48 / 2 ^ site.size.detectors in
      let high = x / 2 ^ 48 / 2 ^ site.size.movements in
      ⊎_elim
      (λ (some : stray_input site x ≡ true).
      let w = found some in
      ⊎_elim
      (λ (l : w.0 < 48). or_left (not (eqb high 0)) (ap not (ne_eqb low 0 (detector-stray w.0 w.1 w.2 l))))
      (λ (l : 48 ≤ w.0). or_right (not (eqb low 0)) (ap not (ne_eqb high 0 (button-stray w.0 w.1 w.2 l))))
      (below-or-past w.0 48)
      ∙ sym some)
      (λ (none : stray_input site x ≡ false).
      or-false-both (ap not (eq-eqb low 0 (detectors-clear none))) (ap not (eq-eqb high 0 (buttons-clear none))) ∙ sym none)
      (decided (stray_input site x))
