-- Four records of two bytes as one number, tested by masks all at once. A mask meets a number record by record and byte by byte, so
-- what the test of the whole says is said of each record: its phase is below P and its mode is known.
use Prim.Native.Nat.{ℕ, ◌+◌, ◌*◌, ◌-◌, ◌/◌, ◌%◌, ◌≤◌, ◌<◌}
use mathlib.Core.Bool.{Bool, true, false, not, ◌&&◌, ◌||◌}
use mathlib.Core.List.{List}
use mathlib.Core.Path.{◌≡◌, refl, sym, ap, ◌∙◌}
use native.Mathlib.Nat.{mod-eq_of_lt}
use native.Mathlib.Omega.{arith}
use lib.Bits.{bit_and, and_block, and_high, and_mask, and_le_r}
use lib.Dec.{leb, eqb}
use borrow.Author.Tests.{lt-leb, eqb-true}
use Rattle.laws.specs.Bytes.{byte_at, two_at, four_at}
use Rattle.rules.specs.Personality.{body_at, record_at, phase_count, detectors_head, detector_phase, detector_mode, known_mode, bad_detector, bad_detector_at}
use Rattle.rules.specs.Verdicts.{first_of}
use Rattle.rules.specs.Verdicts.{Accepted}
use Rattle.laws.proofs.Booleans.{and_left, and_right, or-false-both}
use Rattle.rules.proofs.Verdicts.{record_check, good_more}
use Rattle.read_detectors.proofs.Modes.{mode-low-bits}

-- none of the bits h is set in x, nor in what l added to the bits m of x makes
abbrev pub Passes : ℕ → ℕ → ℕ → ℕ → Type 0
Passes x h m l = (bit_and x h ≡ 0) × (bit_and (bit_and x m + l) h ≡ 0)

pub both-tests : (x h m l : ℕ) → (eqb (bit_and x h) 0 && eqb (bit_and (bit_and x m + l) h) 0) ≡ true → Passes x h m l
both-tests x h m l t = (eqb-true _ _ (and_left (eqb (bit_and x h) 0) _ t), eqb-true _ _ (and_right (eqb (bit_and x h) 0) _ t))

passes-as : {x y l k : ℕ} (h m : ℕ) → x ≡ y → l ≡ k → Passes x h m l → Passes y h m k
passes-as h m e f p = rw (← e, ← f) p

-- ── One record: its phase and its mode ──

abbrev RecordPasses : ℕ → ℕ → Type 0
RecordPasses w l = Passes w 0x8080 0x7b7f l

high-clear : (a : ℕ) → a < 256 → bit_and a 128 ≡ 0 → a < 128
high-clear a l e =
    let half : a / 128 % 2 ≡ a / 128 = mod-eq_of_lt (omega arith) in
    let high : bit_and a 128 ≡ (a / 128 % 2) * 128 = and_high a 1 7 in
    omega arith

record-good :
    (p m P : ℕ) →
    p < 256 →
    m < 256 →
    P ≤ 7 →
    RecordPasses (m * 256 + p) (0x7d80 - P) →
    (leb P p || not (known_mode m)) ≡ false
record-good p m P a b c f =
    let bytes = sym (and_block 8 m 128 p 128 a (omega arith)) ∙ f.0 in
    let phase_low : p < 128 = high-clear p a (omega (arith, bytes)) in
    let mode_low : m < 128 = high-clear m b (omega (arith, bytes)) in
    let masked = and_block 8 m 123 p 127 a (omega arith) in
    let whole : bit_and p 127 ≡ p = and_mask p 7 ∙ omega arith in
    let few = and_le_r m 123 in
    let raised : bit_and (m * 256 + p) 0x7b7f + (0x7d80 - P) ≡ (bit_and m 123 + 125) * 256 + (p + (128 - P)) = omega (arith, masked) in
    let met = and_block 8 (bit_and m 123 + 125) 128 (p + (128 - P)) 128 (omega arith) (omega arith) in
    let sums = sym (ap (λ x. bit_and x 0x8080) raised ∙ met) ∙ f.1 in
    let phase : p + (128 - P) < 128 = high-clear (p + (128 - P)) (omega arith) (omega (arith, sums)) in
    let mode : bit_and m 123 + 125 < 128 = high-clear (bit_and m 123 + 125) (omega arith) (omega (arith, sums)) in
    or-false-both (lt-leb P p (omega arith)) (sym (mode-low-bits m mode_low) ∙ lt-leb 3 (bit_and m 123) (omega arith))

-- ── Several records in one number: the lowest, and the rest ──

lowest-passes :
    (rest w H M L l : ℕ) →
    w < 65536 →
    l ≤ 0x7d80 →
    Passes (rest * 65536 + w) (H * 65536 + 0x8080) (M * 65536 + 0x7b7f) (L * 65536 + l) →
    RecordPasses w l × Passes rest H M L
lowest-passes rest w H M L l a b p =
    let few = and_le_r w 0x7b7f in
    let split = sym (and_block 16 rest H w 0x8080 a (omega arith)) ∙ p.0 in
    let masked = and_block 16 rest M w 0x7b7f a (omega arith) in
    let low = bit_and w 0x7b7f + l in
    let high = bit_and rest M + L in
    let raised : bit_and (rest * 65536 + w) (M * 65536 + 0x7b7f) + (L * 65536 + l) ≡ high * 65536 + low = omega (arith, masked) in
    let met = and_block 16 high H low 0x8080 (omega arith) (omega arith) in
    let sums = sym (ap (λ x. bit_and x (H * 65536 + 0x8080)) raised ∙ met) ∙ p.1 in
    ((omega (arith, split), omega (arith, sums)), (omega (arith, split), omega (arith, sums)))

four-pass :
    (w x y z l : ℕ) →
    w < 65536 →
    x < 65536 →
    y < 65536 →
    l ≤ 0x7d80 →
    Passes (((z * 65536 + y) * 65536 + x) * 65536 + w) 0x8080808080808080 0x7b7f7b7f7b7f7b7f (((l * 65536 + l) * 65536 + l) * 65536 + l) →
    RecordPasses w l × RecordPasses x l × RecordPasses y l × RecordPasses z l
four-pass w x y z l a b c d p =
    let from_x = (z * 65536 + y) * 65536 + x in
    let first = lowest-passes from_x w 0x808080808080 0x7b7f7b7f7b7f ((l * 65536 + l) * 65536 + l) l a d p in
    let second = lowest-passes (z * 65536 + y) x 0x80808080 0x7b7f7b7f (l * 65536 + l) l b d first.1 in
    let third = lowest-passes z y 0x8080 0x7b7f l l c d second.1 in
    (first.0, second.0, third.0, third.1)

-- ── The detectors' bytes ──

module _ (b : List ℕ) (bytes : (i : ℕ) → byte_at b i < 256) (few : phase_count b ≤ 7) where
  -- record n at the place i
  good-at :
      (n i : ℕ) →
      record_at (detectors_head b) 2 n ≡ i →
      RecordPasses (byte_at b (i + 1) * 256 + byte_at b i) (0x7d80 - phase_count b) →
      bad_detector_at b n ≡ false
  unfolding bad_detector_at bad_detector detector_phase detector_mode
  good-at n i e p = rw e (record-good (byte_at b i) (byte_at b (i + 1)) (phase_count b) (bytes i) (bytes (i + 1)) few p)

  -- the eight bytes of the records d, d + 1, d + 2 and d + 3
  pub four-good :
      (d : ℕ) →
      let place = detectors_head b + 4 + d * 2 in
      Passes (four_at b place + 4294967296 * four_at b (place + 4)) 0x8080808080808080 0x7b7f7b7f7b7f7b7f
      (0x0001000100010001 * (0x7d80 - phase_count b)) →
      (bad_detector_at b d ≡ false) × (bad_detector_at b (d + 1) ≡ false) × (bad_detector_at b (d + 2) ≡ false) × (bad_detector_at b (d + 3) ≡ false)
  unfolding four_at two_at record_at body_at
  four-good d p =
      let place = detectors_head b + 4 + d * 2 in
      let l = 0x7d80 - phase_count b in
      let w = byte_at b (place + 1) * 256 + byte_at b place in
      let x = byte_at b (place + 2 + 1) * 256 + byte_at b (place + 2) in
      let y = byte_at b (place + 4 + 1) * 256 + byte_at b (place + 4) in
      let z = byte_at b (place + 4 + 2 + 1) * 256 + byte_at b (place + 4 + 2) in
      let number : four_at b place + 4294967296 * four_at b (place + 4) ≡ ((z * 65536 + y) * 65536 + x) * 65536 + w = omega arith in
      let limits : 0x0001000100010001 * l ≡ ((l * 65536 + l) * 65536 + l) * 65536 + l = omega arith in
      let wide : (i : ℕ) → byte_at b (i + 1) * 256 + byte_at b i < 65536 = λ i. omega (arith, bytes i, bytes (i + 1)) in
      let whole = passes-as 0x8080808080808080 0x7b7f7b7f7b7f7b7f number limits p in
      let each = four-pass w x y z l (wide place) (wide (place + 2)) (wide (place + 4)) (omega arith) whole in (
        good-at d place refl each.0,
        good-at (d + 1) (place + 2) (omega arith) each.1,
        good-at (d + 2) (place + 4) (omega arith) each.2,
        good-at (d + 3) (place + 4 + 2) (omega arith) each.3,
      )

-- ── Four more good records in a row ──

pub four-more :
    (bad : ℕ → Bool) (k : ℕ) (place : ℕ → ℕ) (d : ℕ) →
    first_of (record_check bad k place) d ≡ Accepted →
    (bad d ≡ false) × (bad (d + 1) ≡ false) × (bad (d + 2) ≡ false) × (bad (d + 3) ≡ false) →
    first_of (record_check bad k place) (d + 4) ≡ Accepted
four-more bad k place d p q =
    let f = record_check bad k place in
    let second : d + 2 ≡ d + 1 + 1 = omega arith in
    let third : d + 3 ≡ d + 2 + 1 = omega arith in
    let fourth : d + 4 ≡ d + 3 + 1 = omega arith in
    let one = good_more bad k place d p q.0 in
    let two = ap (first_of f) second ∙ good_more bad k place (d + 1) one q.1 in
    let three = ap (first_of f) third ∙ good_more bad k place (d + 2) two q.2 in
    ap (first_of f) fourth ∙ good_more bad k place (d + 3) three q.3
