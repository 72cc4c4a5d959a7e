-- Where the bits come from, in one swap and through the three swaps of a tile.
use Prim.Native.Nat.{ℕ, ◌+◌, ◌-◌, ◌*◌, ◌/◌, ◌%◌, ◌^◌, ◌<◌}
use mathlib.Core.Bool.{Bool, true, false, not, ◌&&◌, true≢false, and-true, and-false}
use mathlib.Core.Path.{◌≡◌, refl, sym, ap, ◌∙◌}
use native.Mathlib.Omega.{arith}
use lib.Bits.{bit_and, bit_xor}
use lib.Dec.{leb, ltb, eqb}
use borrow.Author.Tests.{leb-true, ltb-true}
use Rattle.laws.specs.Bytes.{bit}
use Rattle.std.specs.Prelude.{if◌then◌else◌}
use Rattle.laws.specs.Folds.{all_of}
use Rattle.laws.proofs.Booleans.{and_left, and_right}
use Rattle.laws.proofs.Folds.{all-at}
use Rattle.laws.proofs.Tables.{table-equal}
use Rattle.laws.proofs.Bits.{bit-down, bit_up}
use Rattle.laws.proofs.JoinedBits.{bit-and, other, other_none, other-twice, other-back, bit-xor}
use Rattle.read_conflicts_tiles.specs.Swaps.{upper, source, placed, swaps}

-- bit k of y is one of the 64 of x, the one at f k
abbrev pub From : (ℕ → ℕ) → ℕ → ℕ → Type 0
From f x y = (k : ℕ) → k < 64 → (f k < 64) × (bit k y ≡ bit (f k) x)

-- ── One swap ──

-- the pairs whose bits differ, at their lower places
abbrev unlike : ℕ → ℕ → ℕ → ℕ
unlike x low shift = bit_and (bit_xor x (x / 2 ^ shift)) low

-- both bits of those pairs change
abbrev pub swap : ℕ → ℕ → ℕ → ℕ
swap x low shift = bit_xor (bit_xor x (unlike x low shift)) (unlike x low shift * 2 ^ shift % 2 ^ 64)

unlike-bit : (x low shift k : ℕ) → bit k (unlike x low shift) ≡ (other (bit k x) (bit (shift + k) x) && bit k low)
unlike-bit x low shift k =
    rw (bit-and k (bit_xor x (x / 2 ^ shift)) low, bit-xor k x (x / 2 ^ shift), bit-down x shift k)

-- a bit of a swap, by its three parts
parts :
    (x low shift k : ℕ) →
    k < 64 →
    bit k (swap x low shift)
    ≡ other (other (bit k x) (other (bit k x) (bit (shift + k) x) && bit k low))
    (leb shift k && (other (bit (k - shift) x) (bit (shift + (k - shift)) x) && bit (k - shift) low))
parts x low shift k h =
    rw (
      bit-xor k (bit_xor x (unlike x low shift)) (unlike x low shift * 2 ^ shift % 2 ^ 64),
      bit-xor k x (unlike x low shift),
      bit_up (unlike x low shift) shift 64 k h,
      unlike-bit x low shift k,
      unlike-bit x low shift (k - shift),
    )

-- at the lower place of a pair the upper bit comes out, at the upper place the lower one, and elsewhere the bit itself
taken :
    (here above below back : Bool) (a b c : Bool) →
    (b ≡ true → back ≡ here) →
    not (a && (b && c)) ≡ true →
    other (other here (other here above && a)) (b && (other below back && c)) ≡ (if a then above else if b && c then below else here)
taken here above below back true false c same e = simp (and-true, other_none, other-twice)
taken here above below back true true false same e = simp (and-true, and-false, other_none, other-twice)
taken here above below back true true true same e = absurd (true≢false (sym e))
taken here above below back false false c same e = simp (and-false, other_none)
taken here above below back false true false same e = simp (and-false, other_none)
taken here above below back false true true same e = simp (and-true, and-false, other_none, same refl, other-back)

-- the bit at a chosen place
drawn :
    (a b : Bool) (x above below k : ℕ) →
    bit (if a then above else if b then below else k) x ≡ (if a then bit above x else if b then bit below x else bit k x)
drawn true b x above below k = refl
drawn false true x above below k = refl
drawn false false x above below k = refl

pub swapped-from : (x low shift : ℕ) → swaps low shift ≡ true → From (source low shift) x (swap x low shift)
unfolding swaps placed source upper
swapped-from x low shift ok k h =
    let alone = not (bit k low && (leb shift k && bit (k - shift) low)) in
    let inside = ltb (source low shift k) 64 in
    let test = all-at (placed low shift) 64 k ok h in (
      ltb-true (source low shift k) 64 (and_right alone inside test),
      parts x low shift k h
          ∙ taken (bit k x) (bit (shift + k) x) (bit (k - shift) x) (bit (shift + (k - shift)) x) (bit k low) (leb shift k) (bit (k - shift) low)
          (λ e. ap (λ (i : ℕ). bit i x) (omega (arith, leb-true shift k e)))
          (and_left alone inside test)
          ∙ sym (drawn (bit k low) (leb shift k && bit (k - shift) low) x (shift + k) (k - shift) k),
    )

-- ── The three swaps of a tile ──

through : {f g : ℕ → ℕ} (x y z : ℕ) → From f x y → From g y z → From (λ k. f (g k)) x z
through {f} {g} x y z one two k h =
    let last = two k h in
    let first = one (g k) last.0 in (first.0, last.1 ∙ first.1)

-- f takes each place k, of some bit r of some row c, to that of bit c of row r
unfoldable pub mirrors : (ℕ → ℕ) → Bool
mirrors f = all_of (λ k. eqb (f k) (8 * (k % 8) + k / 8)) 64

mirrored-place : (f : ℕ → ℕ) (r c : ℕ) → mirrors f ≡ true → r < 8 → c < 8 → f (8 * c + r) ≡ 8 * r + c
unfolding mirrors
mirrored-place f r c ok h l = omega (arith, table-equal f (λ k. 8 * (k % 8) + k / 8) 64 ok (8 * c + r) (omega arith))

pub mirrored-bit :
    {f g h : ℕ → ℕ} (tile singles twos m : ℕ) →
    From f tile singles →
    From g singles twos →
    From h twos m →
    mirrors (λ k. f (g (h k))) ≡ true →
    (r c : ℕ) →
    r < 8 →
    c < 8 →
    bit (8 * c + r) m ≡ bit (8 * r + c) tile
mirrored-bit {f} {g} {h} tile singles twos m one two three ok r c rows columns =
    (through tile twos m (through tile singles twos one two) three (8 * c + r) (omega arith)).1
    ∙ ap (λ (k : ℕ). bit k tile) (mirrored-place (λ k. f (g (h k))) r c ok rows columns)
