-- From tiles to groups. The tiles of two bands tell of each pair of their groups, and where all pairs are sound and no set goes past N no
-- record is bad.
use Prim.Native.Nat.{ℕ, ◌+◌, ◌*◌, ◌/◌, ◌%◌, ◌^◌, ◌≤◌, ◌<◌}
use mathlib.Core.Bool.{Bool, true, false, not, ◌&&◌}
use mathlib.Core.List.{List}
use mathlib.Core.Logic.{⊎_elim}
use mathlib.Core.Path.{◌≡◌, refl, sym, ap, subst}
use native.Mathlib.Nat.{zero-add}
use native.Mathlib.Omega.{arith}
use lib.Bits.{bit_and}
use lib.Dec.{leb, eqb}
use borrow.Author.Tests.{eqb-true}
use Rattle.laws.specs.Bytes.{bit}
use Rattle.rules.specs.Personality.{phase_count, group_count, group_set, conflict_set}
use Rattle.rules.specs.Personality.{bad_conflict, share_phase, conflict_in_phase}
use Rattle.laws.specs.Folds.{any_of, all_of}
use Rattle.laws.proofs.Booleans.{decided, never_both, not-true-false, and-false-left, and-false-right, or-false-both}
use Rattle.laws.proofs.Indices.{below-or-past, same-or-apart}
use Rattle.std.specs.Bool.{⊤, MatchBool}
use Rattle.std.specs.List.{AllWithin, HoldsAt, range_with_len}
use Rattle.std.proofs.Common.{length, get_or, ◌-◌, ◌≢◌, ◌∙◌}
use Rattle.std.proofs.lemmas.List.FromFn.{length-range_with_len, get_or-range_with_len}
use Rattle.laws.proofs.Folds.{any_none, any_false}
use Rattle.laws.proofs.Tables.{table-holds}
use Rattle.laws.proofs.JoinedBits.{clear-bit}
use Rattle.read_conflicts_matrix.specs.Matrix.{ConflictRows, SetRows}
use Rattle.read_conflicts_quick.specs.Quick.{MemberRows, Matched, PairRight, BlockRight, BandRight, AllRight}

-- ── A pair of groups ──

-- the members of a band are its sets mirrored
pub member-rows :
    {b : List ℕ} {k sets members : ℕ} →
    SetRows b k sets →
    ((r c : ℕ) → r < 8 → c < 8 → bit (8 * c + r) members ≡ bit (8 * r + c) sets) →
    MemberRows b k members
member-rows rows mirror = record { told = λ p c h l m. mirror c p l h ∙ rows.told c p l h m }

-- what both tests of a tile tell
pub tile-matched :
    {t back given sets members phases : ℕ} (mirror wrong : ℕ) →
    ((r c : ℕ) → r < 8 → c < 8 → bit (8 * c + r) mirror ≡ bit (8 * r + c) t) →
    ((k : ℕ) → bit k given ≡ true → bit k wrong ≡ true) →
    ((r c p : ℕ) →
    r < 8 →
    c < 8 →
    p < phases →
    bit (8 * r + p) sets ≡ true →
    bit (8 * p + c) members ≡ true →
    bit (8 * r + c) wrong ≡ true) →
    mirror ≡ back →
    eqb (bit_and t wrong) 0 ≡ true →
    Matched t back given sets members phases
tile-matched {t} {back} mirror wrong turned kept shared same none =
    let free = eqb-true (bit_and t wrong) 0 none in
    record {
      mirrored = λ r c h l. ap (bit (8 * c + r)) (sym same) ∙ turned r c h l;
      clear = λ k e. clear-bit k t wrong free (kept k e);
      apart = λ r c p h l m e f. clear-bit (8 * r + c) t wrong free (shared r c p h l m e f);
    }

-- the bits of the diagonal
diagonal-row : (r : ℕ) → r < 8 → bit (8 * r + r) 9241421688590303745 ≡ true
unfolding bit all_of
diagonal-row = table-holds (λ r. bit (8 * r + r) 9241421688590303745) 8 refl

pub diagonal-bit : (r c : ℕ) → r < 8 → r ≡ c → bit (8 * r + c) 9241421688590303745 ≡ true
diagonal-bit r c h e = subst (λ (j : ℕ). bit (8 * r + j) 9241421688590303745 ≡ true) e (diagonal-row r h)

-- all pairs of two bands
pub block-sound :
    {b : List ℕ} {a k t back given sets members : ℕ} →
    phase_count b ≤ 7 →
    ConflictRows b a k t →
    ConflictRows b k a back →
    SetRows b a sets →
    MemberRows b k members →
    ((r c : ℕ) → r < 8 → c < 8 → 8 * a + r ≡ 8 * k + c → bit (8 * r + c) given ≡ true) →
    Matched t back given sets members (phase_count b) →
    BlockRight b a k
block-sound {b} {a} {k} {t} {back} few there home rows columns own matched r c h l m n =
    record {
      answered = sym (there.told r c h l m) ∙ sym (matched.mirrored r c h l) ∙ home.told c r l h n;
      other = λ e. sym (there.told r c h l m) ∙ matched.clear (8 * r + c) (own r c h l e);
      apart = λ p q e f.
          not-true-false (bit p (group_set b (8 * k + c)))
          (λ g.
          never_both (there.told r c h l m ∙ e)
          (matched.apart r c p h l q
          (rows.told r p h (omega (arith, few, q)) m ∙ f)
          (columns.told p c (omega (arith, few, q)) l n ∙ g)));
    }

-- the other way round
pair-turned : (b : List ℕ) (g j : ℕ) → PairRight b g j → PairRight b j g
pair-turned b g j sound =
    record {
      answered = sym sound.answered;
      other = λ e. sym sound.answered ∙ sound.other (sym e);
      apart = λ p h e f.
          not-true-false (bit p (group_set b g)) (λ q. never_both f (sound.apart p h (sound.answered ∙ e) q));
    }

-- ── Bands ──

-- what `all` found of each number of a range
pub each_of_range :
    (P : ℕ → Type 0) (a n : ℕ) {r : Bool} →
    MatchBool r
    (AllWithin P (range_with_len a n) 0 (length (range_with_len a n)))
    ((k : ℕ) × (k < length (range_with_len a n)) × HoldsAt (λ _. ⊤) (range_with_len a n) k) →
    r ≡ true →
    (i : ℕ) →
    a ≤ i →
    i < a + n →
    P i
each_of_range P a n found passed i h l =
    let inside : i - a < n = omega arith in
    let here : get_or (range_with_len a n) (i - a) 0 ≡ i = get_or-range_with_len a n (i - a) 0 inside ∙ omega arith in
    subst P here ((rw passed at found) (i - a) 0 (omega arith) (rw length-range_with_len inside))

-- a band with itself and with those behind it, which reach to the last group
pub band-whole :
    (b : List ℕ) (k n : ℕ) →
    BlockRight b k k →
    ((i : ℕ) → k + 1 ≤ i → i < n → BlockRight b i k) →
    group_count b ≤ 8 * n →
    BandRight b k
band-whole b k n own behind all a h =
    ⊎_elim
    (λ (e : k ≡ a). subst (λ (i : ℕ). BlockRight b i k) e own)
    (λ (m : k ≢ a).
    ⊎_elim
    (λ (l : a < n). behind a (omega (arith, h, m)) l)
    (λ (l : n ≤ a) r c p q t. absurd (omega (arith, l, t, all)))
    (below-or-past a n))
    (same-or-apart k a)

pub all_sound :
    (b : List ℕ) (n : ℕ) →
    ((i : ℕ) → 0 ≤ i → i < n → BandRight b i) →
    group_count b ≤ 8 * n →
    AllRight b
all_sound b n each all g j h l =
    ⊎_elim
    (λ (m : g / 8 < j / 8). pair-turned b j g (ordered j g l h (omega arith)))
    (λ (m : j / 8 ≤ g / 8). ordered g j h l m)
    (below-or-past (g / 8) (j / 8))
  where
    ordered : (g j : ℕ) → g < group_count b → j < group_count b → j / 8 ≤ g / 8 → PairRight b g j
    ordered g j h l m =
        let whole : 8 * (g / 8) + g % 8 ≡ g = omega arith in
        let other : 8 * (j / 8) + j % 8 ≡ j = omega arith in
        subst (λ (x : ℕ). PairRight b x j) whole
        (subst (λ (y : ℕ). PairRight b (8 * (g / 8) + g % 8) y) other
        (each (j / 8) (omega arith) (omega arith) (g / 8) m (g % 8) (j % 8) (omega arith) (omega arith) (omega arith) (omega arith)))

-- all are in band 0
pub single-sound : (b : List ℕ) → BlockRight b 0 0 → group_count b ≤ 8 → AllRight b
single-sound b own few g j h l = simp zero-add at (own g j (omega arith) (omega arith) (omega arith) (omega arith))

-- ── All groups ──

good-conflict :
    (b : List ℕ) (g : ℕ) →
    g < group_count b →
    leb (2 ^ group_count b) (conflict_set b g) ≡ false →
    ((j : ℕ) → j < group_count b → PairRight b g j) →
    bad_conflict b g ≡ false
unfolding bad_conflict
good-conflict b g h below sound =
    or-false-both
    (or-false-both ((sound g h).other refl) below)
    (any_none (λ j. bit j (conflict_set b g) && not (bit g (conflict_set b j))) (group_count b)
    (λ j l. same_not (bit j (conflict_set b g)) (bit g (conflict_set b j)) (sound j l).answered))
  where
    same_not : (s t : Bool) → s ≡ t → (s && not t) ≡ false
    same_not true t e = rw (sym e)
    same_not false t e = refl

no-clash :
    (b : List ℕ) (g : ℕ) → ((j : ℕ) → j < group_count b → PairRight b g j) → conflict_in_phase b g ≡ false
unfolding conflict_in_phase share_phase
no-clash b g sound =
    any_none (λ j. bit j (conflict_set b g) && any_of (λ p. bit p (group_set b g) && bit p (group_set b j)) (phase_count b)) (group_count b)
    (λ j l.
    ⊎_elim
    (λ (e : bit j (conflict_set b g) ≡ true).
    and-false-right (bit j (conflict_set b g))
    (any_none (λ p. bit p (group_set b g) && bit p (group_set b j)) (phase_count b)
    (λ p m.
    ⊎_elim
    (λ (f : bit p (group_set b g) ≡ true). and-false-right (bit p (group_set b g)) ((sound j l).apart p m e f))
    (λ (f : bit p (group_set b g) ≡ false). and-false-left (bit p (group_set b j)) f)
    (decided (bit p (group_set b g))))))
    (λ (e : bit j (conflict_set b g) ≡ false).
    and-false-left (any_of (λ p. bit p (group_set b g) && bit p (group_set b j)) (phase_count b)) e)
    (decided (bit j (conflict_set b g))))

pub records-good :
    (b : List ℕ) →
    any_of (λ g. leb (2 ^ group_count b) (conflict_set b g)) (group_count b) ≡ false →
    AllRight b →
    (g : ℕ) →
    g < group_count b →
    (bad_conflict b g ≡ false) × (conflict_in_phase b g ≡ false)
records-good b below sound g l =
    (good-conflict b g l (any_false _ _ g below l) (λ j m. sound g j l m), no-clash b g (λ j m. sound g j l m))
