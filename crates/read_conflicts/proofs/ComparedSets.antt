-- A record compared with whole sets. A set that is below 2 ^ n is not within another exactly if it has some bit below n that the other
-- lacks, and so a record is bad exactly if it has its own bit, a bit at or above N, or is not within the groups that name it. It is refused
-- with 10 exactly if it has a bit in common with the groups that are in a phase of its group.
use Prim.Native.Nat.{ℕ, ◌+◌, ◌*◌, ◌/◌, ◌%◌, ◌^◌, ◌≤◌, ◌<◌}
use mathlib.Core.Bool.{Bool, true, false, not, ◌&&◌, ◌||◌, or-false}
use mathlib.Core.List.{List}
use mathlib.Core.Logic.{⊎_elim, ◌≢◌}
use mathlib.Core.Path.{◌≡◌, refl, sym, ap, ◌∙◌}
use native.Mathlib.Nat.{lt_of_le_of_lt}
use native.Mathlib.Numerals.{add-one}
use native.Mathlib.Omega.{arith}
use lib.Bits.{bit_and, bit_or, and_le_l}
use lib.Dec.{leb, eqb}
use lib.ListN.{get_or}
use borrow.Author.Tests.{leb-false, eq-eqb, ne_eqb, not-false, not-true}
use Rattle.laws.specs.Bytes.{bit}
use Rattle.laws.specs.Folds.{any_of}
use Rattle.laws.proofs.Booleans.{decided, never_both, and_left, and_right, and-false-left, and-false-right, or-false-left, or-false-right}
use Rattle.laws.proofs.Folds.{any_found, any_false, any_same, any-past}
use Rattle.laws.proofs.Bits.{bit-blank, bit-above, same_bits}
use Rattle.laws.proofs.JoinedBits.{bit-and, bit-or, in-common}
use Rattle.rules.specs.Personality.{phase_count, group_count, group_set, conflict_set, bad_conflict, share_phase, conflict_in_phase}
use Rattle.rules.specs.Verdicts.{Accepted}
use Rattle.rules.proofs.Verdicts.{refuse-passed, first-each}
use Rattle.read_conflicts_turned.specs.Turned.{names, is_in, Turned}
use Rattle.read_conflicts.specs.Refused.{Named, SetsBelow, first_bad}

-- ── Number 9 ──

not_within : (n a w : ℕ) → a < 2 ^ n → not (eqb (bit_and a w) a) ≡ any_of (λ j. bit j a && not (bit j w)) n
not_within n a w h =
    ⊎_elim
    (λ (e : any_of (λ j. bit j a && not (bit j w)) n ≡ true).
    let found = any_found (λ j. bit j a && not (bit j w)) n e in
    let i = found.0 in
    rw e
    (ap not
    (ne_eqb (bit_and a w) a
    (λ z.
    never_both (and_left (bit i a) (not (bit i w)) found.2)
    (sym (ap (bit i) z) ∙ bit-and i a w ∙ and-false-right (bit i a) (not-true (bit i w) (and_right (bit i a) (not (bit i w)) found.2)))))))
    (λ (e : any_of (λ j. bit j a && not (bit j w)) n ≡ false).
    rw e
    (ap not
    (eq-eqb (bit_and a w) a
    (same_bits n (bit_and a w) a (lt_of_le_of_lt (and_le_l a w) h) h
    (λ p l. bit-and p a w ∙ kept (bit p a) (bit p w) (any_false (λ j. bit j a && not (bit j w)) n p e l))))))
    (decided (any_of (λ j. bit j a && not (bit j w)) n))
  where
    kept : (s t : Bool) → (s && not t) ≡ false → (s && t) ≡ s
    kept true t e = not-false t e
    kept false t e = refl

-- the last of three tests counts only if the second fails
last-counts : (s t u v : Bool) → (t ≡ false → u ≡ v) → (s || t || u) ≡ (s || t || v)
last-counts true t u v same = refl
last-counts false true u v same = refl
last-counts false false u v same = same refl

pub named-tested :
    {b : List ℕ} {g named : ℕ} →
    Named b g named →
    (bit g (conflict_set b g) || leb (2 ^ group_count b) (conflict_set b g) || not (eqb (bit_and (conflict_set b g) named) (conflict_set b g)))
    ≡ bad_conflict b g
unfolding bad_conflict
named-tested {b} {g} {named} known =
    let set = conflict_set b g in
    last-counts (bit g set) (leb (2 ^ group_count b) set) _ _
    (λ below.
    not_within (group_count b) set named (leb-false _ _ below)
    ∙ any_same _ _ (group_count b) (λ j l. ap (λ (t : Bool). bit j set && not t) (known.told j l)))

-- once 9 has refused no record, no set has a bit at or above N
pub sets_below : (b : List ℕ) → first_bad b ≡ Accepted → SetsBelow b
unfolding first_bad bad_conflict
sets_below b passed g l =
    let good : bad_conflict b g ≡ false = refuse-passed (bad_conflict b g) 9 _ (first-each _ (group_count b) g passed l) in
    leb-false _ _ (or-false-right (bit g (conflict_set b g)) _ (or-false-left _ _ good))

-- the groups that name each of eight groups, for one of them
pub turned-named : {b : List ℕ} (g : ℕ) (rows : List ℕ) → Turned b (names b (g / 8)) rows → Named b g (get_or rows (g % 8) 0)
unfolding names
turned-named g rows turned =
    let whole : 8 * (g / 8) + g % 8 ≡ g = omega arith in
    record { told = λ j l. turned.told (g % 8) j (omega arith) l ∙ rw whole }

-- they serve the next group, unless it begins eight others
pub turned-next : {b : List ℕ} {rows : List ℕ} (g : ℕ) → Turned b (names b (g / 8)) rows → (g + 1) % 8 ≢ 0 → Turned b (names b ((g + 1) / 8)) rows
turned-next g turned inside =
    let same : (g + 1) / 8 ≡ g / 8 = omega (arith, inside) in rw same turned

-- ── Number 10 ──

-- a union has the groups of the set's phases before p
pub record United (sets : List ℕ) (set all p : ℕ) : Type 0 where
  pub told : (j : ℕ) → bit j all ≡ any_of (λ q. bit q set && bit j (get_or sets q 0)) p

module _ {sets : List ℕ} {set : ℕ} where
  pub united-none : United sets set 0 0
  unfolding any_of
  united-none = record { told = bit-blank }

  pub united-with : {all next p : ℕ} → United sets set all p → bit p set ≡ true → next ≡ bit_or all (get_or sets p 0) → United sets set next (p + 1)
  unfolding any_of
  united-with {all} {next} {p} known own e =
      record { told = λ j. ap (bit j) e ∙ bit-or j all (get_or sets p 0) ∙ rw (known.told j, add-one p, own) }

  pub united-same : {all next p : ℕ} → United sets set all p → bit p set ≡ false → next ≡ all → United sets set next (p + 1)
  unfolding any_of
  united-same {all} {next} {p} known own e =
      record { told = λ j. ap (bit j) e ∙ known.told j ∙ rw (add-one p, own) (sym (or-false _)) }

pub members-tested :
    {b : List ℕ} {sets : List ℕ} (g shared : ℕ) →
    group_count b ≤ 32 →
    phase_count b ≤ 7 →
    conflict_set b g < 2 ^ group_count b →
    conflict_set b g < 2 ^ 32 →
    shared < 2 ^ 32 →
    Turned b (is_in b) sets →
    ((j : ℕ) → bit j shared ≡ any_of (λ p. bit p (group_set b g) && bit j (get_or sets p 0)) (phase_count b)) →
    not (eqb (bit_and (conflict_set b g) shared) 0) ≡ conflict_in_phase b g
unfolding conflict_in_phase share_phase is_in
members-tested {b} {sets} g shared few phases below h k known found =
    let set = conflict_set b g in
    in-common 32 set shared h k
    ∙ sym (any-past _ (group_count b) 32 few (λ j l m. and-false-left (bit j shared) (bit-above set (group_count b) j below l)))
    ∙ any_same _ _ (group_count b)
    (λ j l.
    ap (λ (t : Bool). bit j set && t)
    (found j ∙ any_same _ _ (phase_count b) (λ p m. ap (λ (t : Bool). bit p (group_set b g) && t) (known.told p j (omega (arith, m)) l))))
