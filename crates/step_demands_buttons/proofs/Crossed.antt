-- A pass over the movements of a word, the lowest first: the phases of those that are taken and pass a test are in the set.
use Prim.Native.Nat.{ℕ, ◌^◌, ◌≤◌, ◌<◌}
use mathlib.Core.Bool.{Bool, true, false, ◌&&◌}
use mathlib.Core.List.{List}
use mathlib.Core.Path.{◌≡◌, sym, ap, ◌∙◌}
use native.Mathlib.Omega.{arith}
use lib.Bits.{bit_or, or_lt}
use lib.ListN.{get_or}
use Rattle.laws.specs.Bytes.{bit}
use Rattle.laws.specs.Folds.{any_of, set_of}
use Rattle.rules.specs.Site.{crosses}
use Rattle.laws.proofs.Folds.{any_none, any_same, any-with}
use Rattle.laws.proofs.Bits.{bit-blank}
use Rattle.laws.proofs.JoinedBits.{bit-or}
use Rattle.laws.proofs.LowestBit.{lowest, others, Left, left-all, taken_none, taken-all, next-within, left-more, next-untaken, counted, counted-other, counted-own, counted_same}
use Rattle.laws.proofs.ByteSets.{set_told}

-- no movement is passed over
abbrev pub every : ℕ → Bool
every k = true

-- the set has the phases of the movements counted, and the bits of the rest are those of the word's n that are left
pub record Crossed (crossings : List ℕ) (word n : ℕ) (passes : ℕ → Bool) (rest set : ℕ) : Type 0 where
  pub left : Left word n rest
  pub small : set < 256
  pub told : (p : ℕ) → bit p set ≡ any_of (λ k. counted word passes rest k && crosses crossings k p) n

pub none-crossed : (crossings : List ℕ) (word n : ℕ) (passes : ℕ → Bool) → word < 2 ^ n → Crossed crossings word n passes word 0
none-crossed crossings word n passes within =
    record {
      left = left-all word n within;
      small = omega arith;
      told = λ p. bit-blank p ∙ sym (any_none _ n (λ k l. rw (taken_none word k)));
    }

module _ {crossings : List ℕ} {word n : ℕ} {passes : ℕ → Bool} {rest set : ℕ} (known : Crossed crossings word n passes rest set) where
  module _ (some : 0 < rest) (few : n ≤ 64) where
    pub turn-within : lowest rest < n
    turn-within = next-within known.left some few

    pub one-crossed :
        get_or crossings (lowest rest) 0 < 256 →
        passes (lowest rest) ≡ true →
        Crossed crossings word n passes (others rest) (bit_or set (get_or crossings (lowest rest) 0))
    unfolding crosses
    one-crossed byte e =
        record {
          left = left-more known.left some few;
          small = or_lt 8 set (get_or crossings (lowest rest) 0) known.small byte;
          told = λ p.
              bit-or p set (get_or crossings (lowest rest) 0)
              ∙ rw (known.told p)
              (any-with _ _ n (lowest rest) (crosses crossings (lowest rest) p) turn-within
              (rw (next-untaken known.left some few))
              (rw (counted-own known.left some few passes e))
              (λ k apart. ap (λ (t : Bool). t && crosses crossings k p) (counted-other known.left some few passes k apart)));
        }

    -- a movement that does not pass alters nothing
    pub one-failed : passes (lowest rest) ≡ false → Crossed crossings word n passes (others rest) set
    one-failed e =
        record {
          left = left-more known.left some few;
          small = known.small;
          told = λ p.
              known.told p
              ∙ any_same _ _ n (λ k l. ap (λ (t : Bool). t && crosses crossings k p) (counted_same known.left some few passes e k));
        }

  -- once none is left, the movements counted are all those of the word that pass
  module _ (done : rest ≡ 0) (f : ℕ → Bool) (all : (k : ℕ) → k < n → (bit k word && passes k) ≡ f k) where
    pub all-counted : (k : ℕ) → k < n → counted word passes rest k ≡ f k
    all-counted k l = rw (taken-all word k done) (all k l)

    pub all-crossed : set ≡ set_of (λ p. any_of (λ k. f k && crosses crossings k p) n)
    all-crossed =
        set_told _ set known.small
        (λ p l. known.told p ∙ any_same _ _ n (λ k m. ap (λ (t : Bool). t && crosses crossings k p) (all-counted k m)))
