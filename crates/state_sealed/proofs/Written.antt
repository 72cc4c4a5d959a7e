-- The parts of a sealed record, stored one behind the other into a buffer of its length, are the record.
use Prim.Native.Nat.{ℕ}
use mathlib.Core.List.{List, ◌∷◌, ◌++◌}
use mathlib.Core.Path.{◌≡◌, refl, sym, ap, ◌∙◌}
use native.Mathlib.Omega.{arith}
use lib.ListN.{length, take, set, length-append}
use lib.Seq.{sets, sets-eq, take_at}
use Rattle.rules.specs.Junctions.{two, four}
use Rattle.laws.proofs.Arrays.{sets-next, sets-whole}
use Rattle.base_crc.specs.Crc.{crc}
use Rattle.state_timed.specs.TimedLayout.{timed_bytes}
use Rattle.state_sealed.specs.Sealed.{interface_version, check_at, sealed_bytes, body_of, sealed_of}

four-length : (n : ℕ) → length (four n) ≡ 4
unfolding four two
four-length n = refl

pub body-length : (b state : List ℕ) → length state ≡ timed_bytes → length (body_of b state) ≡ check_at
unfolding body_of two four
body-length b state e = omega arith

four-more : (body : List ℕ) (n : ℕ) → length body ≡ check_at → length (body ++ four n) ≡ sealed_bytes
four-more body n e = length-append body (four n) ∙ omega (arith, four-length n)

pub sealed-length : (b state : List ℕ) → length state ≡ timed_bytes → length (sealed_of b state) ≡ sealed_bytes
unfolding sealed_of
sealed-length b state e = four-more (body_of b state) _ (body-length b state e)

pub body-written :
    (b state old : List ℕ) →
    sets (sets (sets (set old 0 interface_version) 1 (two (length b))) 3 (four (crc b))) 7 state ≡ sets old 0 (body_of b state)
unfolding body_of two four
body-written b state old = sets-next old (interface_version ∷ (two (length b) ++ four (crc b))) state 0 7 refl

module _ (b state old : List ℕ) (long : length state ≡ timed_bytes) (room : length old ≡ sealed_bytes) where
  pub body-read : take check_at (sets old 0 (body_of b state)) ≡ body_of b state
  body-read =
      let size = body-length b state long in
      ap (take check_at) (sets-eq (body_of b state) old 0 (omega arith)) ∙ take_at (body_of b state) _ check_at size

  pub sealed-written :
      let body = sets old 0 (body_of b state) in
      sets body check_at (four (crc (take check_at body))) ≡ sealed_of b state
  unfolding sealed_of
  sealed-written =
      rw body-read
      (sets-next old (body_of b state) (four (crc (body_of b state))) 0 check_at (omega (arith, body-length b state long))
      ∙ sets-whole old (body_of b state ++ four (crc (body_of b state))) (sealed-length b state long ∙ sym room))
