-- The laws of sealed records. Reading undoes writing, field by field; and a record that passes its test is closed by its check value, so the law of
-- bursts says that it is the record that was written.
use Prim.Native.Nat.{ℕ, ◌/◌, ◌%◌, ◌<◌}
use mathlib.Core.Bool.{true, false, not, ◌||◌}
use mathlib.Core.List.{List, ◌++◌}
use mathlib.Core.Logic.{⊎_elim}
use mathlib.Core.Path.{◌≡◌, refl, sym, ap, ◌∙◌}
use native.Mathlib.Omega.{arith}
use lib.Dec.{ltb, eqb}
use lib.ListN.{length, take, drop, length-drop}
use lib.Seq.{length-take-le, take_at, drop_at}
use borrow.Author.Tests.{eq-eqb, ne_eqb, eqb-true, not-false}
use Rattle.laws.specs.Bytes.{byte_at, two_at, four_at}
use Rattle.laws.proofs.Booleans.{decided, and-false-right, or-false-left, or-false-right, or-false-both}
use Rattle.rules.specs.Junctions.{two, four}
use Rattle.base_crc.specs.Crc.{crc}
use Rattle.base_crc.specs.CrcLaws.{CrcIsSmall, BurstIsFound, Closed, ClosedBurstIsFound}
use Rattle.base_crc.proofs.Numbers.{crc-is-small}
use Rattle.base_crc.proofs.Bursts.{four-behind, burst-is-found, closed-burst-is-found}
use Rattle.state_forms.specs.Forms.{AreBytes}
use Rattle.state_forms.proofs.Parts.{no_bytes, one_more, bytes-joined}
use Rattle.state_timed.specs.TimedLayout.{timed_bytes}
use Rattle.state_sealed.specs.Sealed.{interface_version, state_at, check_at, sealed_bytes, body_of, sealed_of, other_version, damaged, other_personality, state_in}
use Rattle.state_sealed.specs.SealedLaws.{SealedHolds, Sealable, SealedIsBytes, DamageIsFound, OtherLengthIsFound, OtherBytesAreFound}
use Rattle.state_sealed.proofs.Written.{body-length, sealed-length}

-- ── Numbers in bytes ──

four-back : (n : ℕ) → four_at (four n) 0 ≡ n
unfolding four_at two_at byte_at four two
four-back n = omega arith

two_bytes : (n : ℕ) → n < 65536 → AreBytes (two n)
unfolding two
two_bytes n h = one_more (omega arith) (one_more (omega arith) no_bytes)

four_bytes : (n : ℕ) → n < 4294967296 → AreBytes (four n)
unfolding four
four_bytes n h = bytes-joined (two (n % 65536)) (two (n / 65536)) (two_bytes (n % 65536) (omega arith)) (two_bytes (n / 65536) (omega arith))

-- ── A record reads back ──

module _ (b state : List ℕ) where
  size_back : two_at (sealed_of b state) 1 ≡ length b
  unfolding sealed_of body_of two four two_at byte_at
  size_back = omega arith

  personality-back : four_at (sealed_of b state) 3 ≡ crc b
  unfolding sealed_of body_of two four four_at two_at byte_at
  personality-back = omega arith

  pub version-back : byte_at (sealed_of b state) 0 ≡ interface_version
  unfolding sealed_of body_of byte_at
  version-back = refl

  module _ (long : length state ≡ timed_bytes) where
    body_back : take check_at (sealed_of b state) ≡ body_of b state
    unfolding sealed_of
    body_back = take_at (body_of b state) _ check_at (body-length b state long)

    check-back : four_at (sealed_of b state) check_at ≡ crc (take check_at (sealed_of b state))
    unfolding sealed_of
    check-back =
        let body = body_of b state in
        sym (four-behind (body ++ four (crc body)) check_at)
        ∙ ap (λ (rest : List ℕ). four_at rest 0) (drop_at body (four (crc body)) check_at (body-length b state long))
        ∙ four-back (crc body)
        ∙ sym (ap crc body_back)

    state-back : state_in (sealed_of b state) ≡ state
    unfolding state_in sealed_of body_of two four
    state-back = take_at state _ timed_bytes long

same_seen : {a b : ℕ} → a ≡ b → not (eqb a b) ≡ false
same_seen {a} {b} e = ap not (eq-eqb a b e)

pub sealed-holds : SealedHolds
unfolding SealedHolds other_version damaged other_personality
sealed-holds b state long =
    let size = sealed-length b state long in
    record {
      size = size;
      version = rw (version-back b state) (and-false-right (ltb 0 (length (sealed_of b state))) refl);
      whole = or-false-both (same_seen size) (same_seen (check-back b state long));
      personality = or-false-both (same_seen (size_back b state)) (same_seen (personality-back b state));
      held = state-back b state long;
    }

-- ── What is found ──

body_bytes : (b state : List ℕ) → Sealable b state → AreBytes (body_of b state)
unfolding body_of CrcIsSmall
body_bytes b state able =
    let check = crc-is-small b able.personality-bytes.each in
    one_more (omega arith)
    (bytes-joined (two (length b) ++ four (crc b)) state
    (bytes-joined (two (length b)) (four (crc b)) (two_bytes (length b) able.short) (four_bytes (crc b) check))
    able.state-bytes)

pub sealed-is-bytes : SealedIsBytes
unfolding SealedIsBytes CrcIsSmall sealed_of
sealed-is-bytes b state able =
    let body = body_bytes b state able in
    bytes-joined (body_of b state) (four (crc (body_of b state))) body (four_bytes (crc (body_of b state)) (crc-is-small (body_of b state) body.each))

-- neither of two pairs of numbers differs
no_difference : (a b c d : ℕ) → (not (eqb a b) || not (eqb c d)) ≡ false → (a ≡ b) × (c ≡ d)
no_difference a b c d e = (
  eqb-true a b (not-false (eqb a b) (or-false-left (not (eqb a b)) (not (eqb c d)) e)),
  eqb-true c d (not-false (eqb c d) (or-false-right (not (eqb a b)) (not (eqb c d)) e)),
)

-- bytes that pass the test are closed by their check value
passes-closed : (found : List ℕ) → damaged found ≡ false → Closed check_at found
unfolding damaged
passes-closed found e =
    let same = no_difference (length found) sealed_bytes (four_at found check_at) (crc (take check_at found)) e in
    record { size = same.0; check = same.1 }

pub whole_length : (found : List ℕ) → damaged found ≡ false → length found ≡ sealed_bytes
whole_length found e = (passes-closed found e).size

pub state-length : (sealed : List ℕ) → length sealed ≡ sealed_bytes → length (state_in sealed) ≡ timed_bytes
unfolding state_in
state-length sealed e = length-take-le timed_bytes (drop state_at sealed) (simp length-drop (omega arith))

pub damage-is-found : DamageIsFound
unfolding DamageIsFound ClosedBurstIsFound SealedIsBytes SealedHolds
damage-is-found b state found from able bytes around other =
    ⊎_elim
    (λ (e : damaged found ≡ true). e)
    (λ (e : damaged found ≡ false).
    absurd
    (other
    (sym
    (closed-burst-is-found check_at (sealed_of b state) found from (sealed-is-bytes b state able).each bytes.each
    (passes-closed (sealed_of b state) (sealed-holds b state able.long).whole)
    (passes-closed found e)
    around))))
    (decided (damaged found))

pub other-length-is-found : OtherLengthIsFound
unfolding OtherLengthIsFound other_personality
other-length-is-found b other state apart =
    rw (size_back b state, ne_eqb (length b) (length other) (λ e. apart (sym e)))

same-marks :
    (b other state : List ℕ) → other_personality other (sealed_of b state) ≡ false → (length b ≡ length other) × (crc b ≡ crc other)
unfolding other_personality
same-marks b other state e =
    let same = no_difference (two_at (sealed_of b state) 1) (length other) (four_at (sealed_of b state) 3) (crc other) e in
    (sym (size_back b state) ∙ same.0, sym (personality-back b state) ∙ same.1)

pub other-bytes-are-found : OtherBytesAreFound
unfolding OtherBytesAreFound BurstIsFound
other-bytes-are-found b other state from bytes others around apart =
    ⊎_elim
    (λ (e : other_personality other (sealed_of b state) ≡ true). e)
    (λ (e : other_personality other (sealed_of b state) ≡ false).
    let same = same-marks b other state e in
    absurd (apart (sym (burst-is-found b other from bytes.each others.each same.0 around same.1))))
    (decided (other_personality other (sealed_of b state)))
