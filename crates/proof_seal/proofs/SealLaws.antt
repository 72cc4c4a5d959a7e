-- The promises of sealing and resuming, from the laws of the record: each says which check of a record fails, and that check decides the answer.
use Prim.Native.Nat.{ℕ, zero, suc, ◌*◌, ◌<◌}
use mathlib.Core.Bool.{Bool, true, false}
use mathlib.Core.List.{List}
use mathlib.Core.Logic.{⊎_elim}
use mathlib.Core.Path.{◌≡◌, refl, sym, ap, ◌∙◌}
use native.Mathlib.Omega.{arith}
use lib.Dec.{ltb, eqb}
use lib.ListN.{length, set, length-set}
use lib.Seq.{get_or-set_same, get_or-set_other}
use borrow.Author.Tests.{lt-ltb, ne_eqb}
use Rattle.rules.specs.Verdicts.{Accepted, Refused}
use Rattle.laws.specs.Bytes.{byte_at}
use Rattle.std.specs.Prelude.{if◌then◌else◌}
use Rattle.laws.proofs.Booleans.{and-false-right}
use Rattle.laws.proofs.Indices.{same-or-apart}
use Rattle.rules.specs.Verdicts.{◌or_else◌, refuse_if}
use Rattle.rules.specs.Call.{handed_back}
use Rattle.rules.specs.Laws.{AcceptedIsShort}
use Rattle.proof_acceptance.proofs.Refusals.{accepted-is-short}
use Rattle.base_crc.specs.CrcLaws.{BytesAreBits}
use Rattle.base_crc.proofs.Bursts.{bytes-are-bits, byte-around}
use Rattle.state_forms.specs.Forms.{AreBytes}
use Rattle.state_sealed.specs.Sealed.{interface_version, sealed_bytes, sealed_of, other_version, damaged, other_personality}
use Rattle.state_sealed.specs.SealedLaws.{Holds, SealedHolds, Sealable, SealedIsBytes, DamageIsFound, OtherLengthIsFound, OtherBytesAreFound}
use Rattle.state_sealed.proofs.SealedLaws.{version-back, sealed-holds, sealed-is-bytes, damage-is-found, other-length-is-found, other-bytes-are-found}
use Rattle.board_answers.specs.Answers.{packed}
use Rattle.board_seal.specs.SealCall.{seal_answer, seal_after, record_verdict, resume_answer, resume_after}
use Rattle.proof_seal.specs.SealLaws.{Savable, Saved, ResumeGivesBack, ResumedIsValid, RefusedWith, RefusedAsDamaged, DamageIsRefused, FourBytesAreRefused, OneByteIsRefused, OtherLengthIsRefused, OtherPersonalityIsRefused, OtherByteIsRefused, LongerOrShorterIsRefused}
use Rattle.proof_seal.proofs.SealAnswers.{resume-accepted}
use Rattle.board_seal.proofs.SealCalls.{state-long, seals, record-passed, record-refused, resumes}

-- ── A state is resumed as it was ──

module _ (b state : List ℕ) (able : Savable b state) where
  holds : Holds b state (sealed_of b state)
  unfolding SealedHolds
  holds = sealed-holds b state (state-long b state able.valid)

  sealed-accepted : record_verdict b (sealed_of b state) ≡ Accepted
  unfolding record_verdict ◌or_else◌ refuse_if
  sealed-accepted = rw (holds.version, holds.whole, holds.personality, holds.held, able.valid)

  pub sealed-record : (room : List ℕ) → length room ≡ sealed_bytes → (0 ≡ seal_answer b state room) × (sealed_of b state ≡ seal_after b state room)
  sealed-record room e = seals b state room able.accepted able.valid (sealed_of b state) e refl

pub resume-gives-back : ResumeGivesBack
unfolding ResumeGivesBack
resume-gives-back b state able room old e f =
    let sealed = sealed-record b state able room e in
    let back = resumes b (sealed_of b state) old able.accepted f state (sealed-accepted b state able) (sym (holds b state able).held) in
    (sym sealed.0, rw (sym sealed.1) (sym back.0), rw (sym sealed.1) (sym back.1))

-- ── Or it is refused ──

module _ (sealed own : List ℕ) where
  -- what the record is refused with is the answer
  refused-with : (number : ℕ) → record_verdict own sealed ≡ Refused number 0 → RefusedWith number own sealed
  unfolding RefusedWith
  refused-with number e accepted old room =
      let call = record-refused own sealed old accepted room (packed number 0) e refl in
      (sym call.0, sym call.1)

  -- the check that fails
  at-version : other_version sealed ≡ true → record_verdict own sealed ≡ Refused 27 0
  unfolding record_verdict ◌or_else◌ refuse_if
  at-version e = rw e

  at-damage : other_version sealed ≡ false → damaged sealed ≡ true → record_verdict own sealed ≡ Refused 28 0
  unfolding record_verdict ◌or_else◌ refuse_if
  at-damage e f = rw (e, f)

  at-personality :
      other_version sealed ≡ false → damaged sealed ≡ false → other_personality own sealed ≡ true → record_verdict own sealed ≡ Refused 29 0
  unfolding record_verdict ◌or_else◌ refuse_if
  at-personality e f g = rw (e, f, g)

  refused-as-damaged : damaged sealed ≡ true → RefusedAsDamaged own sealed
  refused-as-damaged e = by (other_version sealed) refl
    where
      by : (other : Bool) → other_version sealed ≡ other → RefusedWith (if other then 27 else 28) own sealed
      by true f = refused-with 27 (at-version f)
      by false f = refused-with 28 (at-damage f e)

sealable : {b state : List ℕ} → Saved b state → Sealable b state
unfolding AcceptedIsShort
sealable {b} {state} saved =
    record {
      personality-bytes = saved.personality-bytes;
      short = omega (arith, accepted-is-short.1 b saved.savable.accepted);
      state-bytes = saved.state-bytes;
      long = state-long b state saved.savable.valid;
    }

pub damage-is-refused : DamageIsRefused
unfolding DamageIsRefused DamageIsFound
damage-is-refused b state found own from saved bytes around apart =
    refused-as-damaged found own (damage-is-found b state found from (sealable saved) bytes around apart)

pub four-bytes-are-refused : FourBytesAreRefused
unfolding FourBytesAreRefused DamageIsRefused BytesAreBits
four-bytes-are-refused b state found own i saved bytes around apart =
    damage-is-refused b state found own (8 * i) saved bytes (bytes-are-bits i (sealed_of b state) found around) apart

-- ── One byte ──

-- a byte put in place of another
module _ (l : List ℕ) (i x : ℕ) (inside : i < length l) where
  put-here : byte_at (set l i x) i ≡ x
  unfolding byte_at
  put-here = get_or-set_same l i x 0 inside

  put-elsewhere : (k : ℕ) → (k ≡ i → ⊥) → byte_at (set l i x) k ≡ byte_at l k
  unfolding byte_at
  put-elsewhere k apart = get_or-set_other l i k x 0 apart

  put-bytes : AreBytes l → x < 256 → AreBytes (set l i x)
  put-bytes bytes small =
      record {
        each =
            λ k.
            ⊎_elim
            (λ (same : k ≡ i). rw (same, put-here) small)
            (λ (apart : k ≡ i → ⊥). rw (put-elsewhere k apart) (bytes.each k))
            (same-or-apart k i);
      }

  put-apart : (x ≡ byte_at l i → ⊥) → set l i x ≡ l → ⊥
  put-apart apart e = apart (sym put-here ∙ ap (λ (m : List ℕ). byte_at m i) e)

-- the version is another exactly if byte 0 is the one
version-hit :
    (b state : List ℕ) →
    Savable b state →
    (i x : ℕ) →
    i < length (sealed_of b state) →
    (x ≡ byte_at (sealed_of b state) i → ⊥) →
    other_version (set (sealed_of b state) i x) ≡ eqb i 0
unfolding other_version
version-hit b state able zero x inside apart =
    rw (
      length-set (sealed_of b state) 0 x,
      lt-ltb 0 (length (sealed_of b state)) inside,
      put-here (sealed_of b state) 0 x inside,
      ne_eqb x interface_version (λ e. apart (e ∙ sym (version-back b state))),
    )
version-hit b state able (suc i) x inside apart =
    rw (put-elsewhere (sealed_of b state) (suc i) x inside 0 (λ e. omega (arith, e)), version-back b state)
    (and-false-right (ltb 0 (length (set (sealed_of b state) (suc i) x))) refl ∙ sym (ne_eqb (suc i) 0 (λ e. omega (arith, e))))

pub one-byte-is-refused : OneByteIsRefused
unfolding OneByteIsRefused DamageIsRefused BytesAreBits SealedIsBytes
one-byte-is-refused b state own i x saved inside small apart =
    let sealed = sealed_of b state in
    let long = (holds b state saved.savable).size in
    let within : i < length sealed = omega arith in
    rw (sym (version-hit b state saved.savable i x within apart))
    (damage-is-refused b state (set sealed i x) own (8 * i) saved
    (put-bytes sealed i x within (sealed-is-bytes b state (sealable saved)) small)
    (bytes-are-bits i sealed (set sealed i x) (byte-around sealed i x))
    (put-apart sealed i x within apart))

pub other-length-is-refused : OtherLengthIsRefused
unfolding OtherLengthIsRefused damaged
other-length-is-refused found own apart = refused-as-damaged found own (rw (ne_eqb (length found) sealed_bytes apart))

-- ── Another personality ──

module _ (b state other : List ℕ) (able : Savable b state) where
  refused-as-other : other_personality other (sealed_of b state) ≡ true → RefusedWith 29 other (sealed_of b state)
  refused-as-other e =
      let whole = holds b state able in
      refused-with (sealed_of b state) other 29 (at-personality (sealed_of b state) other whole.version whole.whole e)

pub other-personality-is-refused : OtherPersonalityIsRefused
unfolding OtherPersonalityIsRefused OtherBytesAreFound
other-personality-is-refused b state other from saved bytes around apart =
    refused-as-other b state other saved.savable (other-bytes-are-found b other state from saved.personality-bytes bytes around apart)

pub other-byte-is-refused : OtherByteIsRefused
unfolding OtherByteIsRefused OtherPersonalityIsRefused BytesAreBits
other-byte-is-refused b state i x saved inside small apart =
    other-personality-is-refused b state (set b i x) (8 * i) saved (put-bytes b i x inside saved.personality-bytes small)
    (bytes-are-bits i b (set b i x) (byte-around b i x))
    (put-apart b i x inside apart)

pub longer-or-shorter-is-refused : LongerOrShorterIsRefused
unfolding LongerOrShorterIsRefused OtherLengthIsFound
longer-or-shorter-is-refused b state other able apart = refused-as-other b state other able (other-length-is-found b other state apart)

-- ── What is resumed is valid ──

pub resumed-is-valid : ResumedIsValid
unfolding ResumedIsValid resume_answer resume_after handed_back
resumed-is-valid b sealed old e =
    let passed = resume-accepted b sealed old e in
    rw passed.0 (record-passed b sealed passed.1).valid
