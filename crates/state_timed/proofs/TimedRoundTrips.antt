-- The round trips, from the laws of the forms; the state byte by byte is computed.
use mathlib.Core.List.{[], append-nil}
use mathlib.Core.Path.{refl, ◌∙◌}
use native.Mathlib.Omega.{arith}
use lib.ListN.{length}
use lib.Seq.{take_all}
use borrow.Author.Tests.{eq-eqb}
use Rattle.rules.specs.IntervalTable.{is_held, phase_held}
use Rattle.rules.specs.State.{fresh}
use Rattle.rules.specs.Kept.{fresh_kept}
use Rattle.laws.proofs.Booleans.{and_both}
use Rattle.state_forms.specs.Forms.{parts_of}
use Rattle.state_bytes.specs.Layout.{encoded}
use Rattle.state_timed.specs.TimedLayout.{timed_bytes, timed_encoded, timed_decoded, is_timed, ProperTimed}
use Rattle.state_timed.specs.TimedRoundTrips.{EncodedHas336, EncodedIsTimed, EncodedIsBytes, DecodedEncoded, DecodedIsProper, EncodedDecoded, StartRedLongerBytes}
use Rattle.state_timed.proofs.TimedLaws.{timed-law, timed-known}

pub encoded-has-336 : EncodedHas336
unfolding timed_encoded
encoded-has-336 s = timed-law.sized s

pub encoded-is-timed : EncodedIsTimed
unfolding is_timed timed_encoded
encoded-is-timed s =
    and_both (eq-eqb (length (timed_encoded s)) timed_bytes (timed-law.sized s)) (rw append-nil at (timed-law.passes s [] [] 0 refl))

pub encoded-is-bytes : EncodedIsBytes
unfolding ProperTimed timed_encoded
encoded-is-bytes s proper = timed-law.bytes s proper

pub decoded-encoded : DecodedEncoded
unfolding ProperTimed timed_encoded timed_decoded
decoded-encoded s proper = rw append-nil at (timed-law.back s [] [] 0 proper refl)

pub decoded-is-proper : DecodedIsProper
unfolding ProperTimed timed_decoded
decoded-is-proper b bytes = timed-law.proper b 0 bytes

pub encoded-decoded : EncodedDecoded
unfolding timed_encoded timed_decoded
encoded-decoded b bytes known =
    let told = timed-known b known in
    timed-law.same b 0 bytes (omega arith) told.known ∙ take_all timed_bytes b (omega arith)

-- ── Byte by byte ──

pub start-red-longer-bytes : StartRedLongerBytes
unfolding timed_encoded encoded fresh_kept fresh parts_of is_held phase_held
start-red-longer-bytes = refl
