-- The worked cases, computed.
use mathlib.Core.Path.{◌≡◌, refl, sym, ◌∙◌}
use Rattle.rules.specs.Junctions.{junction}
use Rattle.rules.proofs.Opened.{opened}
use Rattle.base_crc.specs.Crc.{shifted, shifted_by, taken, taken_all, crc}
use Rattle.state_forms.specs.Forms.{parts_of}
use Rattle.state_bytes.specs.Layout.{encoded}
use Rattle.state_timed.specs.TimedLayout.{is_timed, timed_decoded, timed_encoded}
use Rattle.state_sealed.specs.Sealed.{body_of, sealed_of, other_version, damaged, other_personality, state_in}
use Rattle.state_valid.specs.StateOf.{is_state_of}
use Rattle.board_seal.specs.SealCall.{record_verdict}
use Rattle.proof_seal.specs.SealLaws.{Savable}
use Rattle.proof_seal.specs.SealCases.{junction_state, JunctionStarts, junction_record, JunctionIsSealed, cases, CasesHold}
use Rattle.proof_seal.proofs.SealLaws.{sealed-record}

-- what the cases compute with
unfoldable computing : Unit {0}
unfolding
    opened encoded shifted shifted_by taken taken_all crc parts_of is_timed timed_decoded timed_encoded body_of sealed_of other_version damaged
    other_personality state_in is_state_of record_verdict junction_state junction_record
computing = tt

pub junction-starts : JunctionStarts
unfolding computing JunctionStarts
junction-starts = refl

junction-savable : Savable junction junction_state
unfolding computing
junction-savable = record { accepted = refl; valid = refl }

junction-record : sealed_of junction junction_state ≡ junction_record
unfolding computing
junction-record = refl

pub junction-is-sealed : JunctionIsSealed
unfolding JunctionIsSealed
junction-is-sealed room e =
    let sealed = sealed-record junction junction_state junction-savable room e in
    (sym sealed.0, sym sealed.1 ∙ junction-record)

pub cases-hold : CasesHold
unfolding computing cases CasesHold
cases-hold = (refl, (refl, (refl, (refl, (refl, (refl, (refl, (refl, (refl, (refl, (refl, tt)))))))))))
