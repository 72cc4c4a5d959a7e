-- Past the refusals the personality is accepted, the buffer has the length of a state, and the record is a whole one.
use Rattle.std.proofs.Common.{ℕ, List, ◌≡◌, length, sym, ◌∙◌, arith}
use borrow.Author.Tests.{not-false, eqb-true}
use Rattle.laws.proofs.Arrays.{sets-whole}
use Rattle.rules.specs.Verdicts.{Accepted}
use Rattle.rules.specs.Personality.{verdict_of}
use Rattle.rules.proofs.Checks.{checks}
use Rattle.rules.proofs.Verdicts.{refuse-passed}
use Rattle.state_sealed.specs.Sealed.{sealed_bytes}
use Rattle.state_sealed.proofs.SealedLaws.{whole_length, state-length}
use Rattle.board_seal.specs.SealCall.{record_verdict}
use Rattle.board_seal.proofs.SealCalls.{record-passed, resumes}
use Rattle.board_seal.proofs.tried_resume.Goals as goal

long : (b sealed : List ℕ) → record_verdict b sealed ≡ Accepted → length sealed ≡ sealed_bytes
long b sealed e = whole_length sealed (record-passed b sealed e).whole

pub state_in-requires : goal.state_in-requires
state_in-requires c = long _ _ (sym c.record_verdict.ensures ∙ c.in_ok-record_verdict.was)

pub put_all-requires : goal.put_all-requires
put_all-requires c =
    let whole = long _ _ (sym c.record_verdict.ensures ∙ c.in_ok-record_verdict.was) in
    let room = eqb-true _ _ (not-false _ (refuse-passed _ _ _ (sym c.refuse_if.ensures ∙ c.in_ok-refuse_if.was))) in
    rw c.state_in.ensures (omega (arith, state-length _ whole, room))

pub returns-clause-state : goal.returns-clause-state
returns-clause-state c =
    let accepted : verdict_of c.args.personality.now ≡ Accepted = grind (arith, checks) in
    let passed = rw c.in_ok-p.ensures.bytes at (sym c.record_verdict.ensures ∙ c.in_ok-record_verdict.was) in
    let room = eqb-true _ _ (not-false _ (refuse-passed _ _ _ (sym c.refuse_if.ensures ∙ c.in_ok-refuse_if.was))) in
    (resumes _ _ _ accepted room _ passed
    (rw (c.put_all.ensures, c.state_in.ensures)
    (sets-whole _ _ (state-length _ (long c.args.personality.now _ passed) ∙ sym room)))).1
