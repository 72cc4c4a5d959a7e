-- Past the refusals the personality is accepted, the state is valid, and the buffer has the length of a record.
use Rattle.std.proofs.Common.{◌≡◌, sym, ◌∙◌, arith}
use borrow.Author.Tests.{not-false, eqb-true}
use Rattle.rules.specs.Verdicts.{Accepted}
use Rattle.rules.specs.Personality.{verdict_of}
use Rattle.rules.specs.Laws.{AcceptedIsShort}
use Rattle.rules.proofs.Checks.{checks}
use Rattle.rules.proofs.Verdicts.{refuse-passed}
use Rattle.proof_acceptance.proofs.Refusals.{accepted-is-short}
use Rattle.board_seal.proofs.SealCalls.{state-long}
use Rattle.board_seal.proofs.tried_seal.Goals as goal

pub write_sealed-requires : goal.write_sealed-requires
unfolding AcceptedIsShort
write_sealed-requires c =
    let accepted : verdict_of c.args.personality.now ≡ Accepted = grind (arith, checks) in
    let valid = not-false _ (refuse-passed _ _ _ (sym c.refuse_if.ensures ∙ c.in_ok-refuse_if.was)) in
    let room = not-false _ (refuse-passed _ _ _ (sym c.refuse_if-2.ensures ∙ c.in_ok-refuse_if-2.was)) in
    (accepted-is-short.1 _ accepted, state-long _ _ (sym c.is_state_of.ensures ∙ valid), eqb-true _ _ room)
