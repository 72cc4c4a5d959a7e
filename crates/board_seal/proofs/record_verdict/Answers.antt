-- What each check gave, by the fact that it tests; they decide one after the other.
use Rattle.std.proofs.Common.{Bool, not, ◌≡◌, sym, ap, ◌∙◌, rules}
use Rattle.rules.specs.Verdicts.{refuse_if}
use Rattle.state_sealed.specs.Sealed.{other_version, damaged, other_personality}
use Rattle.state_sealed.proofs.SealedLaws.{whole_length}
use Rattle.rules.proofs.Verdicts.{refuse-passed}
use Rattle.board_seal.proofs.SealCalls.{by-version, by-damage, by-personality, by-state}
use Rattle.board_seal.proofs.record_verdict.Goals as goal
use Rattle.board_seal.proofs.record_verdict.Goals.{After-refuse_if, After-refuse_if-2, After-refuse_if-3}

-- ── The checks ──

version : (c : After-refuse_if) → c.refuse_if.result ≡ refuse_if (other_version c.args.sealed.now) 27 0
version c = c.refuse_if.ensures ∙ ap (λ (t : Bool). refuse_if t 27 0) c.other_version.ensures

damage : (c : After-refuse_if-2) → c.refuse_if-2.result ≡ refuse_if (damaged c.args.sealed.now) 28 0
damage c = c.refuse_if-2.ensures ∙ ap (λ (t : Bool). refuse_if t 28 0) c.damaged.ensures

own : (c : After-refuse_if-3) → c.refuse_if-3.result ≡ refuse_if (other_personality c.args.p.now c.args.sealed.now) 29 0
own c = c.refuse_if-3.ensures ∙ ap (λ (t : Bool). refuse_if t 29 0) (rw (c.sections.view_is, c.p.view_is) at c.other_personality.ensures)

-- ── The verdict ──

pub returns-in_err-refuse_if : goal.returns-in_err-refuse_if
returns-in_err-refuse_if c =
    let at = goal.at.returns-in_err-refuse_if c in
    rw (by-version c.args.p.now c.args.sealed.now (version at.After-refuse_if) c.in_err-refuse_if.was) (search rules)

pub returns-in_err-refuse_if-2 : goal.returns-in_err-refuse_if-2
returns-in_err-refuse_if-2 c =
    let at = goal.at.returns-in_err-refuse_if-2 c in
    rw (by-damage c.args.p.now c.args.sealed.now (version at.After-refuse_if) c.in_ok-refuse_if.was (damage at.After-refuse_if-2) c.in_err-refuse_if-2.was)
    (search rules)

pub other_personality-requires : goal.other_personality-requires
other_personality-requires c =
    whole_length _ (sym c.damaged.ensures ∙ refuse-passed c.damaged.result 28 0 (sym c.refuse_if-2.ensures ∙ c.in_ok-refuse_if-2.was))

pub returns-in_err-refuse_if-3 : goal.returns-in_err-refuse_if-3
returns-in_err-refuse_if-3 c =
    let at = goal.at.returns-in_err-refuse_if-3 c in
    rw
    (by-personality c.args.p.now c.args.sealed.now (version at.After-refuse_if) c.in_ok-refuse_if.was (damage at.After-refuse_if-2) c.in_ok-refuse_if-2.was
    (own at.After-refuse_if-3) c.in_err-refuse_if-3.was)
    (search rules)

pub state_in-state-requires : goal.state_in-state-requires
state_in-state-requires c =
    whole_length _ (sym c.damaged.ensures ∙ refuse-passed c.damaged.result 28 0 (sym c.refuse_if-2.ensures ∙ c.in_ok-refuse_if-2.was))

pub returns : goal.returns
returns c =
    let at = goal.at.returns c in
    rw (
      by-state c.args.p.now c.args.sealed.now (version at.After-refuse_if) c.in_ok-refuse_if.was (damage at.After-refuse_if-2) c.in_ok-refuse_if-2.was
          (own at.After-refuse_if-3) c.in_ok-refuse_if-3.was,
      ← c.state_in-state.ensures,
      ← c.is_state_of.ensures,
      c.refuse_if-4.ensures,
    )
