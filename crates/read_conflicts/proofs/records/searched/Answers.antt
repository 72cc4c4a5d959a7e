use Rattle.std.proofs.Common.{sym, ◌∙◌}
use Rattle.std.proofs.lemmas.Result.{err_from_is_err_and}
use Rattle.rules.proofs.Verdicts.{or-next, or-stop}
use Rattle.read_conflicts.proofs.ComparedSets.{sets_below}
use Rattle.read_conflicts.proofs.records.searched.Goals as goal

pub returns-in_err-first_bad : goal.returns-in_err-first_bad
returns-in_err-first_bad c =
    let refused = c.in_err-first_bad.was in
    let p = err_from_is_err_and c.from_residual.result c.from_residual.ensures.1 in
    rw (p.1, p.2) (sym refused ∙ or-stop _ c.first_bad.ensures refused)

pub first_clash-requires : goal.first_clash-requires
first_clash-requires c = sets_below _ (sym c.first_bad.ensures ∙ c.in_ok-first_bad.was)

pub returns : goal.returns
returns c = or-next c.first_bad.ensures c.in_ok-first_bad.was c.first_clash.ensures
