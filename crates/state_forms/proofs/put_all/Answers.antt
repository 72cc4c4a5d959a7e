use Rattle.std.proofs.Common.{arith, length, get_or, refl, ap, ◌∙◌}
use Rattle.std.proofs.lemmas.List.Edits.{sets}
use Rattle.laws.specs.Folds.{list_of}
use Rattle.laws.proofs.Arrays.{Stored, stored-none, stored_one, stored-all}
use Rattle.laws.proofs.Lists.{listed}
use Rattle.state_forms.proofs.put_all.Goals as goal

pub loop-i-init : goal.loop-i-init
unfolding list_of
loop-i-init c = stored-none refl

pub loop-i-preserved : goal.loop-i-preserved
loop-i-preserved c = stored_one _ c.loop-i.invariant c.loop-i-test.true refl refl

pub returns : goal.returns
returns c =
    let a = c.args in
    stored-all c.loop-i.invariant c.loop-i-test.false
    ∙ ap (sets a.bytes.now a.at) (listed a.part.now (length a.part.now) 0 refl)
