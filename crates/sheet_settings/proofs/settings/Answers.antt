-- Each answer is the computed one, and the computed answer is the one stated.
use Rattle.std.proofs.Common.{◌≡◌, sym, subst, arith}
use Rattle.std.proofs.lemmas.Grind.{common_steps}
use Rattle.sheet_settings.specs.declared.Sheet.{Sheet}
use Rattle.sheet_settings.specs.Sheet.{Answer, answer_of, AnswerFor}
use Rattle.sheet_settings.proofs.Stated.{in-range-parts, as-stated}
use Rattle.sheet_settings.proofs.settings.Goals as goal

promised : (s : Sheet) {a : Answer} → a ≡ answer_of s → (a ≡ answer_of s) × AnswerFor s a
promised s e = (e, subst (λ (b : Answer). AnswerFor s b) (sym e) (as-stated.stated s))

pub returns-then-not-in_range : goal.returns-then-not-in_range
unfolding answer_of
returns-then-not-in_range c = promised c.args.sheet (grind (arith, common_steps))

pub minimum_green-requires : goal.minimum_green-requires
minimum_green-requires c = let parts = in-range-parts c.args.sheet in grind (arith, common_steps)

pub passage_time-requires : goal.passage_time-requires
passage_time-requires c = let parts = in-range-parts c.args.sheet in grind (arith, common_steps)

pub returns : goal.returns
unfolding answer_of
returns c = promised c.args.sheet (grind (arith, common_steps))
