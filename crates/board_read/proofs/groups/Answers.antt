-- Its refusals are those of the personality.
use Prim.Native.Nat.{ℕ}
use mathlib.Core.Path.{◌≡◌, refl, ◌∙◌}
use Rattle.std.specs.Prelude.{Ok, Err}
use Rattle.rules.specs.Verdicts.{Verdict}
use Rattle.rules.specs.Call.{bound_for}
use Rattle.rules.specs.Site.{site_of}
use Rattle.board_answers.specs.Answers.{packed_verdict, packed_outcome}
use Rattle.board_answers.proofs.Answers.{near_read, near_outcome}
use Rattle.board_read.specs.GroupsCall.{groups_for, groups_answer}
use Rattle.board_read.proofs.groups.Goals as goal

same : (v : Verdict) (n : ℕ) → packed_outcome (bound_for v n) ≡ groups_for v n
unfolding packed_outcome packed_verdict bound_for groups_for
same (Ok _) n = refl
same (Err r) n = refl

pub answer-requires : goal.answer-requires
answer-requires c = near_outcome _ _ c.tried_groups.ensures (near_read _)

pub returns : goal.returns
unfolding groups_answer site_of
returns c = (rw c.tried_groups.ensures at c.answer.ensures) ∙ same _ _
