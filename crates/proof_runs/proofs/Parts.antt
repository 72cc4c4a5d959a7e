-- A run in two parts: the later calls are taken from the state that the earlier ones hand back.
use Rattle.std.specs.Prelude.{Ok, Err}
use Prim.Native.Nat.{ℕ}
use mathlib.Core.List.{List, [], ◌∷◌, ◌++◌}
use mathlib.Core.Path.{◌≡◌, refl, ap, ◌∙◌}
use Rattle.rules.specs.Verdicts.{Outcome, Stepped, StepRefused}
use Rattle.rules.specs.Runs.{Controller, Call, step_call, retime_call, Step, Taken, step_taken, retime_taken, next_of, step_of, taken_from, left_by, if_accepted, accepted_steps}

module _ {S : Type 0} (controller : Controller S) (b : List ℕ) where
  pub taken-on :
      (s : S) (calls later : List Call) →
      taken_from controller b s (calls ++ later) ≡ taken_from controller b s calls ++ taken_from controller b (left_by controller b s calls) later
  unfolding taken_from left_by
  taken-on s [] later = refl
  taken-on s (step_call c ∷ calls) later =
      ap (λ (rest : List Taken). step_taken (step_of controller b s c) ∷ rest) (taken-on (next_of controller b s c) calls later)
  taken-on s (retime_call new ∷ calls) later =
      ap (λ (rest : List Taken). retime_taken new (controller.retime_verdict b s new) ∷ rest) (taken-on (controller.retimed b s new) calls later)

  pub left-on : (s : S) (calls later : List Call) → left_by controller b s (calls ++ later) ≡ left_by controller b (left_by controller b s calls) later
  unfolding left_by
  left-on s [] later = refl
  left-on s (step_call c ∷ calls) later = left-on (next_of controller b s c) calls later
  left-on s (retime_call new ∷ calls) later = left-on (controller.retimed b s new) calls later

pub accepted-on : (calls later : List Taken) → accepted_steps (calls ++ later) ≡ accepted_steps calls ++ accepted_steps later
unfolding accepted_steps if_accepted
accepted-on [] later = refl
accepted-on (retime_taken new verdict ∷ calls) later = accepted-on calls later
accepted-on (step_taken step ∷ calls) later =
    ap (if_accepted step.outcome step) (accepted-on calls later) ∙ by step.outcome (accepted_steps calls) (accepted_steps later)
  where
    by : (outcome : Outcome) (some more : List Step) → if_accepted outcome step (some ++ more) ≡ if_accepted outcome step some ++ more
    by (Ok wait) some more = refl
    by (Err r) some more = refl
