-- The steps of a run are linked state by state: what is known of an accepted step, one link of the chain, and what the checks of its call
-- tell.
use Prim.Native.Nat.{ℕ, ◌<◌}
use mathlib.Core.Bool.{Bool, true, false, not}
use mathlib.Core.List.{List, ◌++◌}
use mathlib.Core.Path.{◌≡◌, sym, subst, ◌∙◌}
use borrow.Author.Tests.{not-false}
use lib.Dec.{ltb}
use lib.ListN.{get_or, get_or-append}
use Rattle.rules.specs.Verdicts.{Accepted, refuse_if, ◌or_else◌}
use Rattle.rules.specs.declared.site.Site.{Site}
use Rattle.rules.specs.declared.state.State.{State}
use Rattle.rules.specs.Personality.{verdict_of}
use Rattle.rules.specs.Site.{site_of}
use Rattle.rules.specs.Step.{stepped}
use Rattle.rules.specs.Colours.{shown_in, colours_of}
use Rattle.rules.specs.Call.{stray_input, step_verdict}
use Rattle.rules.specs.Laws.{Sound}
use Rattle.rules.specs.Runs.{Step}
use Rattle.rules.specs.DemandThree.{shows}
use Rattle.laws.proofs.Lists.{list_length, list_at}
use Rattle.rules.proofs.Verdicts.{or-first, or_later, refuse-passed}
use Rattle.proof_runs.proofs.ValidStates.{ValidState}

-- ── One link ──

-- what an accepted step does from state s, and what is shown after it
pub record Link (site : Site) (s : State) (step : Step) : Type 0 where
  pub before : step.before ≡ s
  pub after : step.after ≡ stepped site s step.inputs
  pub shown : (g : ℕ) → g < site.size.groups → shows step g ≡ shown_in site step.after g

-- A link between valid states of the sound site whose times rule in the step.
pub record ValidLink (site : Site) (s : State) (step : Step) : Type 0 where
  pub sound : Sound site
  pub taken : Link site s step
  pub here : ValidState site s
  pub there : ValidState site step.after

-- ── Colours and checks ──

-- the colours stand before the bytes that are left untouched
pub front-shown :
    (site : Site) (s : State) (rest : List ℕ) (g : ℕ) → g < site.size.groups → get_or (colours_of site s ++ rest) g 0 ≡ shown_in site s g
unfolding colours_of
front-shown site s rest g h =
    get_or-append (colours_of site s) rest 0 g (subst (λ (n : ℕ). g < n) (sym (list_length (shown_in site s) site.size.groups)) h)
    ∙ list_at (shown_in site s) site.size.groups g 0 h

module _ (b : List ℕ) (inputs room : ℕ) (is_valid : Bool) where
  -- a call whose checks pass has a valid state and no stray input
  pub step-told : step_verdict (site_of b) is_valid inputs room ≡ Accepted → (is_valid ≡ true) × (stray_input (site_of b) inputs ≡ false)
  unfolding step_verdict
  step-told checks =
      let first = refuse_if (not is_valid) 13 0 in
      let second = refuse_if (stray_input (site_of b) inputs) 15 0 in
      let third = refuse_if (ltb room (site_of b).size.groups) 14 0 in (
        not-false is_valid (refuse-passed (not is_valid) 13 0 (or-first first (second or_else third) checks)),
        refuse-passed (stray_input (site_of b) inputs) 15 0 (or-first second third (or_later first (second or_else third) checks)),
      )

  pub checks-told :
      (verdict_of b or_else step_verdict (site_of b) is_valid inputs room) ≡ Accepted → (is_valid ≡ true) × (stray_input (site_of b) inputs ≡ false)
  checks-told e = step-told (or_later (verdict_of b) (step_verdict (site_of b) is_valid inputs room) e)
