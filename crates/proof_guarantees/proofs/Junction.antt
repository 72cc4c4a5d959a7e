-- Demand 3 for step calls applied to the junction of two phases. That the rules accept it, with a wait bound of 270, and that its two groups conflict is
-- computed.
use Prim.Native.Nat.{ℕ, zero, suc, ◌≤◌, ◌<◌}
use mathlib.Core.Bool.{true, false}
use mathlib.Core.Path.{◌≡◌, refl, sym, ap, subst, ◌∙◌}
use native.Mathlib.Omega.{arith}
use borrow.Author.Tests.{le-ltb}
use lib.Dec.{ltb}
use lib.ListN.{length}
use Rattle.rules.specs.Verdicts.{Stepped, Accepted, ◌or_else◌, refuse_if}
use Rattle.rules.specs.Personality.{verdict_of}
use Rattle.rules.specs.Site.{site_of, conflict}
use Rattle.rules.specs.WaitBound.{wait_bound}
use Rattle.rules.specs.Call.{stray_input, bound_for}
use Rattle.rules.specs.Runs.{by_rules}
use Rattle.rules.specs.DemandThree.{NoConflictingGreens, minimum_green_begins}
use Rattle.rules.specs.StepDemandThree.{MetWithin, AnswersBound, StepDemandThreeOf, StepDemandThree, comes_within}
use Rattle.rules.specs.Junctions.{junction}
use Rattle.rules.proofs.Opened.{opened}
use Rattle.proof_guarantees.specs.Junction.{NeverTogether, MetIn270, AlwaysAnswered}
use Rattle.proof_guarantees.proofs.StepDemandThree.{step-demand-three}

junction-accepted : verdict_of junction ≡ Accepted
unfolding opened
junction-accepted = refl

junction-bound : wait_bound (site_of junction) ≡ 270
unfolding opened
junction-bound = refl

groups-conflict : conflict (site_of junction) 0 1 ≡ true
unfolding opened
groups-conflict = refl

pub never-together : NeverTogether
unfolding NeverTogether StepDemandThree StepDemandThreeOf NoConflictingGreens by_rules
never-together calls earlier later step e =
    (step-demand-three junction junction-accepted calls).no_conflicting_greens earlier later step e 0 1 groups-conflict

pub met-in-270 : MetIn270
unfolding MetIn270 StepDemandThree StepDemandThreeOf MetWithin by_rules
met-in-270 calls earlier later step e long registered =
    let met =
    (step-demand-three junction junction-accepted calls).demands_met earlier later step e
    (subst (λ (n : ℕ). n ≤ length later) (sym junction-bound) long) in
    subst (λ (n : ℕ). comes_within n (minimum_green_begins 1) step later ≡ true) junction-bound (met.0 1 registered)

-- the two detectors and no buttons
inputs-wired : (inputs : ℕ) → inputs < 4 → stray_input (site_of junction) inputs ≡ false
unfolding opened
inputs-wired zero h = refl
inputs-wired (suc zero) h = refl
inputs-wired (suc (suc zero)) h = refl
inputs-wired (suc (suc (suc zero))) h = refl
inputs-wired (suc (suc (suc (suc n)))) h = absurd (omega (arith, h))

room-enough : (room : ℕ) → 2 ≤ room → ltb room (site_of junction).size.groups ≡ false
unfolding opened
room-enough room h = le-ltb room 2 h

pub always-answered : AlwaysAnswered
unfolding AlwaysAnswered StepDemandThree StepDemandThreeOf AnswersBound by_rules refuse_if ◌or_else◌ bound_for
always-answered calls earlier later step e few enough =
    (step-demand-three junction junction-accepted calls).no_dead_end earlier later step e
    ∙ rw (inputs-wired step.inputs few, room-enough step.room enough) (ap Stepped junction-bound)
