-- The laws of the layout's forms, record by record: each follows from the laws of its fields.
use mathlib.Core.Path.{◌≡◌, refl}
use native.Mathlib.Omega.{arith}
use lib.ListN.{get_or}
use Rattle.rules.specs.declared.state.Interval.{Interval}
use Rattle.rules.specs.declared.state.Interval.TheVariants.{StartRed, LateStart, MinimumGreen, Running, EarlyCutOff, Yellow, AllRed}
use Rattle.rules.specs.declared.state.Stage.{Stage}
use Rattle.rules.specs.declared.state.Stage.TheVariants.{Idle, Walk, ClearanceOne, ClearanceTwo}
use Rattle.rules.specs.IntervalTable.{interval_row, intervals, stage_row, stages}
use Rattle.rules.specs.State.{idle}
use Rattle.state_forms.proofs.Lawful.{Lawful, in_order, byte-law, two-law, coded-law, held-law, row-law, both-law, made-law}
use Rattle.state_bytes.specs.Layout.{interval, stage, position, counts, demands, movement, state}

-- ── Intervals and stages by their codes ──

interval-back : (i : Interval) → get_or intervals (interval_row i).code StartRed ≡ i
interval-back StartRed = refl
interval-back LateStart = refl
interval-back MinimumGreen = refl
interval-back Running = refl
interval-back EarlyCutOff = refl
interval-back Yellow = refl
interval-back AllRed = refl

interval-law : Lawful interval
unfolding in_order
interval-law = coded-law StartRed (λ i. (interval_row i).code) intervals (omega arith) (omega arith) interval-back refl

stage-back : (s : Stage) → get_or stages (stage_row s).code Idle ≡ s
stage-back Idle = refl
stage-back Walk = refl
stage-back ClearanceOne = refl
stage-back ClearanceTwo = refl

stage-law : Lawful stage
unfolding in_order
stage-law = coded-law Idle (λ s. (stage_row s).code) stages (omega arith) (omega arith) stage-back refl

-- ── The layout, record by record ──

pub position-law : Lawful position
position-law =
    made-law (λ p. ((((p.phase, p.interval), p.age), p.previous), p.target)) _ (λ p. refl) (λ a. refl)
    (both-law (both-law (both-law (both-law byte-law interval-law) two-law) held-law) held-law)

pub counts-law : Lawful counts
counts-law = made-law _ _ (λ c. refl) (λ a. refl) (both-law two-law two-law)

pub demands-law : Lawful demands
demands-law = made-law _ _ (λ d. refl) (λ a. refl) (both-law byte-law byte-law)

pub movement-law : Lawful movement
movement-law = made-law (λ m. (m.stage, m.age)) _ (λ m. refl) (λ a. refl) (both-law stage-law two-law)

pub state-law : Lawful state
state-law =
    made-law (λ s. ((((s.core.position, s.core.counts), s.core.demands), s.core.movements), s.kept)) _ (λ s. refl) (λ a. refl)
    (both-law (both-law (both-law (both-law position-law counts-law) demands-law) (row-law movement movement-law 8 idle)) byte-law)
