-- The layout of a state in bytes: the parts stand one after the other.
use Rattle.std.specs.Prelude.{ℕ, List}
use Rattle.rules.specs.declared.state.Counts.{Counts}
use Rattle.rules.specs.declared.state.Demands.{Demands}
use Rattle.rules.specs.declared.state.Interval.{Interval}
use Rattle.rules.specs.declared.state.Interval.TheVariants.{StartRed}
use Rattle.rules.specs.declared.state.KeptState.{KeptState}
use Rattle.rules.specs.declared.state.Movement.{Movement}
use Rattle.rules.specs.declared.state.Position.{Position}
use Rattle.rules.specs.declared.state.Stage.{Stage}
use Rattle.rules.specs.declared.state.Stage.TheVariants.{Idle}
use Rattle.rules.specs.IntervalTable.{interval_row, intervals, stage_row, stages}
use Rattle.rules.specs.State.{idle}
use Rattle.state_forms.specs.Forms.{Form, byte, two, coded, held, row, ◌⊗◌, made}

abbrev pub interval : Form Interval
interval = coded intervals StartRed (λ i. (interval_row i).code)

abbrev pub stage : Form Stage
stage = coded stages Idle (λ s. (stage_row s).code)

-- 8 bytes: the phase is byte 0, the interval 1, the age 2 and 3, the phase that it came from 4 and 5, the target 6 and 7
abbrev pub position : Form Position
position =
    made (byte ⊗ interval ⊗ two ⊗ held ⊗ held) (λ p. ((((p.phase, p.interval), p.age), p.previous), p.target))
    (λ ((((phase, interval), age), previous), target).
    record { phase = phase; interval = interval; age = age; previous = previous; target = target })

-- 4 bytes
abbrev pub counts : Form Counts
counts = made (two ⊗ two) (λ c. (c.gap, c.maximum)) (λ (gap, maximum). record { gap = gap; maximum = maximum })

-- 2 bytes: the set of locked phases and the set of demanded movements
abbrev pub demands : Form Demands
demands = made (byte ⊗ byte) (λ d. (d.locks, d.buttons)) (λ (locks, buttons). record { locks = locks; buttons = buttons })

-- 3 bytes
abbrev pub movement : Form Movement
movement = made (stage ⊗ two) (λ m. (m.stage, m.age)) (λ (stage, age). record { stage = stage; age = age })

abbrev pub movements : Form (List Movement)
movements = row 8 idle movement

-- 39 bytes: the position from byte 0 on, the counts from 8, the demands from 12, the movements from 14, the kept set at 38
abbrev pub state : Form KeptState
state =
    made (position ⊗ counts ⊗ demands ⊗ movements ⊗ byte)
    (λ s. ((((s.core.position, s.core.counts), s.core.demands), s.core.movements), s.kept))
    (λ ((((position, counts), demands), movements), kept).
    record { core = record { position = position; counts = counts; demands = demands; movements = movements }; kept = kept })

unfoldable pub encoded : KeptState → List ℕ
encoded = state.written
