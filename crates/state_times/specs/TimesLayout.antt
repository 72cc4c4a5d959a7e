-- The layout of times in 148 bytes. Each time has two bytes. Any 148 bytes are times.
use Rattle.std.specs.Prelude.{ℕ, List, map, get_or}
use Rattle.rules.specs.declared.site.PhaseTimes.{PhaseTimes}
use Rattle.rules.specs.declared.site.Times.{Times}
use Rattle.rules.specs.declared.site.WalkTimes.{WalkTimes}
use Rattle.laws.specs.Folds.{list_of}
use Rattle.rules.specs.Site.{no_phase_times, no_walk_times}
use Rattle.state_forms.specs.Forms.{Form, two, row, ◌⊗◌, made}

-- L, M, X, G, Y and R of a phase: 12 bytes. Its kind 7 time stands apart.
abbrev pub Six : Type 0
Six = ((((ℕ × ℕ) × ℕ) × ℕ) × ℕ) × ℕ

abbrev pub six : Form Six
six = two ⊗ two ⊗ two ⊗ two ⊗ two ⊗ two

abbrev pub six_of : PhaseTimes → Six
six_of t = (((((t.late, t.minimum), t.maximum), t.gap), t.yellow), t.red)

abbrev pub phase_of : Six → ℕ → PhaseTimes
phase_of =
    λ (((((late, minimum), maximum), gap), yellow), red) early.
    record { late = late; minimum = minimum; maximum = maximum; gap = gap; yellow = yellow; red = red; early = early }

-- W, C1 and C2 of a movement: 6 bytes
abbrev pub walk : Form WalkTimes
walk =
    made (two ⊗ two ⊗ two) (λ t. ((t.walk, t.first), t.second))
    (λ ((walk, first), second). record { walk = walk; first = first; second = second })

abbrev pub phases : Form (List Six)
phases = row 7 (six_of no_phase_times) six

abbrev pub walks : Form (List WalkTimes)
walks = row 8 no_walk_times walk

abbrev pub earlies : Form (List ℕ)
earlies = row 7 0 two

-- start red at byte 0, the six times of each phase from 2 on, the movements from 86, the kind 7 time of each phase from 134
abbrev pub times : Form Times
times =
    made (two ⊗ phases ⊗ walks ⊗ earlies) (λ t. (((t.start, map six_of t.phases), t.walks), map (λ p. p.early) t.phases))
    (λ (((start, phases), walks), earlies).
    record { start = start; phases = list_of (λ p. phase_of (get_or phases p (six_of no_phase_times)) (get_or earlies p 0)) 7; walks = walks })
