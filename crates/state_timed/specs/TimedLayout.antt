-- The layout of a timed state in 336 bytes: the state, the ruling times, a flag that is 1 if times wait and else 0, and the waiting times.
-- Another flag is no state. If none wait, whether every waiting time is 0 is a test of the valid state (`waiting_valid`) and not of the bytes;
-- both are 13.
use Rattle.std.specs.Prelude.{ℕ, Bool, true, false, ◌&&◌, List, [], ◌∷◌, eqb, length, if◌then◌else◌}
use Rattle.rules.specs.declared.site.Times.{Times}
use Rattle.rules.specs.declared.state.KeptState.{KeptState}
use Rattle.rules.specs.Timed.{TimedState, Waiting, kept_of, none_waiting}
use Rattle.state_forms.specs.Forms.{Form, coded, flag_code, ◌⊗◌, made}
use Rattle.state_bytes.specs.Layout.{state}
use Rattle.state_times.specs.TimesLayout.{times}

abbrev pub flag : Form Bool
flag = coded (false ∷ true ∷ []) false flag_code

-- the times that wait: 149 bytes
abbrev pub waiting : Form Waiting
waiting = made (flag ⊗ times) (λ w. (w.present, w.times)) (λ (present, times). record { present = present; times = times })

-- 336 bytes: the state from byte 0 on, the ruling times from 39, the flag at 187, the waiting times from 188
abbrev pub timed : Form TimedState
timed =
    made (state ⊗ times ⊗ waiting) (λ s. ((kept_of s, s.ruling), s.waiting))
    (λ ((kept, ruling), waiting). record { core = kept.core; kept = kept.kept; ruling = ruling; waiting = waiting })

abbrev pub timed_bytes : ℕ
timed_bytes = timed.width

unfoldable pub timed_encoded : TimedState → List ℕ
timed_encoded = timed.written

unfoldable pub timed_decoded : List ℕ → TimedState
timed_decoded b = timed.read b 0

unfoldable pub is_timed : List ℕ → Bool
is_timed b = eqb (length b) timed_bytes && timed.known b 0

-- each number fits its type, and there are eight movements, and seven phases and eight movements in both times
unfoldable pub ProperTimed : TimedState → Type 0
ProperTimed = timed.fits

-- ── Internal: no promise cites what follows ──

-- a state in which these times rule and none wait
abbrev pub settled : Times → KeptState → TimedState
settled ruling s = record { core = s.core; kept = s.kept; ruling = ruling; waiting = none_waiting }

-- a buffer of another length stays as it is
unfoldable pub timed_encoded_over : TimedState → List ℕ → List ℕ
timed_encoded_over s b = if eqb (length b) timed_bytes then timed_encoded s else b
