-- The two states byte by byte are computed.
use mathlib.Core.Path.{refl}
use Rattle.rules.specs.IntervalTable.{is_held, phase_held}
use Rattle.rules.specs.State.{fresh}
use Rattle.rules.specs.Kept.{fresh_kept}
use Rattle.state_forms.specs.Forms.{parts_of}
use Rattle.state_bytes.specs.Layout.{encoded}
use Rattle.state_bytes.specs.StateCases.{FreshBytes, LeavingBytes}

pub fresh-bytes : FreshBytes
unfolding encoded fresh_kept fresh parts_of is_held phase_held
fresh-bytes = refl

pub leaving-bytes : LeavingBytes
unfolding encoded parts_of is_held phase_held
leaving-bytes = refl
