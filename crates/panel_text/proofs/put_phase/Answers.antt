-- The letter is one byte, and ` holds` is put behind it.
use Rattle.std.proofs.Common.{◌+◌, [], ◌∷◌, refl, arith}
use Rattle.base_text.proofs.Puts.{put_as, put_then}
use Rattle.panel_text.proofs.Texts.{line-start}
use Rattle.panel_text.proofs.put_phase.Goals as goal

pub returns : goal.returns
returns c =
    let a = c.args in
    put_as (line-start a.phase (omega arith))
    (put_then {a = (65 + a.phase) ∷ []} {at = 0} {old = a.out.now} (record { place = refl; bytes = refl }) c.put_bytes.ensures)
