use Rattle.base_text.proofs.Puts.{put_as, put_then}
use Rattle.panel_text.proofs.put_reason.Goals as goal

pub returns-in-Some : goal.returns-in-Some
returns-in-Some c =
    let told = rw c.in-Some.is at c.parts_of-number.ensures.text in
    put_as told (put_then c.put_bytes-next.ensures c.put_decimal.ensures)
