-- The part that is cut is the first entries of the row.
use Rattle.std.proofs.Common.{◌∙◌}
use Rattle.site_sound.proofs.Ring.{ring-taken}
use Rattle.site_sound.proofs.SoundSite.ring.Goals as goal

pub returns : goal.returns
returns c =
    let cut = c.split_at.ensures in
    rw (← c.self.view_is, ← c.from.ensures)
    (cut.front ∙ ring-taken c.self.inside.site.order c.from.result (rw cut.front at cut.front_len))
