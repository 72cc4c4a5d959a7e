-- The times in the bytes are admitted, so they are those of the site, and the site under them is sound.
use Rattle.std.proofs.Common.{◌∙◌}
use mathlib.Core.Path.{subst⁻¹}
use Rattle.rules.specs.Laws.{Sound}
use Rattle.state_valid.proofs.StateTimes.{under-same, under-sound}
use Rattle.state_valid.proofs.site_under.Goals as goal

pub returns : goal.returns
returns c =
    let a = c.args in
    let accepted = rw c.personality.view_is at c.personality.invariant.0 in
    rw c.of-fitted.ensures at c.site_in.ensures ∙ under-same a.personality.now a.bytes.now a.at accepted c.requires.1

pub invariant_of-result : goal.invariant_of-result
invariant_of-result c =
    let a = c.args in
    let accepted = rw c.personality.view_is at c.personality.invariant.0 in
    let same = rw c.of-fitted.ensures at c.site_in.ensures ∙ under-same a.personality.now a.bytes.now a.at accepted c.requires.1 in
    subst⁻¹ Sound same (under-sound a.personality.now a.bytes.now a.at accepted c.requires.1)
