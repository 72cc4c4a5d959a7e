-- The site of an accepted personality is sound.
use Rattle.std.proofs.Common.{ap, ◌∙◌}
use mathlib.Core.Path.{subst⁻¹}
use Rattle.rules.specs.Laws.{Sound, AcceptedIsSound}
use Rattle.rules.specs.Site.{site_of}
use Rattle.proof_acceptance.proofs.Acceptance.{accepted-is-sound}
use Rattle.site_whole.proofs.sound_site_of.Goals as goal

pub invariant_of-result : goal.invariant_of-result
unfolding AcceptedIsSound
invariant_of-result c =
    let same = c.site_of.ensures ∙ ap site_of c.of.ensures in
    subst⁻¹ Sound same (accepted-is-sound c.args.p.now (rw c.p.view_is at c.p.invariant.0))
