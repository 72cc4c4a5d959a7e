-- Past the checks the road may start.
use Rattle.std.proofs.Common.{sym, ap, ◌∙◌, ◌≡◌}
use Rattle.rules.specs.declared.site.Site.{Site}
use Rattle.rules.specs.Verdicts.{Accepted, verdict}
use Rattle.rules.specs.Personality.{verdict_of}
use Rattle.rules.specs.Site.{site_of}
use Rattle.road_streams.specs.Road.{bad_streams}
use Rattle.run_road.proofs.site_for.Goals as goal
use Rattle.run_road.proofs.site_for.Goals.{In_ok-p, After-sound_site_of-site}

accepted : (c : In_ok-p) → verdict_of c.args.personality.now ≡ Accepted
unfolding verdict
accepted c = sym c.in_ok-p.ensures.verdict

placed : (c : After-sound_site_of-site) → c.sound_site_of-site.result ≡ site_of c.args.personality.now
placed c = rw c.in_ok-p.ensures.bytes at c.sound_site_of-site.ensures

pub returns : goal.returns
returns c =
    let a = c.args in
    let at = goal.at.returns c in
    record {
      b = a.personality.now;
      start =
          record {
            read = accepted at.In_ok-p;
            place = placed at.After-sound_site_of-site;
            known = ap (λ (s : Site). bad_streams s a.streams.now a.steps) (sym (placed at.After-sound_site_of-site)) ∙ sym c.bad_streams.ensures ∙ c.if-bad_streams.false;
          };
    }
