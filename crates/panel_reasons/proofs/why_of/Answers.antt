-- Each part of the line is what the rules say of the state.
use Rattle.std.proofs.Common.{◌-◌, refl, ap, arith}
use Rattle.rules.specs.declared.site.PhaseTimes.{PhaseTimes}
use Rattle.panel_reasons.proofs.Holdings.{holding-valid, line-told}
use Rattle.panel_reasons.proofs.why_of.Goals as goal

-- the maximum count of a valid state is at most X
pub overflow_sub-result : goal.overflow_sub-result
overflow_sub-result c =
    let given = ap (λ (t : PhaseTimes). t.maximum) (rw c.site.view_is at c.phase_times-own.ensures) in
    omega (arith, given, (holding-valid c.requires).maximum)

pub returns : goal.returns
returns c =
    let a = c.args in
    record {
      line =
          line-told a.site.now a.state a.inputs _
          (record {
            running = c.requires.running;
            phase = refl;
            alone = c.no_other.ensures;
            gap = refl;
            left = ap (λ (t : PhaseTimes). t.maximum - a.state.core.counts.maximum) (rw c.site.view_is at c.phase_times-own.ensures);
            walks = c.walking.ensures;
          });
      phase = omega (arith, (holding-valid c.requires).phase, c.requires.sound.phases.1);
    }
