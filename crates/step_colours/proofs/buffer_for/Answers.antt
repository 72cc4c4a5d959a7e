-- What the site's groups show of the state's position and movements is the colours of the state.
use Rattle.std.proofs.Common.{ℕ, List, ◌++◌, length, drop, ap, ◌∙◌}
use Rattle.rules.specs.Laws.{Sound}
use Rattle.rules.specs.Colours.{shown_in, colours_of, buffer_at}
use Rattle.rules.specs.Call.{buffer_for}
use Rattle.laws.proofs.Lists.{list_same}
use Rattle.step_colours.proofs.Sizes.{colour-taken, showable}
use Rattle.step_colours.proofs.Unclosed.{closing-there}
use Rattle.step_colours.proofs.buffer_for.Goals as goal

pub buffer_at-requires : goal.buffer_at-requires
buffer_at-requires c =
    let groups = c.groups.ensures in
    showable c.args.site.now (length c.args.buffer.now) (rw c.site.view_is at c.site.invariant) _ groups.row groups.count c.requires

pub returns : goal.returns
unfolding buffer_for colours_of shown_in buffer_at
returns c =
    let site = c.args.site.now in
    let state = c.args.state in
    let n = site.size.groups in
    let sound : Sound site = rw c.site.view_is at c.site.invariant in
    c.buffer_at.ensures
    ∙ rw (rw c.site.view_is at c.closing_there.ensures, c.groups.ensures.count, c.groups.ensures.row)
    (ap (λ (l : List ℕ). l ++ drop n c.args.buffer.now)
    (list_same _ (shown_in site state) n (λ g l. colour-taken site.groups n _ _ _ g l ∙ closing-there site sound state g)))
