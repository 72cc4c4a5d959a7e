-- The personality's own times are in the table.
use Rattle.std.proofs.Common.{◌≡◌, true, sym, ◌∙◌, arith}
use mathlib.Core.Path.{subst}
use borrow.Author.Tests.{lt-ltb}
use Rattle.rules.specs.declared.site.WalkTimes.{WalkTimes}
use Rattle.rules.specs.Limits.{limits}
use Rattle.rules.specs.Personality.{body_at, edition_of, movement_count}
use Rattle.rules.specs.SiteTimes.{walk_within}
use Rattle.site_rows.proofs.Accepted.{fitting-of}
use Rattle.site_whole.proofs.SameRows.{walk-own}
use Rattle.state_valid.proofs.OwnTimes.{own-walk}
use Rattle.state_valid.proofs.settings.walk_admitted.Goals as goal

pub walk-requires : goal.walk-requires
unfolding body_at
walk-requires c =
    let fitting = fitting-of c.sections.view_is (c.personality.view_is ∙ c.own.view_is) c.personality.invariant.0 c.sections.invariant in
    let held = rw (c.personality.view_is, c.own.view_is) at c.personality.invariant.1 in
    rw (c.sections.view_is, c.personality.view_is, c.own.view_is)
    (omega (arith, fitting.whole, held, c.if-k-personality.true), omega (arith, c.requires.0, c.requires.1))

pub returns-then-walk : goal.returns-then-walk
returns-then-walk c =
    let b = c.args.own.now in
    let fitting = fitting-of c.sections.view_is (c.personality.view_is ∙ c.own.view_is) c.personality.invariant.0 c.sections.invariant in
    let same = sym (walk-own b c.sections.inside.layout fitting.laid c.args.k)
    ∙ (rw (c.sections.view_is, c.personality.view_is, c.own.view_is) at (c.walk.ensures c.if-walk.true)) in
    let below = rw (c.personality.invariant.1, c.personality.view_is, c.own.view_is) at c.if-k-personality.true in
    rw (c.if-walk.true, lt-ltb c.args.k (movement_count b) below)
    (sym
    (subst (λ (t : WalkTimes). walk_within (limits (edition_of b)) t ≡ true) same
    (own-walk b (rw (c.personality.view_is, c.own.view_is) at c.personality.invariant.0) c.args.k below)))
