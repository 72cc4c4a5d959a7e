-- The record and the kind 7 time of the personality are where the layout says.
use Rattle.std.proofs.Common.{sym, ◌∙◌, arith}
use mathlib.Core.Path.{ap₂}
use borrow.Author.Tests.{eqb-true}
use Rattle.rules.specs.Personality.{body_at}
use Rattle.site_rows.proofs.Accepted.{fitting-of}
use Rattle.site_rows.proofs.Ends.{phases-end}
use Rattle.site_whole.proofs.SameRows.{phase-own}
use Rattle.state_times.specs.TimesLayout.{phase_of}
use Rattle.state_valid.proofs.settings.is_own_phase.Goals as goal

pub overflow_mul-p : goal.overflow_mul-p
overflow_mul-p c =
    let fitting = fitting-of c.sections.view_is c.personality.view_is c.personality.invariant.0 c.sections.invariant in
    omega (arith, fitting.laid.phasecount, fitting.phases, c.requires.0)

pub overflow_add-p : goal.overflow_add-p
overflow_add-p c =
    let fitting = fitting-of c.sections.view_is c.personality.view_is c.personality.invariant.0 c.sections.invariant in
    omega (arith, fitting.laid.phasecount, fitting.phases, c.requires.0)

pub phase-requires : goal.phase-requires
unfolding body_at
phase-requires c =
    let fitting = fitting-of c.sections.view_is c.personality.view_is c.personality.invariant.0 c.sections.invariant in
    rw (c.sections.view_is, c.personality.view_is) (omega (arith, phases-end fitting, fitting.laid.phasecount, c.requires.0), c.requires.1)

pub early_in-requires : goal.early_in-requires
unfolding body_at
early_in-requires c =
    let fitting = fitting-of c.sections.view_is c.personality.view_is c.personality.invariant.0 c.sections.invariant in
    rw (c.sections.view_is, c.personality.view_is) (λ there. omega (arith, fitting.early there, fitting.laid.phasecount, c.requires.0))

pub returns-then-phase : goal.returns-then-phase
returns-then-phase c = λ t.
    rw (← c.personality.view_is, ← c.sections.view_is) (
    sym (phase-own c.sections.inside.bytes.now c.sections.inside.layout c.sections.invariant c.args.p)
    ∙ ap₂ phase_of (c.phase.ensures c.if-phase.true) (sym (eqb-true c.args.early c.early_in.result t ∙ c.early_in.ensures)))
