use Rattle.std.proofs.Common.{◌≡◌, ◌<◌, suc, ℕ, length, rules, sym, ap, ◌∙◌, arith, true, false}
use mathlib.Core.Logic.{⊎_elim}
use lib.Seq.{get_or-set_same, get_or-set_other}
use lib.ListN.{length-set}
use Rattle.laws.proofs.Indices.{last-or-below}
use Rattle.laws.proofs.Lists.{row_told}
use Rattle.rules.specs.declared.site.PhaseTimes.{PhaseTimes}
use Rattle.rules.specs.Site.{no_phase_times}
use Rattle.state_times.specs.TimeRows.{phase_in}
use Rattle.state_times.proofs.phases.read.Goals as goal

-- the same record with a kind 7 time
abbrev timed : PhaseTimes → ℕ → PhaseTimes
timed t early =
    record { late = t.late; minimum = t.minimum; maximum = t.maximum; gap = t.gap; yellow = t.yellow; red = t.red; early = early }

pub loop-p-init : goal.loop-p-init
loop-p-init c =
    record {
      long = omega arith;
      timed = λ k l. absurd (omega arith);
      plain = λ k a l. search (rules, c.row-records.ensures.entries k l);
      blanks = λ k l. c.row-records.ensures.blanks k l;
    }

pub loop-p-preserved : goal.loop-p-preserved
loop-p-preserved c =
    let a = c.args in
    let p = c.loop-p.p in
    let old = c.loop-p.records in
    let plain = phase_in a.bytes.now a.at a.early false in
    let inv = c.loop-p.invariant in
    let room : p < length old = omega arith in
    let own = ap (λ (t : PhaseTimes). timed t c.two_in.result) (inv.plain p (omega arith) c.loop-p-test.true) ∙ ap (timed (plain p)) c.two_in.ensures in
    record {
      long = length-set _ _ _ ∙ inv.long;
      timed = λ k l.
          let m : k < suc p = omega arith in
          ⊎_elim
          (λ (e : k ≡ p). rw e (get_or-set_same old p _ no_phase_times room ∙ own))
          (λ (b : k < p). get_or-set_other old p k _ no_phase_times (λ e. omega arith) ∙ inv.timed k b)
          (last-or-below m);
      plain = λ k b l. get_or-set_other old p k _ no_phase_times (λ e. omega arith) ∙ inv.plain k (omega arith) l;
      blanks = λ k l. get_or-set_other old p k _ no_phase_times (λ e. omega arith) ∙ inv.blanks k l;
    }

pub returns-else-present : goal.returns-else-present
returns-else-present c =
    let a = c.args in
    let row = c.row-records in
    rw c.if-present.false
    (sym (row_told (phase_in a.bytes.now a.at a.early false) row.result a.count 7 no_phase_times (omega arith) (omega arith)
    (λ k l. sym (search (rules, row.ensures.entries k l)))
    (λ k l m. row.ensures.blanks k l)))

pub returns-after-loop-p : goal.returns-after-loop-p
returns-after-loop-p c =
    let a = c.args in
    let inv = c.loop-p.invariant in
    rw c.if-present.true
    (sym (row_told (phase_in a.bytes.now a.at a.early true) c.loop-p.records a.count 7 no_phase_times (omega arith) inv.long
    (λ k l. sym (inv.timed k (omega arith)))
    (λ k l m. inv.blanks k l)))
