-- The counts after a step are within G and X of the phase then running. Part 3 keeps them within the times of the phase; only the
-- end of all-red changes the phase, and sets both counts to 0.
use Prim.Native.Nat.{ℕ, ◌+◌, ◌-◌, ◌≤◌, min}
use mathlib.Core.Bool.{Bool, true, false, ◌&&◌, ◌||◌}
use native.Mathlib.Omega.{arith}
use lib.Dec.{ltb}
use Rattle.rules.specs.declared.site.PhaseTimes.{PhaseTimes}
use Rattle.rules.specs.declared.site.Site.{Site}
use Rattle.rules.specs.declared.site.Times.{Times}
use Rattle.rules.specs.declared.state.Counts.{Counts}
use Rattle.rules.specs.declared.state.Interval.{Interval}
use Rattle.rules.specs.declared.state.Interval.TheVariants.{StartRed, LateStart, MinimumGreen, Running, EarlyCutOff, Yellow, AllRed}
use Rattle.rules.specs.declared.state.Position.{Position}
use Rattle.rules.specs.declared.state.State.{State}
use Rattle.std.specs.Prelude.{if◌then◌else◌, Option}
use Rattle.rules.specs.Site.{phase_times}
use Rattle.rules.specs.IntervalTable.{is_green, is_running, phase_held}
use Rattle.rules.specs.Demands.{detected, extending, next_demanded}
use Rattle.rules.specs.Counts.{gap_after, maximum_after, counts_after}
use Rattle.rules.specs.Interval.{entering, starting, leaving, following, staying, position_after, counts_leaving, counts_entering, counts_changed}
use Rattle.proof_runs.proofs.ValidStates.{ValidState}
use Rattle.proof_runs.proofs.Steps.{another, counted, ended, now}

-- the counts are at most G and X
abbrev pub Within : PhaseTimes → Counts → Type 0
Within times counts = (counts.gap ≤ times.gap) × (counts.maximum ≤ times.maximum)

-- ── Part 3 ──

module _ (times : PhaseTimes) where
  gap_within :
      (green extended : Bool) (gap : ℕ) →
      gap ≤ times.gap →
      (if green then (if extended then times.gap else gap - 1) else gap) ≤ times.gap
  gap_within true true gap h = omega arith
  gap_within true false gap h = omega arith
  gap_within false extended gap h = h

  maximum-within :
      (rises : Bool) (maximum : ℕ) →
      maximum ≤ times.maximum →
      (if rises then min (maximum + 1) times.maximum else maximum) ≤ times.maximum
  maximum-within true maximum h = omega arith
  maximum-within false maximum h = h

  counted-within :
      (interval : Interval) (extended another : Bool) (counts : Counts) →
      Within times counts →
      Within times (counts_after interval times extended another counts)
  unfolding counts_after gap_after maximum_after
  counted-within interval extended another counts h = (
    gap_within (is_green interval) extended counts.gap h.0,
    maximum-within (is_running interval && (another || ltb 0 counts.maximum)) counts.maximum h.1,
  )

  -- ── Part 4 ──

  entering-within : (interval : Interval) (counts : Counts) → Within times counts → Within times (counts_entering interval times counts)
  unfolding counts_entering
  entering-within StartRed counts h = h
  entering-within LateStart counts h = h
  entering-within MinimumGreen counts h = (omega arith, h.1)
  entering-within Running counts h = (h.0, omega arith)
  entering-within EarlyCutOff counts h = h
  entering-within Yellow counts h = h
  entering-within AllRed counts h = h

  zero-within : Within times (record { gap = 0; maximum = 0 })
  zero-within = (omega arith, omega arith)

module _ (times : Times) (next : Option ℕ) (old : Position) (counts : Counts) (within : Within (phase_times times old.phase) counts) where
  -- the counts that an interval leaves are within the times of the phase that is then running
  leaving-within :
      (interval : Interval) → Within (phase_times times (following interval times next old).phase) (counts_leaving interval counts)
  unfolding following leaving entering starting counts_leaving
  leaving-within StartRed = within
  leaving-within LateStart = within
  leaving-within MinimumGreen = within
  leaving-within Running = within
  leaving-within EarlyCutOff = within
  leaving-within Yellow = within
  leaving-within AllRed = zero-within (phase_times times (phase_held old.target))

  -- and so are the counts after part 4
  changed-within :
      (ended : Bool) →
      let new = position_after ended times next old in
      Within (phase_times times new.phase) (counts_changed ended times old new counts)
  unfolding position_after staying counts_changed
  changed-within true =
      let new = following old.interval times next old in
      entering-within (phase_times times new.phase) new.interval (counts_leaving old.interval counts) (leaving-within old.interval)
  changed-within false = within

pub next-counts :
    (site : Site) (s : State) (inputs : ℕ) →
    ValidState site s →
    Within
    (phase_times site.times (now site s inputs).phase)
    (counts_changed (ended site s inputs) site.times s.position (now site s inputs) (counted site s inputs))
unfolding now counted
next-counts site s inputs v =
    changed-within site.times (next_demanded site s inputs) s.position (counted site s inputs)
    (counted-within
    (phase_times site.times s.position.phase)
    s.position.interval
    (detected extending site inputs s.position.phase)
    (another site s inputs)
    s.counts
    (v.gap, v.maximum))
    (ended site s inputs)
