-- Internal: no promise cites this file. What the reading of kind 3 answers: its verdict and, if it is accepted, what the marks say.
use Rattle.std.specs.Prelude.{ℕ, ◌^◌, ◌<◌, List, ◌≡◌, Result, IfOk}
use Rattle.rules.specs.declared.answer.Refusal.{Refusal}
use Rattle.rules.specs.Verdicts.{Verdict, verdict as verdict_of_result}
use Rattle.laws.specs.Bytes.{bit}
use Rattle.laws.specs.Folds.{any_of}
use Rattle.rules.specs.Personality.{phase_count, group_count, movement_count, walks_phase, stops_early}
use Rattle.read_groups.specs.declared.records.Groups.{Groups}

-- a set has the phases of the pedestrian groups among the first g, and no other bit
pub record CrossedPhases (b : List ℕ) (set g : ℕ) : Type 0 where
  pub within : set < 2 ^ phase_count b
  pub told : (p : ℕ) → bit p set ≡ any_of (walks_phase b p) g

-- what the marks of the groups say
pub record MarksTold (b : List ℕ) (groups : Groups) : Type 0 where
  pub movements : groups.movements ≡ movement_count b
  pub crossed : CrossedPhases b groups.crossed (group_count b)
  pub early : groups.early ≡ any_of (stops_early b) (group_count b)

pub record GroupsRead (b : List ℕ) (answer : Verdict) (result : Result Groups Refusal) : Type 0 where
  pub verdict : verdict_of_result result ≡ answer
  pub told : IfOk result (MarksTold b)
