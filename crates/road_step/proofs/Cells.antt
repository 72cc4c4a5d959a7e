-- A pass over the streams puts the traffic of one after the other.
use Prim.Native.Nat.{ℕ, ◌+◌, ◌≤◌, ◌<◌}
use mathlib.Core.List.{List}
use mathlib.Core.Logic.{⊎_elim}
use mathlib.Core.Path.{◌≡◌, refl, ap, ◌∙◌}
use lib.ListN.{length, set, length-set}
use lib.Seq.{get_or-set_same, get_or-set_other}
use native.Mathlib.Omega.{arith}
use Rattle.laws.specs.Folds.{list_of}
use Rattle.laws.proofs.Indices.{same-or-apart}
use Rattle.laws.proofs.Lists.{list_same}
use Rattle.road_streams.specs.declared.Traffic.{Traffic}
use Rattle.road_streams.specs.Road.{no_traffic, traffic_of}
use Rattle.road_step.specs.Cells.{traffic_in}

-- the first i streams are passed: they have what f makes of their traffic, and the others what they had
pub record Passed (f : ℕ → Traffic → Traffic) (old new : List Traffic) (i : ℕ) : Type 0 where
  pub same : length new ≡ length old
  pub passed : (j : ℕ) → j < i → traffic_of new j ≡ f j (traffic_of old j)
  pub left : (j : ℕ) → i ≤ j → traffic_of new j ≡ traffic_of old j

module _ {f : ℕ → Traffic → Traffic} {old : List Traffic} where
  pub passed_none : Passed f old old 0
  passed_none = record { same = refl; passed = λ j l. absurd (omega (arith, l)); left = λ j l. refl }

  pub passed-more :
      {new next : List Traffic} {i : ℕ} (t : Traffic) →
      Passed f old new i →
      i < length new →
      next ≡ set new i t →
      t ≡ f i (traffic_of new i) →
      Passed f old next (i + 1)
  unfolding traffic_of
  passed-more {new} {next} {i} t pass inside e made =
      rw e
      record {
        same = length-set new i t ∙ pass.same;
        passed =
            λ j l.
            ⊎_elim
            (λ (here : j ≡ i). rw here (get_or-set_same new i t no_traffic inside ∙ made ∙ ap (f i) (pass.left i (omega arith))))
            (λ (apart : j ≡ i → ⊥). get_or-set_other new i j t no_traffic apart ∙ pass.passed j (omega (arith, l, apart)))
            (same-or-apart j i);
        left = λ j l. get_or-set_other new i j t no_traffic (λ e. omega (arith, e, l)) ∙ pass.left j (omega (arith, l));
      }

  pub passed-all : {new : List Traffic} {i n : ℕ} → Passed f old new i → n ≤ i → traffic_in new n ≡ list_of (λ j. f j (traffic_of old j)) n
  unfolding traffic_in
  passed-all {new} {i} {n} pass l = list_same (traffic_of new) (λ j. f j (traffic_of old j)) n (λ j m. pass.passed j (omega arith))
