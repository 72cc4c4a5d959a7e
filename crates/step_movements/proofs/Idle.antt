-- The records past the movements that a site has are idle, and a step leaves them as they are.
use Rattle.std.proofs.Common.{◌≡◌, ℕ, ◌+◌, ◌≤◌, ◌<◌, Bool, List, ◌++◌, length, get_or, take, drop, set, sym, ap, ◌∙◌, arith}
use Rattle.std.proofs.Math.ListN.{drop_of_length-le}
use Rattle.std.proofs.lemmas.List.{get_or-take, length-take, length-take-le, append-nil}
use Rattle.laws.specs.Folds.{list_of}
use Rattle.laws.proofs.Arrays.{Filled, fill-boundary, fill_step, fill-kept}
use Rattle.rules.specs.declared.site.Times.{Times}
use Rattle.rules.specs.declared.site.WalkTimes.{WalkTimes}
use Rattle.rules.specs.declared.state.Movement.{Movement}
use Rattle.rules.specs.declared.state.Stage.TheVariants.{Idle}
use Rattle.rules.specs.Site.{no_walk_times, walk_times}
use Rattle.rules.specs.State.{idle}
use Rattle.rules.specs.Movements.{advanced, movements_after}
use Rattle.laws.proofs.Lists.{entry-same, list_at}
use Rattle.step_movements.specs.IdlePast.{IdlePast}

stays : (may_end : Bool) (m : Movement) (times : WalkTimes) → m.stage ≡ Idle → m ≡ advanced may_end m.stage times m.age
unfolding advanced
stays may_end m times e = rw e

module _ (settings : List WalkTimes) (may_end : Bool) (movements : List Movement) where
  -- movement k, a step on
  abbrev pub after : ℕ → Movement
  after k = advanced may_end (get_or movements k idle).stage (get_or settings k no_walk_times) (get_or movements k idle).age

  pub idle-stays : (k : ℕ) → (get_or movements k idle).stage ≡ Idle → get_or movements k idle ≡ after k
  idle-stays k e = stays may_end (get_or movements k idle) (get_or settings k no_walk_times) e

  pub past-stays : (count : ℕ) → IdlePast count movements → (k : ℕ) → count ≤ k → k < 8 → get_or movements k idle ≡ after k
  past-stays count known k a b = idle-stays k (known.past k a b)

  -- the site's own movements, filled one by one
  abbrev pub Passed : ℕ → List Movement → ℕ → Type 0
  Passed n items k = Filled after (take n movements) items k

  pub pass_more :
      (n k : ℕ) (items : List Movement) (d e : Movement) →
      Passed n items k →
      k < length (take n movements) →
      e ≡ advanced may_end (get_or items k d).stage (get_or settings k no_walk_times) (get_or items k d).age →
      Passed n (set items k e) (k + 1)
  pass_more n k items d e passed h same =
      let inside : (k < n) × (k < length movements) = (omega (arith, length-take n movements), omega (arith, length-take n movements)) in
      let entry : get_or items k d ≡ get_or movements k idle =
      fill-boundary d k passed h ∙ get_or-take n movements k d inside.0 ∙ entry-same movements k d idle inside.1 in
      fill_step passed h (same ∙ ap (λ (m : Movement). advanced may_end m.stage (get_or settings k no_walk_times) m.age) entry)

  pub pass_done :
      (n k : ℕ) (items : List Movement) →
      length movements ≡ 8 →
      IdlePast n movements →
      Passed n items k →
      k ≤ length (take n movements) →
      length (take n movements) ≤ k →
      items ++ drop n movements ≡ list_of after 8
  pass_done n k items eight known passed a b =
      let own : length (take n movements) ≡ n = length-take-le n movements (omega (arith, known.room)) in
      let front : items ≡ list_of after n =
      passed.told ∙ rw (drop_of_length-le (take n movements) {i = k} b) (append-nil (list_of after k) ∙ ap (list_of after) (omega arith)) in
      fill-kept idle n 8 (record { told = ap (λ (l : List Movement). l ++ drop n movements) front }) eight known.room
      (λ i low high. past-stays n known i low high)

pub still-past :
    (times : Times) (may_end : Bool) (movements : List Movement) (count : ℕ) →
    IdlePast count movements →
    IdlePast count (movements_after times may_end movements)
unfolding movements_after walk_times
still-past times may_end movements count known =
    record {
      room = known.room;
      past = λ k a b.
          ap (λ (m : Movement). m.stage)
          (list_at (after times.walks may_end movements) 8 k idle b ∙ sym (past-stays times.walks may_end movements count known k a b))
          ∙ known.past k a b;
    }
