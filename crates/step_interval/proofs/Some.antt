-- The end of an interval by the movements: records that are idle add nothing to the question whether some movement is in a stage.
use Rattle.std.proofs.Common.{◌≡◌, ℕ, ◌≤◌, Bool, false, ◌||◌, List, length, get_or, take, zero, suc, refl, sym, ap, ◌∙◌, add-one, arith}
use Rattle.std.specs.List.{list_any}
use Rattle.std.proofs.lemmas.List.Folds.{list_any_more}
use Rattle.rules.specs.declared.state.Movement.{Movement}
use Rattle.rules.specs.declared.state.Stage.{Stage}
use Rattle.rules.specs.declared.state.Stage.TheVariants.{Idle}
use Rattle.laws.specs.Folds.{any_of}
use Rattle.rules.specs.State.{idle}
use Rattle.rules.specs.Interval.{some_movement}
use Rattle.laws.proofs.Folds.{any-past}
use Rattle.step_movements.specs.IdlePast.{IdlePast}

-- some of the first n entries passes
any-first : {A : Type 0} (p : A → Bool) (xs : List A) (d : A) (n : ℕ) → n ≤ length xs → list_any p (take n xs) ≡ any_of (λ k. p (get_or xs k d)) n
unfolding any_of
any-first p xs d zero h = refl
any-first p xs d (suc n) h =
    ap (λ (k : ℕ). list_any p (take k xs)) (sym (add-one n))
    ∙ list_any_more p xs n d (omega arith)
    ∙ ap (λ (b : Bool). b || p (get_or xs n d)) (any-first p xs d n (omega arith))

-- a test that an idle movement fails is settled by the movements that the site has
pub some_counted :
    (test : Stage → Bool) (movements : List Movement) (count : ℕ) →
    length movements ≡ 8 →
    IdlePast count movements →
    test Idle ≡ false →
    list_any (λ m. test m.stage) (take count movements) ≡ some_movement test movements
unfolding some_movement
some_counted test movements count eight known fails =
    any-first (λ m. test m.stage) movements idle count (omega (arith, known.room))
    ∙ any-past (λ k. test (get_or movements k idle).stage) count 8 known.room (λ k a b. ap test (known.past k a b) ∙ fails)
