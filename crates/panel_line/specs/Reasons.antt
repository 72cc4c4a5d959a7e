-- The reasons of a line, in their order.
use Rattle.std.specs.Prelude.{ℕ, zero, suc, Bool, List, [], ◌∷◌, ◌++◌, ltb, if◌then◌else◌}
use Rattle.laws.specs.Bytes.{bit}
use Rattle.panel_text.specs.declared.Reason.{Reason}
use Rattle.panel_text.specs.declared.Reason.TheVariants.{NoOtherDemand, Gap, Max, Walk}
use Rattle.panel_text.specs.Text.{line}
use Rattle.panel_line.specs.declared.Why.{Why}

-- a reason is told if it is true
unfoldable pub told : Bool → Reason → List Reason
told test reason = if test then reason ∷ [] else []

-- those of the first n movements that pass, rising; movement k, counted from 0, has the number k + 1
unfoldable pub walks : (ℕ → Bool) → ℕ → List Reason
walks walking zero = []
walks walking (suc k) = walks walking k ++ told (walking k) (Walk (suc k))

-- whether no other phase is demanded, the gap count, the steps left, and whether movement k is in walk or C1
unfoldable pub reasons_by : Bool → ℕ → ℕ → (ℕ → Bool) → List Reason
reasons_by alone gap left walking =
    told alone NoOtherDemand ++ told (ltb 0 gap) (Gap gap) ++ told (ltb 0 left) (Max left) ++ walks walking 8

unfoldable pub line_of : Why → List ℕ
line_of why = line why.phase (reasons_by why.alone why.gap why.left (λ k. bit k why.walks))
