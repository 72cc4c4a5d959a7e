-- What holds of each entry of a list and of the entries after it holds at a split of the list.
use mathlib.Core.List.{List, [], ◌∷◌, ◌++◌}
use mathlib.Core.Path.{◌≡◌, subst}

abbrev pub Each : {A : Type 0} → (A → List A → Type 0) → List A → Type 0
Each P [] = Unit {0}
Each P (x ∷ later) = P x later × Each P later

module _ {A : Type 0} (P : A → List A → Type 0) where
  past : (earlier later : List A) (x : A) → Each P (earlier ++ x ∷ later) → P x later
  past [] later x each = each.0
  past (first ∷ earlier) later x each = past earlier later x each.1

  pub each_at : (l earlier later : List A) (x : A) → l ≡ earlier ++ x ∷ later → Each P l → P x later
  each_at l earlier later x split each = past earlier later x (subst (λ (l : List A). Each P l) split each)
