-- The ring of a site is the first entries of its row of the running order.
use Rattle.std.proofs.Common.{◌≡◌, ℕ, List, length, get_or, take, sym, ◌∙◌}
use Rattle.std.proofs.lemmas.List.{get_or-take}
use Rattle.rules.specs.Site.{ring}
use Rattle.laws.proofs.Lists.{list_same, listed}

pub ring-taken : (order : List ℕ) (n : ℕ) → length (take n order) ≡ n → take n order ≡ ring order n
unfolding ring
ring-taken order n whole =
    sym
    (list_same (λ i. get_or order i 0) (λ i. get_or (take n order) i 0) n (λ i l. sym (get_or-take n order i 0 l))
    ∙ listed (take n order) n 0 whole)
