-- Rows by index: what is said of the things 0 to n - 1, the last one outermost.
use Rattle.std.specs.Prelude.{ℕ, zero, suc, ◌+◌, ◌-◌, ◌^◌, max, Bool, true, false, ◌&&◌, ◌||◌, List, [], ◌∷◌, ◌++◌, replicate, if◌then◌else◌}

-- some index below n passes
unfoldable pub any_of : (ℕ → Bool) → ℕ → Bool
any_of f zero = false
any_of f (suc n) = any_of f n || f n

-- every index below n passes
unfoldable pub all_of : (ℕ → Bool) → ℕ → Bool
all_of f zero = true
all_of f (suc n) = all_of f n && f n

-- how many indices below n pass
unfoldable pub count_of : (ℕ → Bool) → ℕ → ℕ
count_of f zero = 0
count_of f (suc n) = count_of f n + (if f n then 1 else 0)

-- f 0 + .. + f (n - 1)
unfoldable pub sum_of : (ℕ → ℕ) → ℕ → ℕ
sum_of f zero = 0
sum_of f (suc n) = sum_of f n + f n

-- the set of the indices below 8 that pass, as one byte: bit 0 is the lowest
unfoldable pub set_of : (ℕ → Bool) → ℕ
set_of f = sum_of (λ i. if f i then 2 ^ i else 0) 8

-- the greatest of f 0 .. f (n - 1), or 0 if n is 0
unfoldable pub greatest_of : (ℕ → ℕ) → ℕ → ℕ
greatest_of f zero = 0
greatest_of f (suc n) = max (greatest_of f n) (f n)

-- f 0, .., f (n - 1)
unfoldable pub list_of {ℓ} : {A : Type ℓ} → (ℕ → A) → ℕ → List A
list_of f zero = []
list_of f (suc n) = list_of f n ++ (f n ∷ [])

-- the indices below n that pass, in order
unfoldable pub indices_of : (ℕ → Bool) → ℕ → List ℕ
indices_of f zero = []
indices_of f (suc n) = indices_of f n ++ (if f n then n ∷ [] else [])

-- f 0 .. f (n - 1), and blanks up to the room
unfoldable pub row_of {ℓ} : {A : Type ℓ} → (ℕ → A) → ℕ → ℕ → A → List A
row_of f n room blank = list_of f n ++ replicate (room - n) blank
