-- A verdict is acceptance, or a refusal with its number and place. Of several checks in order, the first refusal is the verdict. The outcome of a
-- step call is the wait bound of the site in steps, or a refusal.
use Rattle.std.specs.Prelude.{ℕ, zero, suc, Bool, if◌then◌else◌, Result, Ok, Err}
use Rattle.rules.specs.declared.answer.Refusal.{Refusal}

abbrev pub Verdict : Type 0
Verdict = Result (Unit {0}) Refusal

abbrev pub Accepted : Verdict
Accepted = Ok tt

abbrev pub Refused : ℕ → ℕ → Verdict
Refused number place = Err (record { number = number; place = place })

abbrev pub Outcome : Type 0
Outcome = Result ℕ Refusal

abbrev pub Stepped : ℕ → Outcome
Stepped wait = Ok wait

abbrev pub StepRefused : ℕ → ℕ → Outcome
StepRefused number place = Err (record { number = number; place = place })

-- the verdict of a check that also finds something
unfoldable pub verdict : {A : Type 0} → Result A Refusal → Verdict
verdict (Ok _) = Accepted
verdict (Err r) = Err r

infixr 5 ◌or_else◌
unfoldable pub ◌or_else◌ : Verdict → Verdict → Verdict
Ok _ or_else later = later
Err r or_else later = Err r

unfoldable pub refuse_if : Bool → ℕ → ℕ → Verdict
refuse_if test number place = if test then Refused number place else Accepted

-- the first refusal of f 0 .. f (n - 1)
unfoldable pub first_of : (ℕ → Verdict) → ℕ → Verdict
first_of f zero = Accepted
first_of f (suc n) = first_of f n or_else f n
