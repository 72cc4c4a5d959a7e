-- Code that stops at the first refusal, for the tactics: a check by its test, one check and then the others, and a row of checks.
use Rattle.std.specs.Prelude.{Result, Ok, Err}
use Prim.Native.Nat.{ℕ, ◌+◌, ◌<◌}
use mathlib.Core.Bool.{Bool, true, false}
use mathlib.Core.Path.{◌≡◌, refl, sym}
use Rattle.rules.specs.Types.{Verdict, Accepted, Refused, Refusal}
use Rattle.rules.specs.Verdicts.{verdict, ◌or_else◌, refuse_if, first_of}
use Rattle.rules.proofs.Verdicts.{first_more, first-stop}

pub refuse_made : {t : Bool} (n p : ℕ) → t ≡ true → refuse_if t n p ≡ Refused n p
unfolding refuse_if
refuse_made n p e = rw e

pub refuse_passed : {t : Bool} (n p : ℕ) → t ≡ false → refuse_if t n p ≡ Accepted
unfolding refuse_if
refuse_passed n p e = rw e

pub or_passed : {a : Verdict} (b : Verdict) → a ≡ Accepted → (a or_else b) ≡ b
unfolding ◌or_else◌
or_passed b e = rw e

pub or_stopped : {a : Verdict} (b : Verdict) {r : Refusal} → a ≡ Err r → (a or_else b) ≡ Err r
unfolding ◌or_else◌
or_stopped b e = rw e

pub row_none : (f : ℕ → Verdict) → first_of f 0 ≡ Accepted
unfolding first_of
row_none f = refl

pub row_more : (f : ℕ → Verdict) (i : ℕ) → first_of f i ≡ Accepted → f i ≡ Accepted → first_of f (i + 1) ≡ Accepted
row_more = first_more

pub row_stopped : (f : ℕ → Verdict) (n i : ℕ) {r : Refusal} → i < n → first_of f i ≡ Accepted → f i ≡ Err r → first_of f n ≡ Err r
row_stopped f n i {r} l before here = sym (first-stop f n i {v = Err r} l before (sym here) refl)

-- the verdict of a check that also finds something
pub verdict_ok : {A : Type 0} {v : Result A Refusal} {a : A} → v ≡ Ok a → verdict v ≡ Accepted
unfolding verdict
verdict_ok e = rw e

pub verdict_err : {A : Type 0} {v : Result A Refusal} {r : Refusal} → v ≡ Err r → verdict v ≡ Err r
unfolding verdict
verdict_err e = rw e

pub ruleset checks = (refuse_made, refuse_passed, or_passed, or_stopped, row_none, row_more, row_stopped, verdict_ok, verdict_err)
