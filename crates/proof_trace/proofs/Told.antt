-- The records of any controller print what its calls tell that it took. So two controllers that take every list of calls alike print alike.
use Prim.Native.Nat.{ℕ, zero, suc}
use mathlib.Core.Bool.{true, false}
use mathlib.Core.List.{List, [], ◌∷◌, append-nil}
use mathlib.Core.Logic.{⊎_elim}
use mathlib.Core.Path.{◌≡◌, refl, sym, ap, ◌∙◌}
use native.Mathlib.Omega.{arith}
use lib.Dec.{eqb, ltb}
use lib.ListN.{length, take, drop}
use borrow.Author.Tests.{ltb-false, ne_eqb}
use Rattle.std.specs.Prelude.{if◌then◌else◌}
use Rattle.laws.proofs.Booleans.{decided}
use Rattle.rules.specs.Personality.{group_count}
use Rattle.rules.specs.Runs.{Controller, Call, step_call, Taken, step_taken, retime_taken, step_of, next_of, taken_from}
use Rattle.rules.specs.Trace.{Part, goes_on, ◌and_then◌, cut, record_part, call_in, step_part, records_from}

-- ── A record ──

-- a whole one prints what its call prints
pub whole : (bytes : List ℕ) (called : Part) → ltb (length bytes) 8 ≡ false → record_part bytes called ≡ called
unfolding record_part
whole bytes called e = rw (ne_eqb (length bytes) 0 (λ z. omega (arith, ltb-false (length bytes) 8 e)), e)

-- a cut one, or none at all, ends the trace, whatever its call would print
pub ending :
    (bytes : List ℕ) (called : Part) (later : List ℕ) →
    ltb (length bytes) 8 ≡ true →
    record_part bytes called and_then later ≡ (record_part bytes (goes_on [])).text
unfolding record_part ◌and_then◌ cut
ending bytes called later e =
    ⊎_elim
    (λ (empty : eqb (length bytes) 0 ≡ true). rw empty)
    (λ (some : eqb (length bytes) 0 ≡ false). rw (some, e) (append-nil _))
    (decided (eqb (length bytes) 0))

-- ── A list of records ──

-- the calls of the whole ones
unfoldable calls_in : ℕ → List ℕ → List Call
calls_in zero input = []
calls_in (suc most) input =
    if ltb (length (take 8 input)) 8 then [] else step_call (call_in (take 8 input)) ∷ calls_in most (drop 8 input)

-- what is printed behind them
unfoldable end_of : ℕ → List ℕ → List ℕ
end_of zero input = []
end_of (suc most) input =
    if ltb (length (take 8 input)) 8 then (record_part (take 8 input) (goes_on [])).text else end_of most (drop 8 input)

-- what calls print, taken from step n on, with a given end
unfoldable told : ℕ → ℕ → List ℕ → List Taken → List ℕ
told groups n end [] = end
told groups n end (step_taken step ∷ later) = step_part groups n step and_then told groups (suc n) end later
told groups n end (retime_taken new verdict ∷ later) = told groups n end later

records-told :
    {S : Type 0} (controller : Controller S) (b : List ℕ) (most n : ℕ) (s : S) (input : List ℕ) →
    records_from controller b most n s input ≡ told (group_count b) n (end_of most input) (taken_from controller b s (calls_in most input))
unfolding records_from told end_of calls_in taken_from
records-told controller b zero n s input = refl
records-told controller b (suc most) n s input =
    let bytes = take 8 input in
    let called = step_part (group_count b) n (step_of controller b s (call_in bytes)) in
    ⊎_elim
    (λ (short : ltb (length bytes) 8 ≡ true). rw short (ending bytes called _ short))
    (λ (full : ltb (length bytes) 8 ≡ false).
    rw (full, whole bytes called full)
    (ap (λ (later : List ℕ). called and_then later)
    (records-told controller b most (suc n) (next_of controller b s (call_in bytes)) (drop 8 input))))
    (decided (ltb (length bytes) 8))

pub records-alike :
    {S T : Type 0} (one : Controller S) (other : Controller T) (b : List ℕ) (s : S) (t : T) →
    ((calls : List Call) → taken_from one b s calls ≡ taken_from other b t calls) →
    (most n : ℕ) (input : List ℕ) →
    records_from one b most n s input ≡ records_from other b most n t input
records-alike one other b s t alike most n input =
    records-told one b most n s input
    ∙ ap (told (group_count b) n (end_of most input)) (alike (calls_in most input))
    ∙ sym (records-told other b most n t input)
