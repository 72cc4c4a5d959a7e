-- The outputs of a personality turn to a colour if the call is accepted, and else stay.
use Prim.Native.Nat.{ℕ, ◌+◌, ◌≤◌}
use mathlib.Core.List.{List, ◌++◌}
use mathlib.Core.Path.{◌≡◌}
use native.Mathlib.Omega.{arith}
use lib.ListN.{length, take, drop, replicate, length-take, length-drop, length-replicate}
use Rattle.rules.specs.Verdicts.{Verdict, Accepted}
use Rattle.rules.specs.Call.{handed_back}
use Rattle.cabinet_records.specs.Cabinet.{outputs_of}
use Rattle.cabinet_held.specs.Held.{turned}
use Rattle.cabinet_held.proofs.Bytes.{part-back}

pub turned-filled :
    {v : Verdict} (colour : ℕ) (b : List ℕ) (first : ℕ) (out : List ℕ) {start n : ℕ} {filled : List ℕ} →
    v ≡ Accepted →
    start ≡ first →
    n ≡ outputs_of b →
    first + outputs_of b ≤ length out →
    filled ≡ replicate (length (take n (drop start out))) colour →
    take start out ++ (filled ++ drop n (drop start out)) ≡ turned v colour b first out
unfolding turned handed_back
turned-filled colour b first out {start} {n} accepted begins count fits same =
    let size : length (take n (drop start out)) ≡ outputs_of b = omega (arith, begins, count, fits, length-take n (drop start out), length-drop start out) in
    rw (same, size, begins, count, accepted)
    (part-back out first (outputs_of b) (replicate (outputs_of b) colour) (length-replicate (outputs_of b) colour))
