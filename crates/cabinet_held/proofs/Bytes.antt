-- A part of a buffer that is stored back.
use Prim.Native.Nat.{ℕ, ◌-◌, ◌≤◌}
use mathlib.Core.List.{List, [], ◌∷◌, ◌++◌, append-nil}
use mathlib.Core.Path.{◌≡◌, refl, ap, ◌∙◌}
use native.Mathlib.Nat.{zero-add}
use native.Mathlib.Omega.{arith}
use lib.ListN.{length, take, drop, replicate, length-append, length-drop, take-append-drop}
use lib.Seq.{drop-drop, drop-length, sets, sets-eq, take-length, take-append_seam, drop-append_seam}
use Rattle.cabinet_records.specs.Cabinet.{written_at}

pub part-back : (out : List ℕ) (f n : ℕ) (new : List ℕ) → length new ≡ n → take f out ++ (new ++ drop n (drop f out)) ≡ written_at out f new
unfolding written_at
part-back out f n new e = rw (drop-drop n f out, e)

-- the bytes that were there
pub part-kept : (out : List ℕ) (f n : ℕ) → take f out ++ (take n (drop f out) ++ drop n (drop f out)) ≡ out
part-kept out f n = rw (take-append-drop n (drop f out)) (take-append-drop f out)

pub none_of : (l : List ℕ) → length l ≡ 0 → l ≡ []
none_of [] e = refl
none_of (x ∷ l) e = absurd (omega (arith, e))

pub copied : (from old : List ℕ) → length from ≤ length old → sets old 0 from ≡ from ++ drop (length from) old
copied from old fits = rw (sets-eq from old 0 (omega arith), zero-add (length from)) refl

-- bytes stored from the start on, and zeros stored back behind them
pub padded :
    (b room : List ℕ) {once filled : List ℕ} {n : ℕ} →
    length b ≤ length room →
    once ≡ sets room 0 b →
    n ≡ length once - length b →
    filled ≡ replicate (length (take n (drop (length b) once))) 0 →
    take (length b) once ++ (filled ++ drop n (drop (length b) once)) ≡ b ++ replicate (length room - length b) 0
padded b room {once} {filled} {n} fits told count same =
    let behind = drop (length b) room in
    let whole : once ≡ b ++ behind = told ∙ copied b room fits in
    let size : length behind ≡ length room - length b = length-drop (length b) room in
    let long : length once ≡ length (b ++ behind) = ap length whole in
    let left : n ≡ length behind = omega (arith, count, long, length-append b behind, size) in
    rw (same, left, whole, take-append_seam b behind, drop-append_seam b behind, take-length behind, drop-length behind, size)
    (ap (λ (l : List ℕ). b ++ l) (append-nil (replicate (length room - length b) 0)))
