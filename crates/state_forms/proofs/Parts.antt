-- Rows of parts of a list, and lists of bytes.
use Prim.Native.Nat.{ℕ, zero, suc, ◌+◌, ◌*◌, ◌<◌}
use mathlib.Core.List.{List, [], ◌∷◌, ◌++◌}
use mathlib.Core.Path.{◌≡◌, refl, ◌∙◌}
use native.Mathlib.Omega.{arith}
use lib.ListN.{length, length-append}
use lib.Seq.{sets}
use Rattle.laws.specs.Bytes.{byte_at}
use Rattle.laws.proofs.Folds.{fold_same}
use Rattle.laws.proofs.Arrays.{Stored, stored_more}
use Rattle.laws.proofs.Bytes.{part, part-more}
use Rattle.state_forms.specs.Forms.{parts_of, AreBytes}

-- ── Rows of parts ──

-- parts of w bytes in a row are one part
pub parts-joined : (b : List ℕ) (at w n : ℕ) → parts_of (λ k. part b (at + k * w) w) n ≡ part b at (n * w)
unfolding parts_of
parts-joined b at w zero = let e : 0 * w ≡ 0 = omega arith in rw e
parts-joined b at w (suc n) =
    let e : suc n * w ≡ n * w + w = omega arith in
    rw (e, part-more b at (n * w) w, parts-joined b at w n)

pub parts_same : (f g : ℕ → List ℕ) (n : ℕ) → ((i : ℕ) → i < n → f i ≡ g i) → parts_of f n ≡ parts_of g n
unfolding parts_of
parts_same = fold_same parts_of (λ f g. refl) (λ f g n front last. rw (front, last))

pub parts-length : (f : ℕ → List ℕ) (w n : ℕ) → ((i : ℕ) → length (f i) ≡ w) → length (parts_of f n) ≡ n * w
unfolding parts_of
parts-length f w zero h = omega arith
parts-length f w (suc n) h = length-append (parts_of f n) (f n) ∙ omega (arith, parts-length f w n h, h n)

-- the bytes of one more record behind those that are stored, w bytes each
pub stored-record :
    (f : ℕ → List ℕ) (w : ℕ) →
    ((k : ℕ) → length (f k) ≡ w) →
    {old out : List ℕ} {at n k : ℕ} (m : ℕ) (part : List ℕ) →
    Stored (parts_of f) old at n out k →
    k < n →
    m ≡ at + k * w →
    part ≡ f k →
    Stored (parts_of f) old at n (sets out m part) (k + 1)
unfolding parts_of
stored-record f w sized {k = k} m part h l e same =
    stored_more part m h l (omega (arith, parts-length f w k sized)) (rw same)

-- ── Lists of bytes ──

pub no_bytes : AreBytes []
unfolding byte_at
no_bytes = record { each = λ i. omega arith }

byte-in : {x : ℕ} {l : List ℕ} → x < 256 → AreBytes l → (i : ℕ) → byte_at (x ∷ l) i < 256
unfolding byte_at
byte-in h bytes zero = h
byte-in h bytes (suc i) = bytes.each i

pub one_more : {x : ℕ} {l : List ℕ} → x < 256 → AreBytes l → AreBytes (x ∷ l)
one_more h bytes = record { each = byte-in h bytes }

rest : {x : ℕ} {l : List ℕ} → AreBytes (x ∷ l) → AreBytes l
unfolding byte_at
rest bytes = record { each = λ i. bytes.each (suc i) }

pub bytes-joined : (l m : List ℕ) → AreBytes l → AreBytes m → AreBytes (l ++ m)
unfolding byte_at
bytes-joined [] m h k = k
bytes-joined (x ∷ l) m h k = one_more (h.each 0) (bytes-joined l m (rest h) k)

pub parts-bytes : (f : ℕ → List ℕ) (n : ℕ) → ((i : ℕ) → i < n → AreBytes (f i)) → AreBytes (parts_of f n)
unfolding parts_of
parts-bytes f zero h = no_bytes
parts-bytes f (suc n) h = bytes-joined (parts_of f n) (f n) (parts-bytes f n (λ i l. h i (omega arith))) (h n (omega arith))
