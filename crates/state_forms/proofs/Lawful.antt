-- The laws of a form: written and read again a value is the same, and so are bytes that are a value, read and written again. Each way of
-- putting forms together keeps the laws, so those of a whole layout follow part by part.
use Prim.Native.Nat.{ℕ, zero, suc, ◌+◌, ◌*◌, ◌/◌, ◌%◌, ◌≤◌, ◌<◌}
use mathlib.Core.Bool.{Bool, true, false, ◌&&◌, ◌||◌}
use mathlib.Core.List.{List, [], ◌∷◌, ◌++◌, append_assoc}
use mathlib.Core.Logic.{⊎_elim}
use mathlib.Core.Path.{◌≡◌, refl, sym, ap, subst⁻¹, ◌∙◌}
use native.Mathlib.Nat.{add-zero, zero-add, le_of_suc-le-suc, not-suc-le-zero}
use native.Mathlib.Omega.{arith}
use lib.Dec.{ltb, eqb}
use lib.ListN.{length, get_or, length-append, get_or-eq_default}
use lib.Seq.{sets}
use borrow.Author.Tests.{lt-ltb, ltb-true, ltb-false, eqb-true}
use Rattle.laws.specs.Bytes.{byte_at, two_at}
use Rattle.rules.specs.IntervalTable.{is_held, phase_held}
use Rattle.std.specs.Prelude.{if◌then◌else◌, Option, Some, None}
use Rattle.laws.specs.Folds.{all_of, list_of}
use Rattle.laws.proofs.Booleans.{decided, and_left, and_right, and_both, or_cases}
use Rattle.laws.proofs.Folds.{all-at}
use Rattle.laws.proofs.Arrays.{sets-next}
use Rattle.laws.proofs.Lists.{list_length, list_at, listed}
use Rattle.laws.proofs.Bytes.{first_byte, second-byte, part, part-one, part-two, part-more, record-within}
use Rattle.state_forms.specs.Forms.{Form, byte, two, coded, flag_code, held, parts_of, row, ◌⊗◌, made, AreBytes}
use Rattle.state_forms.proofs.Parts.{parts-joined, parts_same, parts-length, no_bytes, one_more, bytes-joined, parts-bytes}

pub record Lawful {A : Type 0} (form : Form A) : Type 0 where
  pub sized : (a : A) → length (form.written a) ≡ form.width
  pub passes : (a : A) (p q : List ℕ) (at : ℕ) → length p ≡ at → form.known (p ++ (form.written a ++ q)) at ≡ true
  pub back : (a : A) (p q : List ℕ) (at : ℕ) → form.fits a → length p ≡ at → form.read (p ++ (form.written a ++ q)) at ≡ a
  pub same : (b : List ℕ) (at : ℕ) → AreBytes b → at + form.width ≤ length b → form.known b at ≡ true → form.written (form.read b at) ≡ part b at form.width
  pub bytes : (a : A) → form.fits a → AreBytes (form.written a)
  pub proper : (b : List ℕ) (at : ℕ) → AreBytes b → form.fits (form.read b at)

-- ── One value ──

pub byte-law : Lawful byte
byte-law =
    record {
      sized = λ x. refl;
      passes = λ x p q at e. refl;
      back = λ x p q at l e. first_byte p q x at e;
      same = λ b at bytes room known. part-one b at (omega arith);
      bytes = λ x l. one_more l no_bytes;
      proper = λ b at bytes. bytes.each at;
    }

two_back : (x : ℕ) → x % 256 + 256 * (x / 256) ≡ x
two_back x = omega arith

two-same : (low high : ℕ) → low < 256 → (low + 256 * high) % 256 ∷ (low + 256 * high) / 256 ∷ [] ≡ low ∷ high ∷ []
two-same low high h =
    let l : (low + 256 * high) % 256 ≡ low = omega arith in
    let g : (low + 256 * high) / 256 ≡ high = omega arith in
    rw (l, g)

pub two-law : Lawful two
unfolding two_at
two-law =
    record {
      sized = λ x. refl;
      passes = λ x p q at e. refl;
      back = λ x p q at l e. rw (first_byte p (x / 256 ∷ q) (x % 256) at e, second-byte p q (x % 256) (x / 256) at e) (two_back x);
      same = λ b at bytes room known. two-same (byte_at b at) (byte_at b (at + 1)) (bytes.each at) ∙ part-two b at (omega arith);
      bytes = λ x l. one_more (omega arith) (one_more (omega arith) no_bytes);
      proper = λ b at bytes. omega (arith, bytes.each at, bytes.each (at + 1));
    }

-- the codes of a list are the numbers from n on
unfoldable pub in_order : {A : Type 0} → (A → ℕ) → ℕ → List A → Bool
in_order code n [] = true
in_order code n (a ∷ l) = eqb (code a) n && in_order code (suc n) l

module _ {A : Type 0} (first : A) (code : A → ℕ) where
  order-at : (l : List A) (n x : ℕ) → in_order code n l ≡ true → x < length l → code (get_or l x first) ≡ n + x
  unfolding in_order
  order-at [] n x h k = absurd (not-suc-le-zero k)
  order-at (a ∷ l) n zero h k = eqb-true (code a) n (and_left (eqb (code a) n) (in_order code (suc n) l) h) ∙ sym (add-zero n)
  order-at (a ∷ l) n (suc x) h k =
      order-at l (suc n) x (and_right (eqb (code a) n) (in_order code (suc n) l) h) (le_of_suc-le-suc k) ∙ omega arith

  module _ (all : List A) (few : length all ≤ 256) (starts : code first < length all) (back : (a : A) → get_or all (code a) first ≡ a) where
    -- past the list stands the first
    code-within : (a : A) → code a < length all
    code-within a =
        ⊎_elim
        (λ (e : ltb (code a) (length all) ≡ true). ltb-true (code a) (length all) e)
        (λ (e : ltb (code a) (length all) ≡ false).
        let same : a ≡ first = sym (back a) ∙ get_or-eq_default all first (ltb-false (code a) (length all) e) in
        rw same starts)
        (decided (ltb (code a) (length all)))

    -- a value by its code: the codes are the places in the list of all
    pub coded-law : in_order code 0 all ≡ true → Lawful (coded all first code)
    coded-law order =
        record {
          sized = λ a. refl;
          passes = λ a p q at e. rw (first_byte p q (code a) at e) (lt-ltb (code a) (length all) (code-within a));
          back = λ a p q at l e. rw (first_byte p q (code a) at e) (back a);
          same = λ b at bytes room known.
              rw (order-at all 0 (byte_at b at) order (ltb-true (byte_at b at) (length all) known), zero-add (byte_at b at))
              (part-one b at (omega arith));
          bytes = λ a l. one_more (omega (arith, code-within a)) no_bytes;
          proper = λ b at bytes. record {};
        }

-- a phase or none, of its two bytes
abbrev held_known : ℕ → ℕ → Bool
held_known tag phase = eqb tag 1 || (eqb tag 0 && eqb phase 0)

abbrev held_of : ℕ → ℕ → Option ℕ
held_of tag phase = if eqb tag 1 then Some phase else None

-- a known tag is 0 or 1
pub tag-known : (tag phase : ℕ) → held_known tag phase ≡ true → tag < 2
tag-known tag phase h =
    ⊎_elim
    (λ (e : eqb tag 1 ≡ true). omega (arith, eqb-true tag 1 e))
    (λ (e : (eqb tag 0 && eqb phase 0) ≡ true). omega (arith, eqb-true tag 0 (and_left (eqb tag 0) (eqb phase 0) e)))
    (or_cases (eqb tag 1) (eqb tag 0 && eqb phase 0) h)

held-passes : (h : Option ℕ) → held_known (flag_code (is_held h)) (phase_held h) ≡ true
unfolding is_held phase_held
held-passes None = refl
held-passes (Some p) = refl

held_back : (h : Option ℕ) → held_of (flag_code (is_held h)) (phase_held h) ≡ h
unfolding is_held phase_held
held_back None = refl
held_back (Some p) = refl

held_same : (tag phase : ℕ) → held_known tag phase ≡ true → flag_code (is_held (held_of tag phase)) ∷ phase_held (held_of tag phase) ∷ [] ≡ tag ∷ phase ∷ []
unfolding is_held phase_held
held_same zero phase h = ap (λ (p : ℕ). 0 ∷ p ∷ []) (sym (eqb-true phase 0 h))
held_same (suc zero) phase h = refl
held_same (suc (suc tag)) phase h = absurd (omega (arith, tag-known (suc (suc tag)) phase h))

held-proper : (tag phase : ℕ) → phase < 256 → phase_held (held_of tag phase) < 256
unfolding phase_held
held-proper tag phase h = by-tag (eqb tag 1)
  where
    by-tag : (t : Bool) → phase_held (if t then Some phase else None) < 256
    by-tag true = h
    by-tag false = omega arith

pub held-law : Lawful held
held-law =
    record {
      sized = λ h. refl;
      passes = λ h p q at e.
          rw (first_byte p (phase_held h ∷ q) (flag_code (is_held h)) at e, second-byte p q (flag_code (is_held h)) (phase_held h) at e) (held-passes h);
      back = λ h p q at small e.
          rw (first_byte p (phase_held h ∷ q) (flag_code (is_held h)) at e, second-byte p q (flag_code (is_held h)) (phase_held h) at e) (held_back h);
      same = λ b at bytes room known. held_same (byte_at b at) (byte_at b (at + 1)) known ∙ part-two b at (omega arith);
      bytes = λ h small. one_more (omega (arith, tag-known (flag_code (is_held h)) (phase_held h) (held-passes h))) (one_more small no_bytes);
      proper = λ b at bytes. held-proper (byte_at b at) (byte_at b (at + 1)) (bytes.each (at + 1));
    }

-- ── Records ──

pub both-law : {A B : Type 0} {f : Form A} {g : Form B} → Lawful f → Lawful g → Lawful (f ⊗ g)
both-law {A} {B} {f} {g} first second =
    record {
      sized = λ a. length-append (f.written a.0) (g.written a.1) ∙ omega (arith, first.sized a.0, second.sized a.1);
      passes = λ a p q at e.
          and_both {a = f.known (whole a p q) at} {b = g.known (whole a p q) (at + f.width)}
          (rw (front a p q) (first.passes a.0 p (g.written a.1 ++ q) at e))
          (rw (behind a p q) (second.passes a.1 (p ++ f.written a.0) q (at + f.width) (further a p at e)));
      back = λ a p q at fits e.
          paired {a = f.read (whole a p q) at} {b = g.read (whole a p q) (at + f.width)}
          (rw (front a p q) (first.back a.0 p (g.written a.1 ++ q) at fits.0 e))
          (rw (behind a p q) (second.back a.1 (p ++ f.written a.0) q (at + f.width) fits.1 (further a p at e)));
      same = λ b at bytes room known.
          rw (
            first.same b at bytes (omega arith) (and_left (f.known b at) (g.known b (at + f.width)) known),
            second.same b (at + f.width) bytes (omega arith) (and_right (f.known b at) (g.known b (at + f.width)) known),
          )
          (sym (part-more b at f.width g.width));
      bytes = λ a fits. bytes-joined (f.written a.0) (g.written a.1) (first.bytes a.0 fits.0) (second.bytes a.1 fits.1);
      proper = λ b at bytes. (first.proper b at bytes, second.proper b (at + f.width) bytes);
    }
  where
    whole : A × B → List ℕ → List ℕ → List ℕ
    whole a p q = p ++ ((f.written a.0 ++ g.written a.1) ++ q)

    front : (a : A × B) (p q : List ℕ) → whole a p q ≡ p ++ (f.written a.0 ++ (g.written a.1 ++ q))
    front a p q = simp append_assoc

    behind : (a : A × B) (p q : List ℕ) → whole a p q ≡ (p ++ f.written a.0) ++ (g.written a.1 ++ q)
    behind a p q = simp append_assoc

    further : (a : A × B) (p : List ℕ) (at : ℕ) → length p ≡ at → length (p ++ f.written a.0) ≡ at + f.width
    further a p at e = length-append p (f.written a.0) ∙ omega (arith, first.sized a.0)

    paired : {a c : A} {b d : B} → a ≡ c → b ≡ d → ◌≡◌ {A = A × B} (a, b) (c, d)
    paired e h = rw (e, h)

-- bytes that are stored behind a value
pub stored-behind :
    {A : Type 0} {form : Form A} →
    Lawful form →
    (a : A) (b rest : List ℕ) (at : ℕ) →
    sets (sets b at (form.written a)) (at + form.width) rest ≡ sets b at (form.written a ++ rest)
stored-behind {form = form} law a b rest at =
    sets-next b (form.written a) rest at (at + form.width) (ap (λ (n : ℕ). at + n) (sym (law.sized a)))

-- the fields of a value that fits make it again, and fields that fit are those of the value that they make
module _ {F S : Type 0} {form : Form F} (fields : S → F) (make : F → S) where
  pub made-fitting :
      ((s : S) → form.fits (fields s) → make (fields s) ≡ s) →
      ((a : F) → form.fits a → fields (make a) ≡ a) →
      Lawful form →
      Lawful (made form fields make)
  made-fitting whole again law =
      record {
        sized = λ s. law.sized (fields s);
        passes = λ s. law.passes (fields s);
        back = λ s p q at fits e. rw (law.back (fields s) p q at fits e) (whole s fits);
        same = λ b at bytes room known. ap form.written (again (form.read b at) (law.proper b at bytes)) ∙ law.same b at bytes room known;
        bytes = λ s. law.bytes (fields s);
        proper = λ b at bytes. subst⁻¹ form.fits (again (form.read b at) (law.proper b at bytes)) (law.proper b at bytes);
      }

  pub made-law : ((s : S) → make (fields s) ≡ s) → ((a : F) → fields (make a) ≡ a) → Lawful form → Lawful (made form fields make)
  made-law whole again law = made-fitting (λ s fits. whole s) (λ a fits. again a) law

-- ── Several of a kind ──

module _ {A : Type 0} (form : Form A) where
  -- the bytes of the first n of some values
  abbrev bytes_of : (ℕ → A) → ℕ → List ℕ
  bytes_of v = parts_of (λ k. form.written (v k))

  module _ (law : Lawful form) where
    bytes-length : (v : ℕ → A) (n : ℕ) → length (bytes_of v n) ≡ n * form.width
    bytes-length v n = parts-length (λ k. form.written (v k)) form.width n (λ k. law.sized (v k))

    -- a list with the bytes of n + 1 values in it: the first n, and then the last
    front : (v : ℕ → A) (n : ℕ) (p q : List ℕ) → p ++ (bytes_of v (suc n) ++ q) ≡ p ++ (bytes_of v n ++ (form.written (v n) ++ q))
    unfolding parts_of
    front v n p q = simp append_assoc

    behind : (v : ℕ → A) (n : ℕ) (p q : List ℕ) → p ++ (bytes_of v (suc n) ++ q) ≡ (p ++ bytes_of v n) ++ (form.written (v n) ++ q)
    unfolding parts_of
    behind v n p q = simp append_assoc

    further : (v : ℕ → A) (n : ℕ) (p : List ℕ) (at : ℕ) → length p ≡ at → length (p ++ bytes_of v n) ≡ at + n * form.width
    further v n p at e = length-append p (bytes_of v n) ∙ omega (arith, bytes-length v n)

    row-passes :
        (v : ℕ → A) (n : ℕ) (p q : List ℕ) (at : ℕ) →
        length p ≡ at →
        all_of (λ k. form.known (p ++ (bytes_of v n ++ q)) (at + k * form.width)) n ≡ true
    unfolding all_of
    row-passes v zero p q at e = refl
    row-passes v (suc n) p q at e =
        and_both
        {a = all_of (λ k. form.known (p ++ (bytes_of v (suc n) ++ q)) (at + k * form.width)) n}
        {b = form.known (p ++ (bytes_of v (suc n) ++ q)) (at + n * form.width)}
        (rw (front v n p q) (row-passes v n p (form.written (v n) ++ q) at e))
        (rw (behind v n p q) (law.passes (v n) (p ++ bytes_of v n) q (at + n * form.width) (further v n p at e)))

    row_back :
        (v : ℕ → A) (n : ℕ) (p q : List ℕ) (at : ℕ) →
        ((k : ℕ) → k < n → form.fits (v k)) →
        length p ≡ at →
        list_of (λ k. form.read (p ++ (bytes_of v n ++ q)) (at + k * form.width)) n ≡ list_of v n
    unfolding list_of
    row_back v zero p q at fits e = refl
    row_back v (suc n) p q at fits e =
        one-longer
        {l = list_of (λ k. form.read (p ++ (bytes_of v (suc n) ++ q)) (at + k * form.width)) n}
        {m = list_of v n}
        {x = form.read (p ++ (bytes_of v (suc n) ++ q)) (at + n * form.width)}
        (rw (front v n p q) (row_back v n p (form.written (v n) ++ q) at (λ k l. fits k (omega arith)) e))
        (rw (behind v n p q) (law.back (v n) (p ++ bytes_of v n) q (at + n * form.width) (fits n (omega arith)) (further v n p at e)))
      where
        one-longer : {l m : List A} {x y : A} → l ≡ m → x ≡ y → l ++ (x ∷ []) ≡ m ++ (y ∷ [])
        one-longer c d = rw (c, d)

    row_same :
        (b : List ℕ) (at n : ℕ) (default : A) →
        AreBytes b →
        at + n * form.width ≤ length b →
        all_of (λ k. form.known b (at + k * form.width)) n ≡ true →
        bytes_of (λ k. get_or (list_of (λ j. form.read b (at + j * form.width)) n) k default) n ≡ part b at (n * form.width)
    row_same b at n default bytes room known =
        parts_same
        (λ k. form.written (get_or (list_of (λ j. form.read b (at + j * form.width)) n) k default))
        (λ k. part b (at + k * form.width) form.width)
        n
        one
        ∙ parts-joined b at form.width n
      where
        one : (k : ℕ) → k < n → form.written (get_or (list_of (λ j. form.read b (at + j * form.width)) n) k default) ≡ part b (at + k * form.width) form.width
        one k l =
            let inside = record-within form.width k n l in
            ap form.written (list_at (λ j. form.read b (at + j * form.width)) n k default l)
            ∙ law.same b (at + k * form.width) bytes (omega (arith, inside)) (all-at (λ j. form.known b (at + j * form.width)) n k known l)

    pub row-law : (n : ℕ) (default : A) → Lawful (row n default form)
    row-law n default =
        record {
          sized = λ l. bytes-length (λ k. get_or l k default) n;
          passes = λ l p q at e. row-passes (λ k. get_or l k default) n p q at e;
          back = λ l p q at fits e. row_back (λ k. get_or l k default) n p q at fits.1 e ∙ listed l n default fits.0;
          same = λ b at bytes room known. row_same b at n default bytes room known;
          bytes = λ l fits. parts-bytes (λ k. form.written (get_or l k default)) n (λ k h. law.bytes (get_or l k default) (fits.1 k h));
          proper = λ b at bytes. (
            list_length (λ k. form.read b (at + k * form.width)) n,
            λ k h. rw (list_at (λ k. form.read b (at + k * form.width)) n k default h) (law.proper b (at + k * form.width) bytes),
          );
        }
