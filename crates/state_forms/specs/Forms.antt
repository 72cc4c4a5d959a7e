-- How values are written in bytes. A form says how many bytes a value has, which bytes they are, whether the bytes at a place are such a
-- value, and which value they are. `fits` says which values the type of the machine has. Numbers are little-endian.
use Rattle.std.specs.Prelude.{ℕ, zero, suc, ◌+◌, ◌*◌, ◌/◌, ◌%◌, ◌<◌, Bool, true, ◌&&◌, ◌||◌, List, [], ◌∷◌, ◌++◌, ◌≡◌, eqb, ltb, length, get_or, if◌then◌else◌, Option, Some, None}
use Rattle.laws.specs.Bytes.{byte_at, two_at}
use Rattle.rules.specs.IntervalTable.{is_held, phase_held}
use Rattle.laws.specs.Folds.{all_of, list_of}

pub record Form (A : Type 0) : Type 1 where
  pub width : ℕ
  pub written : A → List ℕ
  pub known : List ℕ → ℕ → Bool
  pub read : List ℕ → ℕ → A
  pub fits : A → Type 0

-- ── One value ──

abbrev pub byte : Form ℕ
byte = record { width = 1; written = λ x. x ∷ []; known = λ b at. true; read = byte_at; fits = λ x. x < 256 }

-- a number of two bytes
abbrev pub two : Form ℕ
two = record { width = 2; written = λ x. x % 256 ∷ x / 256 ∷ []; known = λ b at. true; read = two_at; fits = λ x. x < 65536 }

-- one of several values, by its code, which is its index in the list of all
abbrev pub coded : {A : Type 0} → List A → A → (A → ℕ) → Form A
coded all first code =
    record {
      width = 1;
      written = λ x. code x ∷ [];
      known = λ b at. ltb (byte_at b at) (length all);
      read = λ b at. get_or all (byte_at b at) first;
      fits = λ x. record {};
    }

-- 1 for true, 0 for false
abbrev pub flag_code : Bool → ℕ
flag_code flag = if flag then 1 else 0

-- a phase or none: a tag of 1 and the phase, or 0 and 0 for none
abbrev pub held : Form (Option ℕ)
held =
    record {
      width = 2;
      written = λ h. flag_code (is_held h) ∷ phase_held h ∷ [];
      known = λ b at. eqb (byte_at b at) 1 || (eqb (byte_at b at) 0 && eqb (byte_at b (at + 1)) 0);
      read = λ b at. if eqb (byte_at b at) 1 then Some (byte_at b (at + 1)) else None;
      fits = λ h. phase_held h < 256;
    }

-- ── Several of a kind ──

-- f 0, .., f (n - 1), one after the other
unfoldable pub parts_of : (ℕ → List ℕ) → ℕ → List ℕ
parts_of f zero = []
parts_of f (suc n) = parts_of f n ++ f n

-- n values, one after the other; the default fills up a list that is too short
abbrev pub row : {A : Type 0} → ℕ → A → Form A → Form (List A)
row n default form =
    record {
      width = n * form.width;
      written = λ l. parts_of (λ k. form.written (get_or l k default)) n;
      known = λ b at. all_of (λ k. form.known b (at + k * form.width)) n;
      read = λ b at. list_of (λ k. form.read b (at + k * form.width)) n;
      fits = λ l. (length l ≡ n) × ((k : ℕ) → k < n → form.fits (get_or l k default));
    }

-- ── Records ──

-- two values, one after the other
infixl 5 ◌⊗◌
abbrev pub ◌⊗◌ : {A B : Type 0} → Form A → Form B → Form (A × B)
f ⊗ g =
    record {
      width = f.width + g.width;
      written = λ p. f.written p.0 ++ g.written p.1;
      known = λ b at. f.known b at && g.known b (at + f.width);
      read = λ b at. (f.read b at, g.read b (at + f.width));
      fits = λ p. f.fits p.0 × g.fits p.1;
    }

-- a record: the form of its fields, its fields, and the record that is made of them
abbrev pub made : {F S : Type 0} → Form F → (S → F) → (F → S) → Form S
made form fields make =
    record {
      width = form.width;
      written = λ s. form.written (fields s);
      known = form.known;
      read = λ b at. make (form.read b at);
      fits = λ s. form.fits (fields s);
    }

-- ── Bytes ──

-- every number is a byte
pub record AreBytes (b : List ℕ) : Type 0 where
  pub each : (i : ℕ) → byte_at b i < 256
