-- The laws of the layout of a timed state, record by record, and what the test of the bytes tells.
use Prim.Native.Nat.{ℕ, zero, suc, ◌<◌}
use mathlib.Core.Bool.{Bool, true, false, ◌&&◌, and-true}
use mathlib.Core.List.{List, [], ◌∷◌}
use mathlib.Core.Path.{◌≡◌, refl}
use native.Mathlib.Omega.{arith}
use lib.Dec.{ltb, eqb}
use lib.ListN.{length, get_or}
use borrow.Author.Tests.{ltb-true, eqb-true, eq-eqb, ne_eqb}
use Rattle.rules.specs.declared.site.Times.{Times}
use Rattle.rules.specs.declared.state.KeptState.{KeptState}
use Rattle.rules.specs.Timed.{kept_of}
use Rattle.laws.specs.Bytes.{byte_at}
use Rattle.laws.specs.Folds.{all_of}
use Rattle.laws.proofs.Booleans.{and_left, and_split}
use Rattle.state_forms.specs.Forms.{flag_code}
use Rattle.state_forms.proofs.Lawful.{Lawful, in_order, coded-law, both-law, made-law}
use Rattle.state_bytes.specs.Layout.{state}
use Rattle.state_bytes.proofs.Laws.{state-law}
use Rattle.state_times.specs.TimesLayout.{times}
use Rattle.state_times.proofs.TimesLaws.{times-law}
use Rattle.state_timed.specs.TimedLayout.{flag, waiting, timed, timed_bytes, timed_decoded, is_timed}

flag-back : (f : Bool) → get_or (false ∷ true ∷ []) (flag_code f) false ≡ f
flag-back true = refl
flag-back false = refl

pub flag-read : (x : ℕ) → eqb x 1 ≡ get_or (false ∷ true ∷ []) x false
flag-read zero = refl
flag-read (suc zero) = refl
flag-read (suc (suc x)) = ne_eqb (suc (suc x)) 1 (λ e. omega arith)

pub flag-law : Lawful flag
unfolding in_order
flag-law = coded-law false flag_code (false ∷ true ∷ []) (omega arith) (omega arith) flag-back refl

pub waiting-law : Lawful waiting
waiting-law = made-law (λ w. (w.present, w.times)) _ (λ w. refl) (λ a. refl) (both-law flag-law times-law)

pub timed-law : Lawful timed
timed-law =
    made-law (λ s. ((kept_of s, s.ruling), s.waiting)) _ (λ s. refl) (λ a. refl) (both-law (both-law state-law times-law) waiting-law)

-- ── What the test of the bytes tells ──

pub record TimedKnown (b : List ℕ) : Type 0 where
  pub size : length b ≡ timed_bytes
  pub known : timed.known b 0 ≡ true
  pub kept-known : state.known b 0 ≡ true
  pub code : byte_at b 187 < 2

pub timed-known : (b : List ℕ) → is_timed b ≡ true → TimedKnown b
unfolding is_timed
timed-known b h =
    let both = and_split (eqb (length b) timed_bytes) _ h in
    let parts = and_split (state.known b 0 && times.known b 39) _ both.1 in
    record {
      size = eqb-true (length b) timed_bytes both.0;
      known = both.1;
      kept-known = and_left (state.known b 0) (times.known b 39) parts.0;
      code = ltb-true (byte_at b 187) 2 (and_left (ltb (byte_at b 187) 2) (times.known b 188) parts.1);
    }

pub timed-tested : (b : List ℕ) → length b ≡ timed_bytes → (state.known b 0 && ltb (byte_at b 187) 2) ≡ is_timed b
unfolding is_timed all_of
timed-tested b e = rw (eq-eqb (length b) timed_bytes e) (simp and-true)

-- a timed state from its parts
pub timed-made :
    (b : List ℕ) {kept : KeptState} {ruling waited : Times} {present : Bool} →
    kept ≡ state.read b 0 →
    ruling ≡ times.read b 39 →
    present ≡ eqb (byte_at b 187) 1 →
    waited ≡ times.read b 188 →
    record { core = kept.core; kept = kept.kept; ruling = ruling; waiting = record { present = present; times = waited } } ≡ timed_decoded b
unfolding timed_decoded
timed-made b k r p w = rw (k, r, p, w, flag-read (byte_at b 187))
