-- Parts of a timed state, stored into a buffer of its length, are the layout of the state that they make.
use Prim.Native.Nat.{ℕ, ◌+◌}
use mathlib.Core.Bool.{true}
use mathlib.Core.List.{List, [], ◌∷◌, ◌++◌, append_assoc, append-nil}
use mathlib.Core.Path.{◌≡◌, refl, sym, ap, ◌∙◌}
use native.Mathlib.Omega.{arith}
use lib.ListN.{length, set, take, drop, replicate}
use lib.Seq.{sets, sets-eq, drop_at, take_at, drop-length}
use Rattle.rules.specs.declared.site.Times.{Times}
use Rattle.rules.specs.declared.state.KeptState.{KeptState}
use Rattle.rules.specs.SiteTimes.{no_times}
use Rattle.rules.specs.Timed.{TimedState, kept_of, none_waiting}
use Rattle.rules.specs.TimedCall.{retimed}
use Rattle.laws.proofs.Arrays.{sets-next, sets-whole}
use Rattle.state_forms.specs.Forms.{AreBytes, parts_of}
use Rattle.state_forms.proofs.Lawful.{both-law}
use Rattle.state_bytes.specs.Layout.{state}
use Rattle.state_bytes.proofs.Laws.{state-law}
use Rattle.state_times.specs.TimesLayout.{times}
use Rattle.state_times.proofs.TimesLaws.{times-law}
use Rattle.state_timed.specs.TimedLayout.{settled, waiting, timed_bytes, timed_encoded, timed_decoded, is_timed}
use Rattle.state_timed.proofs.TimedLaws.{timed-law, timed-known}
use Rattle.state_timed.proofs.TimedRoundTrips.{encoded-decoded}

-- ── A state in which these times rule and none wait ──

none_written : waiting.written none_waiting ≡ replicate 149 0
unfolding none_waiting no_times parts_of
none_written = refl

before-long : (s : KeptState) (ruling : Times) → length (state.written s ++ times.written ruling) ≡ 187
before-long s ruling = (both-law state-law times-law).sized (s, ruling)

pub settled-written :
    (b : List ℕ) (s : KeptState) (ruling : Times) →
    length b ≡ timed_bytes →
    sets (sets (sets b 0 (state.written s)) 39 (times.written ruling)) 187 (replicate 149 0) ≡ timed_encoded (settled ruling s)
unfolding timed_encoded
settled-written b s ruling e =
    let kept = state.written s in
    let rules = times.written ruling in
    let none = waiting.written none_waiting in
    ap (sets (sets (sets b 0 kept) 39 rules) 187) (sym none_written)
    ∙ ap (λ (l : List ℕ). sets l 187 none) (sets-next b kept rules 0 39 (omega (arith, state-law.sized s)))
    ∙ sets-next b (kept ++ rules) none 0 187 (omega (arith, before-long s ruling))
    ∙ sets-whole b (kept ++ rules ++ none) (timed-law.sized (settled ruling s) ∙ sym e)

module _ (b : List ℕ) (bytes : AreBytes b) (known : is_timed b ≡ true) where
  abbrev s : TimedState
  s = timed_decoded b

  -- ── A kept state over the first 39 bytes: the times are still in the others ──

  -- the bytes behind the kept state
  abbrev behind : List ℕ
  behind = times.written s.ruling ++ waiting.written s.waiting

  pub kept-written :
      (k : KeptState) →
      sets b 0 (state.written k) ≡ timed_encoded (record { core = k.core; kept = k.kept; ruling = s.ruling; waiting = s.waiting })
  unfolding timed_encoded
  kept-written k =
      let sized : 0 + length (state.written k) ≡ 39 = omega (arith, state-law.sized k) in
      let left : drop 39 b ≡ behind =
      ap (drop 39)
      (sym (encoded-decoded b bytes known) ∙ append_assoc (state.written (kept_of s)) (times.written s.ruling) (waiting.written s.waiting))
      ∙ drop_at (state.written (kept_of s)) behind 39 (state-law.sized (kept_of s)) in
      sets-eq (state.written k) b 0 (omega (arith, (timed-known b known).size, sized))
      ∙ ap (λ (n : ℕ). state.written k ++ drop n b) sized
      ∙ ap (λ (rest : List ℕ). state.written k ++ rest) left
      ∙ sym (append_assoc (state.written k) (times.written s.ruling) (waiting.written s.waiting))

  -- ── Times that wait, behind the ruling times ──

  abbrev before : List ℕ
  before = state.written (kept_of s) ++ times.written s.ruling

  pub waiting-written :
      (new : Times) → sets (set b 187 1) 188 (times.written new) ≡ timed_encoded (retimed s new)
  unfolding timed_encoded retimed
  waiting-written new =
      let written : List ℕ = 1 ∷ times.written new in
      let sized : 187 + length written ≡ length b = omega (arith, times-law.sized new, (timed-known b known).size) in
      let kept : take 187 b ≡ before =
      ap (take 187) (sym (encoded-decoded b bytes known)) ∙ take_at before (waiting.written s.waiting) 187 (before-long (kept_of s) s.ruling) in
      sets-next b (1 ∷ []) (times.written new) 187 188 (omega arith)
      ∙ sets-eq written b 187 (omega (arith, sized))
      ∙ ap (λ (front : List ℕ). front ++ written ++ drop (187 + length written) b) kept
      ∙ ap (λ (n : ℕ). before ++ written ++ drop n b) sized
      ∙ ap (λ (rest : List ℕ). before ++ written ++ rest) (drop-length b)
      ∙ append-nil (before ++ written)
