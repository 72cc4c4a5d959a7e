-- A line's tail at the start of a buffer: all of it where there is room, and the buffer as it was where there is not.
use Prim.Native.Nat.{ℕ, ◌+◌, ◌≤◌, ◌<◌}
use mathlib.Core.List.{List, ◌++◌}
use mathlib.Core.Path.{◌≡◌, refl, sym, ap, ◌∙◌}
use native.Mathlib.Omega.{arith}
use lib.ListN.{length, drop}
use lib.Seq.{length-take-le}
use borrow.Author.Tests.{le-leb, lt-leb}
use Rattle.rules.specs.declared.state.Position.{Position}
use Rattle.rules.specs.TraceText.{line_tail}
use Rattle.base_text.specs.Put.{Put}
use Rattle.base_text.proofs.Puts.{put_front, put-length}
use Rattle.run_text.specs.Lines.{tail_length, tail_of, Counted}
use Rattle.run_text.proofs.Lines.{tail-length}

pub counted : (n : ℕ) (buffer : List ℕ) → n ≤ length buffer → Counted n buffer
counted n buffer h = (h, sym (length-take-le n buffer h))

module _ (position : Position) (colours out : List ℕ) where
  -- what the contract says of the answer and of the buffer as it is then
  abbrev pub Fitted : ℕ → List ℕ → Type 0
  Fitted n after = (n ≡ tail_length (length colours) (length out)) × (after ≡ tail_of position colours out)

  pub fitting :
      {n : ℕ} {after : List ℕ} →
      length colours + 6 ≤ length out →
      Put (line_tail position colours) 0 out after n →
      Counted n after × Fitted n after
  unfolding tail_length tail_of
  fitting {n} {after} h put =
      let long = tail-length position colours in
      let front = put_front put (omega (arith, long)) in
      rw (le-leb (length colours + 6) (length out) h) (
        counted n after (omega (arith, front.0, long, put-length put)),
        (front.0 ∙ long, front.1 ∙ ap (λ (m : ℕ). line_tail position colours ++ drop m out) long),
      )

  pub too_long : length out < length colours + 6 → Fitted 0 out
  unfolding tail_length tail_of
  too_long h = rw (lt-leb (length colours + 6) (length out) h) (refl, refl)
