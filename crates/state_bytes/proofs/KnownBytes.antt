-- What the tests of bytes tell, field by field, and the test of the movement records at the places that the code reads.
use Prim.Native.Nat.{ℕ, ◌+◌, ◌*◌, ◌<◌}
use mathlib.Core.Bool.{true, and-true}
use mathlib.Core.List.{List}
use mathlib.Core.Path.{◌≡◌}
use native.Mathlib.Nat.{add-zero}
use lib.ListN.{length}
use borrow.Author.Tests.{ltb-true}
use Rattle.laws.specs.Bytes.{byte_at}
use Rattle.rules.specs.IntervalTable.{intervals, stages}
use Rattle.laws.specs.Folds.{all_of}
use Rattle.rules.specs.State.{idle}
use Rattle.laws.proofs.Booleans.{and_left, and_split}
use Rattle.state_forms.specs.Forms.{held, row}
use Rattle.state_bytes.specs.Layout.{interval, stage, position, movement, movements, state}

pub record PositionKnown (b : List ℕ) (at : ℕ) : Type 0 where
  pub code : byte_at b (at + 1) < length intervals
  pub previous : held.known b (at + 4) ≡ true
  pub target : held.known b (at + 6) ≡ true

pub position-told : (b : List ℕ) (at : ℕ) → position.known b at ≡ true → PositionKnown b at
position-told b at h =
    let last = and_split _ (held.known b (at + 6)) h in
    let front = and_split _ (held.known b (at + 4)) last.0 in
    record {
      code = ltb-true (byte_at b (at + 1)) (length intervals) (and_left (interval.known b (at + 1)) true front.0);
      previous = front.1;
      target = last.1;
    }

pub stage-told : (b : List ℕ) (at : ℕ) → movement.known b at ≡ true → byte_at b (at + 0) < length stages
stage-told b at h = rw (add-zero at) (ltb-true (byte_at b at) (length stages) (and_left (stage.known b at) true h))

pub movements-tested : (b : List ℕ) (at n : ℕ) → (row n idle movement).known b at ≡ all_of (λ k. stage.known b (at + k * movement.width + 0)) n
movements-tested b at n = simp (and-true, add-zero)

-- of the 39 bytes at a place
pub record KeptKnown (b : List ℕ) (at : ℕ) : Type 0 where
  pub position-known : position.known b (at + 0) ≡ true
  pub movements-known : movements.known b (at + 14) ≡ true

pub kept-told : (b : List ℕ) (at : ℕ) → state.known b at ≡ true → KeptKnown b at
kept-told b at h =
    let parts = and_split _ (movements.known b (at + 14)) (and_left _ true h) in
    record {
      position-known = rw (add-zero at) (and_left (position.known b at) true (and_left _ true parts.0));
      movements-known = parts.1;
    }
