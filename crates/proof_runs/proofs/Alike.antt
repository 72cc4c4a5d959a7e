-- Two controllers take every list of calls alike if a relation of their states makes these look alike and every call keeps it.
use Prim.Native.Nat.{ℕ}
use mathlib.Core.Bool.{not, ◌&&◌}
use mathlib.Core.List.{List, [], ◌∷◌}
use mathlib.Core.Path.{◌≡◌, refl}
use Rattle.rules.specs.Runs.{Controller, Call, step_call, retime_call, step_taken, retime_taken, next_of, step_of, taken_from}

module _ {S T : Type 0} (one : Controller S) (other : Controller T) (b : List ℕ) where
  -- Of two states that are related: they look alike, each call answers and shows the same from both, and it leads to two that are related.
  pub record Alike (Related : S → T → Type 0) (s : S) (t : T) : Type 0 where
    pub seen : one.seen s ≡ other.seen t
    pub ruling : one.ruling s ≡ other.ruling t
    pub times_wait : one.times_wait s ≡ other.times_wait t
    pub outcome : (inputs room : ℕ) → one.outcome b s inputs room ≡ other.outcome b t inputs room
    pub buffer : (inputs : ℕ) (buffer : List ℕ) → one.buffer b s inputs buffer ≡ other.buffer b t inputs buffer
    pub next : (inputs room : ℕ) → Related (one.next b s inputs room) (other.next b t inputs room)
    pub retime_verdict : (new : List ℕ) → one.retime_verdict b s new ≡ other.retime_verdict b t new
    pub retimed : (new : List ℕ) → Related (one.retimed b s new) (other.retimed b t new)

  module _ (Related : S → T → Type 0) (alike : (s : S) (t : T) → Related s t → Alike Related s t) where
    pub taken-alike : (calls : List Call) (s : S) (t : T) → Related s t → taken_from one b s calls ≡ taken_from other b t calls
    unfolding taken_from
    taken-alike [] s t r = refl
    taken-alike (step_call c ∷ calls) s t r =
        let step = step_of one b s c in
        let here = alike s t r in
        let related = here.next c.inputs step.room in
        let there = alike (next_of one b s c) (next_of other b t c) related in
        let later = taken-alike calls (next_of one b s c) (next_of other b t c) related in
        λ i.
        step_taken
        (record {
          before = here.seen i;
          inputs = c.inputs;
          room = step.room;
          outcome = here.outcome c.inputs step.room i;
          after = there.seen i;
          shown = here.buffer c.inputs c.buffer i;
          ruling = there.ruling i;
          changed = here.times_wait i && not (there.times_wait i);
        })
        ∷ later i
    taken-alike (retime_call new ∷ calls) s t r =
        let here = alike s t r in
        let later = taken-alike calls (one.retimed b s new) (other.retimed b t new) (here.retimed new) in
        λ i. retime_taken new (here.retime_verdict new i) ∷ later i
