-- The parts of a state, stored one behind the other, are the whole layout.
use Prim.Native.Nat.{ℕ, ◌+◌}
use mathlib.Core.List.{List}
use mathlib.Core.Path.{◌≡◌}
use native.Mathlib.Nat.{add-zero}
use lib.Seq.{sets}
use Rattle.rules.specs.declared.state.KeptState.{KeptState}
use Rattle.rules.specs.State.{idle}
use Rattle.state_forms.specs.Forms.{byte}
use Rattle.state_forms.proofs.Lawful.{row-law, both-law, stored-behind}
use Rattle.state_bytes.specs.Layout.{position, counts, demands, movement, movements, state}
use Rattle.state_bytes.proofs.Laws.{position-law, counts-law, demands-law, movement-law}

pub written :
    (s : KeptState) (b : List ℕ) (at : ℕ) →
    sets
    (sets
    (sets
    (sets (sets b (at + 0) (position.written s.core.position)) (at + 8) (counts.written s.core.counts))
    (at + 12)
    (demands.written s.core.demands))
    (at + 14)
    (movements.written s.core.movements))
    (at + 38)
    (byte.written s.kept)
    ≡ sets b at (state.written s)
written s b at =
    let head = s.core.position in
    let count = s.core.counts in
    let demand = s.core.demands in
    let records = s.core.movements in
    let to-counts = both-law position-law counts-law in
    let to-demands = both-law to-counts demands-law in
    let to-movements = both-law to-demands (row-law movement movement-law 8 idle) in
    rw (
      add-zero at,
      stored-behind position-law head b (counts.written count) at,
      stored-behind to-counts (head, count) b (demands.written demand) at,
      stored-behind to-demands ((head, count), demand) b (movements.written records) at,
      stored-behind to-movements (((head, count), demand), records) b (byte.written s.kept) at,
    )
