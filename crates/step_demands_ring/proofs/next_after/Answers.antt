-- The search goes round the ring from the place of the phase.
use Rattle.std.proofs.Common.{◌∙◌, ℕ, Option, length, ap}
use Rattle.std.specs.Option.{unwrap_or}
use Rattle.laws.specs.Bytes.{bit}
use Rattle.step_demands_ring.proofs.Ring.{next-found}
use Rattle.step_demands_ring.proofs.next_after.Goals as goal

pub returns : goal.returns
returns c =
    let a = c.args in
    let own = c.unwrap_or-at.ensures ∙ ap (λ (o : Option ℕ). unwrap_or o (length a.ring.now)) c.place_of.ensures in
    rw (c.search.ensures, c.split_at.ensures.back, c.split_at.ensures.front)
    (next-found a.ring.now a.phase c.unwrap_or-at.result (λ p. bit p a.set) own)
