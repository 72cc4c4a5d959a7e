-- After k movements each phase has what these reach. In the turn of movement k the phases taken have what it adds too. The measure is the
-- rest, which loses a bit a turn.
use Rattle.std.proofs.Common.{ℕ, ◌<◌, ◌≡◌, length, get_or}
use Rattle.laws.proofs.LowestBit.{Left}
use Rattle.wait_bound_movements.specs.Longest.{no_longest}
use Rattle.wait_bound_movements.proofs.Reached.{Reached, ReachedBy}
use Rattle.wait_bound_movements.proofs.longest_of.Given as goal

abbrev pub invariant-loop-k : goal.invariant-loop-k
invariant-loop-k l =
    (length l.longest ≡ 8) × ((q : ℕ) → q < 8 → Reached l.crossings l.walks l.k q (get_or l.longest q no_longest))

abbrev pub invariant-loop-rest : goal.invariant-loop-rest
invariant-loop-rest l =
    (length l.longest ≡ 8) × Left (get_or l.crossings l.k 0) 8 l.rest × ReachedBy l.crossings l.walks l.k l.rest l.longest

abbrev pub decreases-loop-rest : goal.decreases-loop-rest
decreases-loop-rest l = l.rest
