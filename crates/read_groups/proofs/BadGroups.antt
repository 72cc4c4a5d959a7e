-- What makes a group record bad, by its set and its mark.
use Rattle.std.proofs.Common.{◌≡◌, ℕ, ◌^◌, ◌<◌, ◌≤◌, true, false, not}
use Rattle.std.specs.Prelude.{eqb, count_ones}
use borrow.Author.Tests.{le-leb, lt-leb, lt-ltb, le-ltb, ne_eqb}
use Rattle.rules.specs.Personality.{bad_group}
use Rattle.laws.proofs.BitRanges.{ones-counted}

pub bad_set : (phases set mark : ℕ) → 2 ^ phases ≤ set → bad_group phases set mark ≡ true
unfolding bad_group
bad_set phases set mark h = rw (le-leb (2 ^ phases) set h)

pub bad_mark : (phases set mark : ℕ) → set < 2 ^ phases → 3 < mark → bad_group phases set mark ≡ true
unfolding bad_group
bad_mark phases set mark h l = rw (lt-leb (2 ^ phases) set h, lt-ltb 3 mark l)

pub bad_pedestrian : (phases set mark : ℕ) → set < 2 ^ phases → mark ≡ 2 → bad_group phases set mark ≡ not (eqb (count_ones set) 1)
unfolding bad_group
bad_pedestrian phases set mark small e = rw (lt-leb (2 ^ phases) set small, e, ones-counted phases set small)

pub good_other : (phases set mark : ℕ) → set < 2 ^ phases → mark ≤ 3 → (mark ≡ 2 → ⊥) → bad_group phases set mark ≡ false
unfolding bad_group
good_other phases set mark small l n = rw (lt-leb (2 ^ phases) set small, le-ltb 3 mark l, ne_eqb _ _ n)
