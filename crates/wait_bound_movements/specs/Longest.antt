-- Internal: no promise cites this file. A and C of a phase without movements.
use Rattle.wait_bound_movements.specs.declared.Longest.{Longest}

abbrev pub no_longest : Longest
no_longest = record { walk = 0; clearance = 0 }
