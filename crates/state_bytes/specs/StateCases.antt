-- Two states, byte by byte.
use Rattle.std.specs.Prelude.{◌+◌, [], ◌∷◌, ◌≡◌, Some}
use Rattle.rules.specs.declared.state.Interval.TheVariants.{Yellow}
use Rattle.rules.specs.declared.state.KeptState.{KeptState}
use Rattle.rules.specs.declared.state.Stage.TheVariants.{ClearanceOne, ClearanceTwo}
use Rattle.rules.specs.State.{idle}
use Rattle.rules.specs.Kept.{fresh_kept}
use Rattle.state_bytes.specs.Layout.{encoded}

abbrev pub FreshBytes : Type 0
FreshBytes =
    encoded fresh_kept
    ≡ 0 ∷ 0 ∷ 1 ∷ 0 ∷ 0 ∷ 0 ∷ 0 ∷ 0 ∷ 0 ∷ 0 ∷ 0 ∷ 0
    ∷ 0 ∷ 0
    ∷ 0 ∷ 1 ∷ 0 ∷ 0 ∷ 1 ∷ 0 ∷ 0 ∷ 1 ∷ 0 ∷ 0 ∷ 1 ∷ 0 ∷ 0 ∷ 1 ∷ 0 ∷ 0 ∷ 1 ∷ 0 ∷ 0 ∷ 1 ∷ 0 ∷ 0 ∷ 1 ∷ 0
    ∷ 0
    ∷ []

-- phase C in yellow at age 300, from A to F, with the locks of B and G, the button of movement 1, two movements that are not idle, and B, C
-- and G kept
abbrev pub leaving : KeptState
leaving =
    record {
      core =
          record {
            position = record { phase = 2; interval = Yellow; age = 300; previous = Some 0; target = Some 5 };
            counts = record { gap = 513; maximum = 1500 };
            demands = record { locks = 2 + 64; buttons = 2 };
            movements =
                idle
                ∷ record { stage = ClearanceTwo; age = 260 }
                ∷ idle ∷ idle ∷ idle ∷ idle ∷ idle
                ∷ record { stage = ClearanceOne; age = 7 }
                ∷ [];
          };
      kept = 2 + 4 + 64;
    }

abbrev pub LeavingBytes : Type 0
LeavingBytes =
    encoded leaving
    ≡ 2 ∷ 5 ∷ 44 ∷ 1 ∷ 1 ∷ 0 ∷ 1 ∷ 5 ∷ 1 ∷ 2 ∷ 220 ∷ 5
    ∷ 66 ∷ 2
    ∷ 0 ∷ 1 ∷ 0 ∷ 3 ∷ 4 ∷ 1 ∷ 0 ∷ 1 ∷ 0 ∷ 0 ∷ 1 ∷ 0 ∷ 0 ∷ 1 ∷ 0 ∷ 0 ∷ 1 ∷ 0 ∷ 0 ∷ 1 ∷ 0 ∷ 2 ∷ 7 ∷ 0
    ∷ 70
    ∷ []
