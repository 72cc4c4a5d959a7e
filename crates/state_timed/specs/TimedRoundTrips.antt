-- The round trips of a timed state and its bytes, stated: writing and reading undo each other, on the states that the machine's types have
-- and on the bytes that are a state. Below them, a state byte by byte.
use Rattle.std.specs.Prelude.{ℕ, true, List, ◌∷◌, ◌++◌, ◌≡◌, length, drop, replicate}
use Rattle.rules.specs.declared.site.Times.{Times}
use Rattle.rules.specs.Kept.{fresh_kept}
use Rattle.rules.specs.Site.{no_phase_times, no_walk_times}
use Rattle.state_forms.specs.Forms.{AreBytes}
use Rattle.state_bytes.specs.Layout.{encoded}
use Rattle.state_timed.specs.TimedLayout.{timed_encoded, timed_decoded, is_timed, ProperTimed}
use Rattle.rules.specs.Timed.{TimedState}

-- ── From a state to bytes and back ──

abbrev pub EncodedHas336 : Type 0
EncodedHas336 = (s : TimedState) → length (timed_encoded s) ≡ 336

abbrev pub EncodedIsTimed : Type 0
EncodedIsTimed = (s : TimedState) → is_timed (timed_encoded s) ≡ true

abbrev pub EncodedIsBytes : Type 0
EncodedIsBytes = (s : TimedState) → ProperTimed s → AreBytes (timed_encoded s)

abbrev pub DecodedEncoded : Type 0
DecodedEncoded = (s : TimedState) → ProperTimed s → timed_decoded (timed_encoded s) ≡ s

-- ── From bytes to a state and back ──

abbrev pub DecodedIsProper : Type 0
DecodedIsProper = (b : List ℕ) → AreBytes b → ProperTimed (timed_decoded b)

abbrev pub EncodedDecoded : Type 0
EncodedDecoded = (b : List ℕ) → AreBytes b → is_timed b ≡ true → timed_encoded (timed_decoded b) ≡ b

-- ── Byte by byte ──

-- times of a site of two phases and one movement: L, M, X, G, Y, R of A are 0, 20, 300, 5, 30, 10, those of B 200, 20, 30, 5, 30, 10;
-- W 50, C1 60, C2 400; the kind 7 times are 0 and 40
abbrev pub day_times : Times
day_times =
    record {
      start = 100;
      phases =
          record { late = 0; minimum = 20; maximum = 300; gap = 5; yellow = 30; red = 10; early = 0 }
          ∷ record { late = 200; minimum = 20; maximum = 30; gap = 5; yellow = 30; red = 10; early = 40 }
          ∷ replicate 5 no_phase_times;
      walks = record { walk = 50; first = 60; second = 400 } ∷ replicate 7 no_walk_times;
    }

abbrev pub day_bytes : List ℕ
day_bytes =
    100 ∷ 0
    ∷ 0 ∷ 0 ∷ 20 ∷ 0 ∷ 44 ∷ 1 ∷ 5 ∷ 0 ∷ 30 ∷ 0 ∷ 10 ∷ 0
    ∷ 200 ∷ 0 ∷ 20 ∷ 0 ∷ 30 ∷ 0 ∷ 5 ∷ 0 ∷ 30 ∷ 0 ∷ 10 ∷ 0
    ∷ (replicate 60 0
    ++ (50 ∷ 0 ∷ 60 ∷ 0 ∷ 144 ∷ 1
    ∷ (replicate 42 0
    ++ (0 ∷ 0 ∷ 40 ∷ 0
    ∷ replicate 10 0))))

-- the fresh state under these times, with start red of one step more waiting
abbrev pub start_red_longer : TimedState
start_red_longer =
    record {
      core = fresh_kept.core;
      kept = fresh_kept.kept;
      ruling = day_times;
      waiting = record { present = true; times = record { start = 101; phases = day_times.phases; walks = day_times.walks } };
    }

abbrev pub StartRedLongerBytes : Type 0
StartRedLongerBytes =
    timed_encoded start_red_longer ≡ encoded fresh_kept ++ (day_bytes ++ (1 ∷ 101 ∷ drop 1 day_bytes))
