-- Worked cases of the cabinet's calls, in a single list with one statement: each of them holds. The site is the junction of two phases, which has two
-- outputs and a wait bound of 270.
use Rattle.std.specs.Prelude.{ℕ, ◌-◌, List, [], ◌∷◌, ◌++◌, ◌≡◌, length, take, replicate, set}
use Rattle.rules.specs.Junctions.{junction, slower}
use Rattle.rules.specs.Kept.{fresh_kept}
use Rattle.rules.specs.CallCases.{AllHold, ruled_by}
use Rattle.state_forms.specs.Forms.{two}
use Rattle.state_timed.specs.TimedLayout.{timed_bytes, timed_encoded}
use Rattle.board_answers.specs.Answers.{packed}
use Rattle.cabinet_records.specs.declared.Record.{Record}
use Rattle.cabinet_records.specs.Cabinet.{free_record, holding, fresh_bytes, Returned, Act, place_site, step_site, take_out, doing}

-- A list of calls, each with the row and the outputs that the call before returned: their answers, and the outputs after the last of them. Or calls
-- that all get the same row and outputs: their answers. Or what one call returns.
pub data Case : Type 0 where
  calling : List Record → List ℕ → List Act → List ℕ → List ℕ → Case
  answering : List Record → List ℕ → List Act → List ℕ → Case
  returning : List Record → List ℕ → Act → Returned → Case

unfoldable pub answers_of : List Record → List ℕ → List Act → List ℕ
answers_of row out [] = []
answers_of row out (act ∷ acts) = (doing row out act).answer ∷ answers_of (doing row out act).row (doing row out act).outputs acts

unfoldable pub outputs_after : List Record → List ℕ → List Act → List ℕ
outputs_after row out [] = out
outputs_after row out (act ∷ acts) = outputs_after (doing row out act).row (doing row out act).outputs acts

unfoldable pub answers_each : List Record → List ℕ → List Act → List ℕ
answers_each row out [] = []
answers_each row out (act ∷ acts) = (doing row out act).answer ∷ answers_each row out acts

abbrev pub Holds : Case → Type 0
Holds (calling row out acts answers last) = (answers_of row out acts ≡ answers) × (outputs_after row out acts ≡ last)
Holds (answering row out acts answers) = answers_each row out acts ≡ answers
Holds (returning row out act returned) = doing row out act ≡ returned

-- ── Rows ──

unfoldable pub four_free : List Record
four_free = replicate 4 free_record

-- 32 outputs that show red
unfoldable pub red_outputs : List ℕ
red_outputs = replicate 32 0

-- held by another number than 1; its length is above its room; its second output is the 33rd; its state is none
unfoldable pub beyond : Record
beyond = record { held = 7; first = 31; length = 255 ∷ 255 ∷ []; personality = junction; state = [] }

-- its state is none, and bytes are left behind its personality
unfoldable pub stateless : Record
stateless = record { held = 255; first = 0; length = two.written (length junction); personality = junction ++ 9 ∷ 9 ∷ []; state = replicate timed_bytes 255 }

-- free, with the bytes of a site in it
unfoldable pub old_bytes : Record
old_bytes = record { held = 0; first = 4; length = two.written (length junction); personality = junction; state = fresh_bytes junction }

-- its personality would be refused: the last head, at 64, is cut
unfoldable pub refused_site : Record
refused_site = record { held = 1; first = 8; length = two.written (length junction - 1); personality = junction; state = fresh_bytes junction }

-- the same, and its second output would be the 33rd
unfoldable pub refused_past : Record
refused_past = record { held = 1; first = 31; length = two.written (length junction - 1); personality = junction; state = fresh_bytes junction }

-- its length is 324, by its higher byte, and zeros stand behind the junction
unfoldable pub longer : Record
longer = record { held = 1; first = 8; length = 68 ∷ 1 ∷ []; personality = junction ++ replicate 409 0; state = fresh_bytes junction }

unfoldable pub odd_row : List Record
odd_row = beyond ∷ stateless ∷ old_bytes ∷ refused_site ∷ []

unfoldable pub placed_row : List Record
placed_row = set four_free 0 (holding junction 0 (fresh_bytes junction))

-- the same, if the times of another personality rule
unfoldable pub retimed_row : List Record
retimed_row = set four_free 0 (holding junction 0 (timed_encoded (ruled_by slower fresh_kept)))

-- ── The cases ──

unfoldable pub cases : List Case
cases =
    -- the worked list of the request
    calling four_free red_outputs
    (place_site junction 0 0
    ∷ place_site junction 1 1
    ∷ place_site junction 1 2
    ∷ step_site 1 0
    ∷ step_site 0 4
    ∷ take_out 2
    ∷ take_out 0
    ∷ place_site junction 3 30
    ∷ place_site junction 2 31
    ∷ step_site 4 0
    ∷ [])
    (0 ∷ 25 ∷ 0 ∷ packed 0 270 ∷ 15 ∷ 24 ∷ 0 ∷ 0 ∷ 25 ∷ 24 ∷ [])
    (4 ∷ 4 ∷ replicate 30 0)
    -- placing, with bytes behind the 32nd output
    ∷ returning four_free (replicate 33 9) (place_site junction 0 1)
    (record {
      answer = 0;
      row = holding junction 1 (fresh_bytes junction) ∷ free_record ∷ free_record ∷ free_record ∷ [];
      outputs = 9 ∷ 0 ∷ 0 ∷ replicate 30 9;
    })
    -- taking out: the state does not matter, and the others stay as they are
    ∷ returning odd_row (replicate 32 9) (take_out 1)
    (record { answer = 0; row = beyond ∷ free_record ∷ old_bytes ∷ refused_site ∷ []; outputs = 4 ∷ 4 ∷ replicate 30 9 })
    -- a refused placing
    ∷ returning odd_row red_outputs (place_site junction 2 1) (record { answer = 25; row = odd_row; outputs = red_outputs })
    -- stepping and taking out, with inputs that are stray and no output buffer: past the 32nd output; no state; free; a refused personality; no such record
    ∷ answering odd_row []
    (step_site 0 4
    ∷ take_out 0
    ∷ step_site 1 4
    ∷ take_out 1
    ∷ step_site 2 4
    ∷ take_out 2
    ∷ step_site 3 4
    ∷ take_out 3
    ∷ step_site 4 4
    ∷ take_out 4
    ∷ [])
    (25 ∷ 25 ∷ 13 ∷ 14 ∷ 24 ∷ 24 ∷ packed 1 64 ∷ packed 1 64 ∷ 24 ∷ 24 ∷ [])
    -- a held personality is refused for itself, and not for its outputs past the 32nd
    ∷ answering (set odd_row 3 refused_past) [] (step_site 3 4 ∷ take_out 3 ∷ []) (packed 1 64 ∷ packed 1 64 ∷ [])
    -- both bytes of a length count
    ∷ answering (set odd_row 3 longer) red_outputs (step_site 3 0 ∷ take_out 3 ∷ []) (packed 12 68 ∷ packed 12 68 ∷ [])
    -- placing without an output buffer: the personality; no such record; not free; past the 32nd output; overlapping one, two; short
    ∷ answering odd_row []
    (place_site [] 4 99
    ∷ place_site junction 4 99
    ∷ place_site junction 3 99
    ∷ place_site junction 2 31
    ∷ place_site junction 2 30
    ∷ place_site junction 2 1
    ∷ place_site junction 2 2
    ∷ [])
    (1 ∷ 24 ∷ 24 ∷ 25 ∷ 25 ∷ 25 ∷ 14 ∷ [])
    -- beside other records, and on the outputs of one whose personality would be refused
    ∷ answering odd_row red_outputs (place_site junction 2 2 ∷ place_site junction 2 8 ∷ place_site junction 2 29 ∷ []) (0 ∷ 0 ∷ 0 ∷ [])
    -- on the outputs of a free record's old bytes, and in that record
    ∷ answering (old_bytes ∷ free_record ∷ free_record ∷ free_record ∷ []) red_outputs (place_site junction 1 4 ∷ place_site junction 0 4 ∷ []) (0 ∷ 0 ∷ [])
    -- a row of three and one of five records
    ∷ answering (take 3 odd_row) red_outputs (place_site [] 2 8 ∷ place_site junction 2 8 ∷ step_site 1 0 ∷ take_out 1 ∷ []) (1 ∷ 24 ∷ 24 ∷ 24 ∷ [])
    ∷ answering (odd_row ++ free_record ∷ []) red_outputs (place_site junction 2 8 ∷ step_site 1 0 ∷ take_out 1 ∷ []) (24 ∷ 24 ∷ 24 ∷ [])
    -- 15, then 14, with a buffer of 31 bytes, although the site's own outputs are in it
    ∷ answering placed_row (replicate 31 0) (step_site 0 4 ∷ step_site 0 0 ∷ take_out 0 ∷ place_site junction 1 2 ∷ []) (15 ∷ 14 ∷ 14 ∷ 14 ∷ [])
    -- the wait is that of the times that rule in the state
    ∷ answering retimed_row red_outputs (step_site 0 0 ∷ []) (packed 0 460 ∷ [])
    ∷ []

unfoldable pub CabinetCasesHold : Type 0
CabinetCasesHold = AllHold Holds cases
