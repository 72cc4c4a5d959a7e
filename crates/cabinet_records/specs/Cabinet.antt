-- Request ten of document 02: four sites in one cabinet. The cabinet has a row of four records and 32 outputs. One call places a site, one steps it,
-- one takes it out. A step does to its record's bytes and to its own outputs what the step call on bytes does (board_step/specs/StepCall.antt).
use Rattle.std.specs.Prelude.{ℕ, ◌+◌, ◌-◌, Bool, true, false, not, ◌&&◌, ◌||◌, List, [], ◌++◌, ◌≡◌, eqb, ltb, length, take, drop, get_or, replicate, set, if◌then◌else◌, Ok, Err}
use Rattle.rules.specs.Verdicts.{Verdict}
use Rattle.rules.specs.Verdicts.{Refused}
use Rattle.laws.specs.Folds.{any_of}
use Rattle.rules.specs.Verdicts.{◌or_else◌, refuse_if}
use Rattle.rules.specs.Personality.{verdict_of}
use Rattle.rules.specs.Site.{site_of}
use Rattle.rules.specs.Timed.{fresh_timed}
use Rattle.rules.specs.Colours.{red}
use Rattle.rules.specs.Laws.{greatest_length}
use Rattle.state_forms.specs.Forms.{two}
use Rattle.state_timed.specs.TimedLayout.{timed_bytes, timed_encoded}
use Rattle.board_answers.specs.Answers.{packed_verdict}
use Rattle.board_step.specs.StepCall.{step_answer, state_after, colours_after}
use Rattle.cabinet_records.specs.declared.Record.{Record}

abbrev pub record_count : ℕ
record_count = 4

abbrev pub output_count : ℕ
output_count = 32

-- what the outputs of a site show after it is taken out
abbrev pub dark : ℕ
dark = 4

-- ── Records: any numbers are one ──

unfoldable pub is_free : Record → Bool
is_free r = eqb r.held 0

-- the length of the personality, in two bytes, the lower one first
unfoldable pub length_of : Record → ℕ
length_of r = two.read r.length 0

-- the personality that a record holds; a length above the room counts as the room
unfoldable pub personality_of : Record → List ℕ
personality_of r = take (length_of r) r.personality

-- a record of zeros
unfoldable pub free_record : Record
free_record =
    record { held = 0; first = 0; length = two.written 0; personality = replicate greatest_length 0; state = replicate timed_bytes 0 }

-- a record that holds a personality, with zeros behind it, a first output and the bytes of a state
unfoldable pub holding : List ℕ → ℕ → List ℕ → Record
holding b first state =
    record {
      held = 1;
      first = first;
      length = two.written (length b);
      personality = b ++ replicate (greatest_length - length b) 0;
      state = state;
    }

unfoldable pub with_state : Record → List ℕ → Record
with_state r state = record { held = r.held; first = r.first; length = r.length; personality = r.personality; state = state }

-- the arrays have their lengths; every record of the type is such a record (`cabinet_records::shaped`)
pub record Shaped (r : Record) : Type 0 where
  pub size : length r.length ≡ two.width
  pub personality : length r.personality ≡ greatest_length
  pub state : length r.state ≡ timed_bytes

-- ── The row ──

-- record k
unfoldable pub record_of : List Record → ℕ → Record
record_of row k = get_or row k free_record

-- a row of another length has no records
unfoldable pub has_record : List Record → ℕ → Bool
has_record row k = eqb (length row) record_count && ltb k record_count

-- ── Outputs ──

-- a site has one output for each of its groups
unfoldable pub outputs_of : List ℕ → ℕ
outputs_of b = (site_of b).size.groups

-- so many outputs from the first on go past the 32nd
unfoldable pub past_last : ℕ → ℕ → Bool
past_last first count = ltb output_count (first + count)

unfoldable pub is_accepted : Verdict → Bool
is_accepted (Ok _) = true
is_accepted (Err r) = false

-- a free record has no outputs, and one whose personality would be refused has none
unfoldable pub has_outputs : Record → Bool
has_outputs r = not (is_free r) && is_accepted (verdict_of (personality_of r))

-- n outputs from f on and m outputs from g on have one in common; n and m are not 0
unfoldable pub meet : ℕ → ℕ → ℕ → ℕ → Bool
meet f n g m = ltb f (g + m) && ltb g (f + n)

-- some of the outputs from the first on are those of the record
unfoldable pub meets_record : ℕ → ℕ → Record → Bool
meets_record first count r = has_outputs r && meet first count r.first (outputs_of (personality_of r))

-- some of them are those of a record other than k
unfoldable pub overlaps : List Record → ℕ → ℕ → ℕ → Bool
overlaps row k first count = any_of (λ j. not (eqb j k) && meets_record first count (record_of row j)) record_count

unfoldable pub is_short : List ℕ → Bool
is_short out = ltb (length out) output_count

-- the buffer with these bytes from the first output on
unfoldable pub written_at : List ℕ → ℕ → List ℕ → List ℕ
written_at out first new = take first out ++ (new ++ drop (first + length new) out)

-- the part of the buffer that a step writes: the record's own outputs; of a short buffer nothing, so that the step refuses it after 13 and 15
unfoldable pub outputs_in : List ℕ → ℕ → ℕ → List ℕ
outputs_in out first count = if is_short out then [] else take count (drop first out)

unfoldable pub own_outputs : Record → List ℕ → List ℕ
own_outputs r out = outputs_in out r.first (outputs_of (personality_of r))

-- ── Refusals, in their order; all places but a personality's own are 0 ──

-- 24: no such record, or it is not free. 25: past the 32nd output, or overlapping
unfoldable pub placing_verdict : List Record → List ℕ → List ℕ → ℕ → ℕ → Verdict
placing_verdict row out b k first =
    verdict_of b
    or_else refuse_if (not (has_record row k) || not (is_free (record_of row k))) 24 0
    or_else refuse_if (past_last first (outputs_of b) || overlaps row k first (outputs_of b)) 25 0
    or_else refuse_if (is_short out) 14 0

-- what stepping and taking out have in common. 24: no such record, or it is free
unfoldable pub held_verdict : List Record → ℕ → Verdict
held_verdict row k =
    refuse_if (not (has_record row k) || is_free (record_of row k)) 24 0
    or_else verdict_of (personality_of (record_of row k))
    or_else refuse_if (past_last (record_of row k).first (outputs_of (personality_of (record_of row k)))) 25 0

unfoldable pub taking_verdict : List Record → List ℕ → ℕ → Verdict
taking_verdict row out k = held_verdict row k or_else refuse_if (is_short out) 14 0

-- ── The calls ──

-- the answer, and the row and the outputs as the call returns
pub record Returned : Type 0 where
  pub answer : ℕ
  pub row : List Record
  pub outputs : List ℕ

-- a refusal leaves the row and the outputs
unfoldable pub returned_for : Verdict → Returned → List Record → List ℕ → Returned
returned_for (Ok _) done row out = done
returned_for (Err r) done row out = record { answer = packed_verdict (Refused r.number r.place); row = row; outputs = out }

-- the bytes of the fresh state of a personality
abbrev pub fresh_bytes : List ℕ → List ℕ
fresh_bytes b = timed_encoded (fresh_timed (site_of b))

-- a site begins fresh, with its outputs red
unfoldable pub placing : List Record → List ℕ → List ℕ → ℕ → ℕ → Returned
placing row out b k first =
    returned_for (placing_verdict row out b k first)
    (record {
      answer = 0;
      row = set row k (holding b first (fresh_bytes b));
      outputs = written_at out first (replicate (outputs_of b) red);
    })
    row
    out

-- the step call on the record's bytes, with a part of the outputs as its colour buffer: it may refuse with 13, 15 or 14
unfoldable pub stepped : List Record → List ℕ → ℕ → ℕ → Record → List ℕ → Returned
stepped row out k inputs r part =
    record {
      answer = step_answer (personality_of r) r.state inputs (length part);
      row = set row k (with_state r (state_after (personality_of r) r.state inputs (length part)));
      outputs = written_at out r.first (colours_after (personality_of r) r.state inputs part);
    }

unfoldable pub stepping : List Record → List ℕ → ℕ → ℕ → Returned
stepping row out k inputs =
    returned_for (held_verdict row k) (stepped row out k inputs (record_of row k) (own_outputs (record_of row k) out)) row out

-- the record is free, and its outputs are dark
unfoldable pub taking_out : List Record → List ℕ → ℕ → Returned
taking_out row out k =
    returned_for (taking_verdict row out k)
    (record {
      answer = 0;
      row = set row k free_record;
      outputs = written_at out (record_of row k).first (replicate (outputs_of (personality_of (record_of row k))) dark);
    })
    row
    out

-- ── Any of the three ──

-- place a personality in a record, from a first output on; step a record with 64 input bits; take a record out
pub data Act : Type 0 where
  place_site : List ℕ → ℕ → ℕ → Act
  step_site : ℕ → ℕ → Act
  take_out : ℕ → Act

unfoldable pub doing : List Record → List ℕ → Act → Returned
doing row out (place_site b k first) = placing row out b k first
doing row out (step_site k inputs) = stepping row out k inputs
doing row out (take_out k) = taking_out row out k
