-- The call for the waits of a personality, by its own times: two bytes for each phase, then two for each movement, the lower byte first.
use Rattle.std.specs.Prelude.{ℕ, ◌+◌, ◌*◌, List, ltb, length, get_or}
use Rattle.std.proofs.lemmas.List.Edits.{sets}
use Rattle.rules.specs.Verdicts.{Verdict}
use Rattle.rules.specs.declared.site.Site.{Site}
use Rattle.rules.specs.Verdicts.{◌or_else◌, refuse_if}
use Rattle.rules.specs.Personality.{verdict_of}
use Rattle.rules.specs.Site.{site_of}
use Rattle.rules.specs.Waits.{waits_of}
use Rattle.rules.specs.Call.{bound_for, handed_back}
use Rattle.state_forms.specs.Forms.{two, parts_of}
use Rattle.board_answers.specs.Answers.{packed_outcome}

-- how many waits there are
abbrev pub wait_count : Site → ℕ
wait_count site = site.size.phases + site.size.movements

unfoldable pub wait_bytes : Site → List ℕ
wait_bytes site = parts_of (λ i. two.written (get_or (waits_of site) i 0)) (wait_count site)

-- the checks: the personality, then 14, the buffer is too short for the bytes
unfoldable pub waits_verdict : List ℕ → ℕ → Verdict
waits_verdict b room = verdict_of b or_else refuse_if (ltb room (2 * wait_count (site_of b))) 14 0

-- how many bytes are written, or the refusal
unfoldable pub waits_answer : List ℕ → ℕ → ℕ
waits_answer b room = packed_outcome (bound_for (waits_verdict b room) (2 * wait_count (site_of b)))

-- the buffer as the call returns: the bytes past them do not change, and after a refusal none does
unfoldable pub waits_after : List ℕ → List ℕ → List ℕ
waits_after b buffer = handed_back (waits_verdict b (length buffer)) (sets buffer 0 (wait_bytes (site_of b))) buffer
