-- The sections of a personality and their checks in order: numbers 1 to 12, 17, 18 and 21, each with its place. A place is a byte offset.
use Rattle.std.specs.Prelude.{ℕ, ◌+◌, ◌*◌, ◌/◌, ◌%◌, ◌^◌, Bool, not, ◌&&◌, ◌||◌, List, eqb, leb, ltb, length, if◌then◌else◌}
use Rattle.rules.specs.Types.{Verdict, Accepted, Edition, One, Two}
use Rattle.laws.specs.Folds.{any_of, count_of}
use Rattle.laws.specs.Bytes.{byte_at, two_at, four_at, bit}
use Rattle.rules.specs.Limits.{limits, within, start_red_setting, phase_settings, walk_settings, early_setting}
use Rattle.rules.specs.Verdicts.{◌or_else◌, refuse_if, first_of}

-- ── Sections: two bytes of body length, two bytes of kind, the body ──

unfoldable pub body_length : List ℕ → ℕ → ℕ
body_length b head = two_at b head

unfoldable pub kind_at : List ℕ → ℕ → ℕ
kind_at b head = two_at b (head + 2)

unfoldable pub body_at : ℕ → ℕ
body_at head = head + 4

-- the place of record i of a section whose records are width bytes
unfoldable pub record_at : ℕ → ℕ → ℕ → ℕ
record_at head width i = body_at head + i * width

-- a whole head of the kind is at the place; an optional section is present if its head is
unfoldable pub has_head : List ℕ → ℕ → ℕ → Bool
has_head b head kind = leb (head + 4) (length b) && eqb (kind_at b head) kind

-- ── The edition of the limits ──

abbrev pub site_head : ℕ
site_head = 0

-- the kind of the site section
abbrev pub site_kind : Edition → ℕ
site_kind One = 1
site_kind Two = 8

-- a site section of kind 8 means edition two; every other first section is held to edition one
unfoldable pub edition_of : List ℕ → Edition
edition_of b = if has_head b site_head 8 then Two else One

-- ── Counts, and the places of the heads ──

unfoldable pub phase_count : List ℕ → ℕ
phase_count b = byte_at b 4

unfoldable pub group_count : List ℕ → ℕ
group_count b = byte_at b 5

abbrev pub phases_head : ℕ
phases_head = 8

unfoldable pub groups_head : List ℕ → ℕ
groups_head b = body_at phases_head + phase_count b * 12

unfoldable pub conflicts_head : List ℕ → ℕ
conflicts_head b = body_at (groups_head b) + group_count b * 2

unfoldable pub detectors_head : List ℕ → ℕ
detectors_head b = body_at (conflicts_head b) + group_count b * 4

unfoldable pub pedestrians_head : List ℕ → ℕ
pedestrians_head b = body_at (detectors_head b) + body_length b (detectors_head b)

-- the place after a section
unfoldable pub past_section : List ℕ → ℕ → ℕ
past_section b head = body_at head + body_length b head

-- just past kind 6: the head of kind 7, if it is present
unfoldable pub early_head : List ℕ → ℕ
early_head b = past_section b (pedestrians_head b)

unfoldable pub has_early : List ℕ → Bool
has_early b = has_head b (early_head b) 7

-- just past kind 7, or past kind 6 if kind 7 is not present: the head of kind 9, if it is present
unfoldable pub order_head : List ℕ → ℕ
order_head b = if has_early b then past_section b (early_head b) else early_head b

unfoldable pub has_order : List ℕ → Bool
has_order b = has_head b (order_head b) 9

-- just past the last section
unfoldable pub end_of : List ℕ → ℕ
end_of b = if has_order b then past_section b (order_head b) else order_head b

-- ── Records ──

unfoldable pub group_set : List ℕ → ℕ → ℕ
group_set b g = byte_at b (record_at (groups_head b) 2 g)

unfoldable pub group_mark : List ℕ → ℕ → ℕ
group_mark b g = byte_at b (record_at (groups_head b) 2 g + 1)

unfoldable pub pedestrian : List ℕ → ℕ → Bool
pedestrian b g = eqb (group_mark b g) 2

unfoldable pub movement_count : List ℕ → ℕ
movement_count b = count_of (pedestrian b) (group_count b)

unfoldable pub conflict_set : List ℕ → ℕ → ℕ
conflict_set b g = four_at b (record_at (conflicts_head b) 4 g)

unfoldable pub detector_count : List ℕ → ℕ
detector_count b = body_length b (detectors_head b) / 2

unfoldable pub detector_phase : List ℕ → ℕ → ℕ
detector_phase b d = byte_at b (record_at (detectors_head b) 2 d)

unfoldable pub detector_mode : List ℕ → ℕ → ℕ
detector_mode b d = byte_at b (record_at (detectors_head b) 2 d + 1)

-- entry i of the order of phases
unfoldable pub order_at : List ℕ → ℕ → ℕ
order_at b i = byte_at b (record_at (order_head b) 1 i)

-- ── Checks, from top to bottom ──

-- A section's head, and that its body is present: 1, 2, 3, 1, all at the head.
unfoldable pub section_at : List ℕ → ℕ → ℕ → Bool → Verdict
section_at b head kind length_right =
    refuse_if (ltb (length b) (head + 4)) 1 head
    or_else refuse_if (not (eqb (kind_at b head) kind)) 2 head
    or_else refuse_if (not length_right) 3 head
    or_else refuse_if (ltb (length b) (body_at head + body_length b head)) 1 head

-- 5: a time outside its limits, which are those of the edition
unfoldable pub time_at : List ℕ → ℕ → ℕ → Verdict
time_at b place setting = refuse_if (not (within (limits (edition_of b)) setting (two_at b place))) 5 place

-- A record of two-byte times, field by field. The first field has the setting number given.
unfoldable pub times_at : List ℕ → ℕ → ℕ → ℕ → Verdict
times_at b place setting fields = first_of (λ f. time_at b (place + f * 2) (setting + f)) fields

-- Such records one after the other, from a section's head on.
unfoldable pub time_records : List ℕ → ℕ → ℕ → ℕ → ℕ → Verdict
time_records b head setting fields count = first_of (λ i. times_at b (record_at head (fields * 2) i) setting fields) count

-- A section of such records.
unfoldable pub timed_section : List ℕ → ℕ → ℕ → ℕ → ℕ → ℕ → Verdict
timed_section b head kind setting fields count =
    section_at b head kind (eqb (body_length b head) (count * (fields * 2))) or_else time_records b head setting fields count

-- kind 1, or kind 8: a first section of neither kind is number 2
unfoldable pub site_section : List ℕ → Verdict
site_section b =
    section_at b site_head (site_kind (edition_of b)) (eqb (body_length b site_head) 4)
    or_else refuse_if (not (leb 2 (phase_count b) && leb (phase_count b) 7)) 4 4
    or_else refuse_if (not (leb 1 (group_count b) && leb (group_count b) 32)) 4 5
    or_else time_at b 6 start_red_setting

-- kind 2: L, M, X, G, Y, R of each phase
unfoldable pub phases_section : List ℕ → Verdict
phases_section b = timed_section b phases_head 2 phase_settings 6 (phase_count b)

-- 6: a phase bit at or above P, a mark above 3, or a pedestrian group without exactly one phase
unfoldable pub bad_group : ℕ → ℕ → ℕ → Bool
bad_group phases set mark =
    leb (2 ^ phases) set || ltb 3 mark || (eqb mark 2 && not (eqb (count_of (λ p. bit p set) phases) 1))

-- 7: the ninth pedestrian group
unfoldable pub ninth_pedestrian : List ℕ → ℕ → Bool
ninth_pedestrian b g = pedestrian b g && eqb (count_of (pedestrian b) g) 8

unfoldable pub group_record : List ℕ → ℕ → Verdict
group_record b g =
    refuse_if (bad_group (phase_count b) (group_set b g) (group_mark b g)) 6 (record_at (groups_head b) 2 g)
    or_else refuse_if (ninth_pedestrian b g) 7 (record_at (groups_head b) 2 g)

-- 8: a phase in no group's set
unfoldable pub phase_without_group : List ℕ → Bool
phase_without_group b = any_of (λ p. not (any_of (λ g. bit p (group_set b g)) (group_count b))) (phase_count b)

unfoldable pub groups_section : List ℕ → Verdict
groups_section b =
    section_at b (groups_head b) 3 (eqb (body_length b (groups_head b)) (group_count b * 2))
    or_else first_of (group_record b) (group_count b)
    or_else refuse_if (phase_without_group b) 8 (groups_head b)

-- 9: the record of g has bit g, a bit at or above N, or a bit j while the record of j does not have bit g
unfoldable pub bad_conflict : List ℕ → ℕ → Bool
bad_conflict b g =
    bit g (conflict_set b g)
    || leb (2 ^ group_count b) (conflict_set b g)
    || any_of (λ j. bit j (conflict_set b g) && not (bit g (conflict_set b j))) (group_count b)

unfoldable pub share_phase : List ℕ → ℕ → ℕ → Bool
share_phase b g j = any_of (λ p. bit p (group_set b g) && bit p (group_set b j)) (phase_count b)

-- 10: the group conflicts with one that it shares a phase with
unfoldable pub conflict_in_phase : List ℕ → ℕ → Bool
conflict_in_phase b g = any_of (λ j. bit j (conflict_set b g) && share_phase b g j) (group_count b)

unfoldable pub conflicts_section : List ℕ → Verdict
conflicts_section b =
    section_at b (conflicts_head b) 4 (eqb (body_length b (conflicts_head b)) (group_count b * 4))
    or_else first_of (λ g. refuse_if (bad_conflict b g) 9 (record_at (conflicts_head b) 4 g)) (group_count b)
    or_else first_of (λ g. refuse_if (conflict_in_phase b g) 10 (record_at (conflicts_head b) 4 g)) (group_count b)

-- 0 does not call, 1 calls without lock, 2 calls with lock; plus 4 if it extends
unfoldable pub known_mode : ℕ → Bool
known_mode mode = ltb (mode % 4) 3 && ltb (mode / 4) 2

-- 11: a phase at or above P, or a mode not 0, 1, 2, 4, 5, 6
unfoldable pub bad_detector : ℕ → ℕ → ℕ → Bool
bad_detector phases phase mode = leb phases phase || not (known_mode mode)

-- detector record d is one
unfoldable pub bad_detector_at : List ℕ → ℕ → Bool
bad_detector_at b d = bad_detector (phase_count b) (detector_phase b d) (detector_mode b d)

unfoldable pub detector_record : List ℕ → ℕ → Verdict
detector_record b d = refuse_if (bad_detector_at b d) 11 (record_at (detectors_head b) 2 d)

unfoldable pub detectors_section : List ℕ → Verdict
detectors_section b =
    section_at b (detectors_head b) 5 (eqb (body_length b (detectors_head b) % 2) 0 && leb (body_length b (detectors_head b)) 96)
    or_else first_of (detector_record b) (detector_count b)

-- kind 6: W, C1, C2 of each movement
unfoldable pub pedestrians_section : List ℕ → Verdict
pedestrians_section b = timed_section b (pedestrians_head b) 6 walk_settings 3 (movement_count b)

-- kind 7, if it is present: a time of early cut-off green for each phase
unfoldable pub early_section : List ℕ → Verdict
early_section b = if has_early b then timed_section b (early_head b) 7 early_setting 1 (phase_count b) else Accepted

-- 18: not each phase once
unfoldable pub phase_not_once : List ℕ → Bool
phase_not_once b = any_of (λ p. not (eqb (count_of (λ i. eqb (order_at b i) p) (phase_count b)) 1)) (phase_count b)

-- kind 9, if it is present: all phases in running order
unfoldable pub order_section : List ℕ → Verdict
order_section b =
    if has_order b
    then
    section_at b (order_head b) 9 (eqb (body_length b (order_head b)) (phase_count b))
    or_else refuse_if (phase_not_once b) 18 (order_head b)
    else Accepted

-- detector d calls phase p, with lock or without
unfoldable pub calls_phase : List ℕ → ℕ → ℕ → Bool
calls_phase b p d = eqb (detector_phase b d) p && not (eqb (detector_mode b d % 4) 0)

-- group g is a pedestrian group of phase p
unfoldable pub walks_phase : List ℕ → ℕ → ℕ → Bool
walks_phase b p g = pedestrian b g && bit p (group_set b g)

-- 21: a phase with neither a calling detector nor a pedestrian group
unfoldable pub phase_without_caller : List ℕ → Bool
phase_without_caller b =
    any_of (λ p. not (any_of (calls_phase b p) (detector_count b) || any_of (walks_phase b p) (group_count b))) (phase_count b)

-- a group that stops early
unfoldable pub stops_early : List ℕ → ℕ → Bool
stops_early b g = eqb (group_mark b g) 3

-- 17: a group that stops early, without a section of kind 7
unfoldable pub early_missing : List ℕ → Verdict
early_missing b =
    first_of (λ g. refuse_if (stops_early b g && not (has_early b)) 17 (record_at (groups_head b) 2 g)) (group_count b)

-- 12: bytes left over from a place on
unfoldable pub left_over : List ℕ → ℕ → Verdict
left_over b place = refuse_if (ltb place (length b)) 12 place

-- After kind 6: kinds 7 and 9 if they are present; then 21; then 17; then 12, bytes left over.
unfoldable pub after_pedestrians : List ℕ → Verdict
after_pedestrians b =
    early_section b
    or_else order_section b
    or_else refuse_if (phase_without_caller b) 21 (detectors_head b)
    or_else early_missing b
    or_else left_over b (end_of b)

unfoldable pub verdict_of : List ℕ → Verdict
verdict_of b =
    site_section b
    or_else phases_section b
    or_else groups_section b
    or_else conflicts_section b
    or_else detectors_section b
    or_else pedestrians_section b
    or_else after_pedestrians b
