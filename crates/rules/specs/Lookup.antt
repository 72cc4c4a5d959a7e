-- The section lookup: the body of a section as a part of the personality, and the number and place of the report.
use Rattle.std.specs.Prelude.{ℕ, ◌-◌, Bool, not, ◌&&◌, ◌||◌, List, [], ◌∷◌, eqb, leb, take, drop, get_or, Ok, Err}
use Rattle.rules.specs.Types.{Verdict, Accepted, Refused, Report}
use Rattle.rules.specs.Verdicts.{◌or_else◌, refuse_if}
use Rattle.rules.specs.Personality.{verdict_of, body_at, body_length, edition_of, site_kind, site_head, phases_head, groups_head, conflicts_head, detectors_head, pedestrians_head, early_head, has_early, order_head, has_order}

-- the site section's kind, which is 1 or 8; kinds 2 to 6, and 7 and 9 if they are present
unfoldable pub held_kind : List ℕ → ℕ → Bool
held_kind b kind =
    eqb kind (site_kind (edition_of b))
    || (leb 2 kind && leb kind 6)
    || (eqb kind 7 && has_early b)
    || (eqb kind 9 && has_order b)

-- the heads in the order of the kinds; kinds 1 and 8 have the same place
abbrev pub heads : List ℕ → List ℕ
heads b =
    site_head
    ∷ phases_head
    ∷ groups_head b
    ∷ conflicts_head b
    ∷ detectors_head b
    ∷ pedestrians_head b
    ∷ early_head b
    ∷ site_head
    ∷ order_head b
    ∷ []

-- the head of the section of a kind that is held
unfoldable pub head_of : List ℕ → ℕ → ℕ
head_of b kind = get_or (heads b) (kind - 1) 0

-- The refusal of the personality, else 2 at 0 for a kind that is not held.
unfoldable pub lookup_verdict : List ℕ → ℕ → Verdict
lookup_verdict b kind = verdict_of b or_else refuse_if (not (held_kind b kind)) 2 0

-- the number and place of a verdict, 0 and 0 if it is acceptance
unfoldable pub report_of : Verdict → Report
report_of (Ok _) = record { number = 0; place = 0 }
report_of (Err r) = record { number = r.number; place = r.place }

unfoldable pub lookup_report : List ℕ → ℕ → Report
lookup_report b kind = report_of (lookup_verdict b kind)

-- The part of the bytes that is handed out: it starts behind the head and is as long as the head says.
unfoldable pub section_part : List ℕ → ℕ → List ℕ
section_part b kind = take (body_length b (head_of b kind)) (drop (body_at (head_of b kind)) b)

unfoldable pub part_for : Verdict → List ℕ → List ℕ
part_for (Ok _) part = part
part_for (Err r) part = []

unfoldable pub section_of : List ℕ → ℕ → List ℕ
section_of b kind = part_for (lookup_verdict b kind) (section_part b kind)
