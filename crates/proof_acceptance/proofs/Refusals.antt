-- Every refusal is a written one: one walk over the checks in their order, for whatever is allowed of a number and a place. A check's
-- place is in the personality because the checks before it passed: a section that passed ends at the next head, a body that is there
-- holds its records and their fields, and the counts bound where each section ends.
use Prim.Native.Nat.{ℕ, ◌+◌, ◌*◌, ◌≤◌, ◌<◌}
use mathlib.Core.Bool.{Bool, true, false}
use mathlib.Core.List.{List}
use mathlib.Core.Logic.{inl, inr, ⊎_elim}
use mathlib.Core.Path.{◌≡◌, refl, sym}
use lib.Dec.{eqb}
use lib.ListN.{length}
use native.Mathlib.Omega.{arith}
use Rattle.rules.specs.Verdicts.{Verdict, Accepted, Refused, ◌or_else◌, refuse_if, first_of}
use Rattle.rules.specs.Limits.{phase_settings, walk_settings, early_setting}
use Rattle.std.specs.Prelude.{if◌then◌else◌}
use Rattle.rules.specs.Personality.{site_kind, edition_of, body_at, body_length, record_at, phase_count, group_count, site_head, phases_head, groups_head, conflicts_head, detectors_head, pedestrians_head, movement_count, detector_count, past_section, early_head, has_early, order_head, has_order, end_of, section_at, time_at, times_at, site_section, time_records, timed_section, phases_section, group_record, groups_section, conflicts_section, detector_record, detectors_section, pedestrians_section, early_section, order_section, phase_without_caller, early_missing, left_over, after_pedestrians, verdict_of}
use Rattle.rules.specs.Site.{site_of}
use Rattle.rules.specs.Timed.{TimedState, timed_valid}
use Rattle.rules.specs.Call.{step_verdict, checks_by}
use Rattle.rules.specs.TimedCall.{retime_checks_by, retime_verdict}
use Rattle.rules.specs.Laws.{reading_number, step_number, section_length, greatest_length, AcceptedIsShort, PlaceIn, Written}
use Rattle.rules.specs.TimedLaws.{retime_number, RefusalIsWritten, RetimeRefusalIsWritten}
use Rattle.rules.proofs.Verdicts.{refused-not-accepted, or-refused, refuse-failed, first-refused}
use Rattle.proof_acceptance.proofs.Sections.{SiteAccepted, GroupsAccepted, DetectorsAccepted, PedestriansAccepted, EarlyAccepted, OrderAccepted, records-held, record-within, detectors-held, site-accepted, phases-accepted, groups-accepted, conflicts-accepted, detectors-accepted, pedestrians-accepted, early-accepted, order-accepted, sections-accepted}

-- ── A check, checks in order, and the first of a row ──

module _ (Allowed : ℕ → ℕ → Type 0) where
  -- every refusal of the verdict is allowed
  abbrev pub Refusals : Verdict → Type 0
  Refusals v = (number place : ℕ) → v ≡ Refused number place → Allowed number place

  pub if-refusals : (t : Bool) (number place : ℕ) → Allowed number place → Refusals (refuse_if t number place)
  if-refusals t number place allowed n p h =
      let w = refuse-failed t number place h in
      rw (w.1, w.2) allowed

  -- the later check may rest on acceptance by the first
  pub or-refusals : (v w : Verdict) → Refusals v → (v ≡ Accepted → Refusals w) → Refusals (v or_else w)
  or-refusals v w first later n p h =
      ⊎_elim
      (λ (e : v ≡ Refused n p). first n p e)
      (λ (e : (v ≡ Accepted) × (w ≡ Refused n p)). later e.0 n p e.1)
      (or-refused v w h)

  first-refusals : (f : ℕ → Verdict) (m : ℕ) → ((i : ℕ) → i < m → Refusals (f i)) → Refusals (first_of f m)
  first-refusals f m one n p h = let w = first-refused f m h in one w.0 w.1 n p w.2

  -- a check that is made under a condition
  under-refusals : (t : Bool) (v : Verdict) → Refusals v → Refusals (if t then v else Accepted)
  under-refusals true v made n p h = made n p h
  under-refusals false v made n p h = absurd (refused-not-accepted (sym h))

-- ── How far the sections go ──

module _ (b : List ℕ) where
  -- there is room for kinds 7 and 9 after kind 6
  end-near :
      SiteAccepted b →
      GroupsAccepted b →
      body_length b (detectors_head b) ≤ 96 →
      body_at (pedestrians_head b) + movement_count b * 6 + section_length (phase_count b) 2 + section_length (phase_count b) 1 ≤ greatest_length
  unfolding pedestrians_head detectors_head conflicts_head groups_head body_at
  end-near counts groups short = omega arith

  -- a section that may be there, with a record for each phase, ends within the bytes and no further on than its records do
  optional-placed :
      (t : Bool) (head width : ℕ) →
      head ≤ length b →
      (t ≡ true → (body_length b head ≡ phase_count b * width) × (body_at head + phase_count b * width ≤ length b)) →
      let end = if t then past_section b head else head in
      (end ≤ length b) × (end ≤ head + section_length (phase_count b) width)
  unfolding past_section body_at
  optional-placed true head width l there = omega (arith, there refl)
  optional-placed false head width l there = omega arith

  order-placed :
      PedestriansAccepted b →
      (has_early b ≡ true → EarlyAccepted b) →
      (order_head b ≤ length b) × (order_head b ≤ early_head b + section_length (phase_count b) 2)
  unfolding order_head
  order-placed told early =
      optional-placed (has_early b) (early_head b) 2 told.next (λ there. ((early there).body, (early there).next))

  end-placed :
      order_head b ≤ length b →
      (has_order b ≡ true → OrderAccepted b) →
      (end_of b ≤ length b) × (end_of b ≤ order_head b + section_length (phase_count b) 1)
  unfolding end_of
  end-placed l order =
      optional-placed (has_order b) (order_head b) 1 l (λ there. omega (arith, (order there).body, (order there).next))

-- ── The personality's checks ──

module _
    (b : List ℕ)
    (Allowed : ℕ → ℕ → Type 0)
    (allowed : (number place : ℕ) → reading_number number ≡ true → PlaceIn b place → Allowed number place)
  where
    check : (t : Bool) (number place : ℕ) → reading_number number ≡ true → PlaceIn b place → Refusals Allowed (refuse_if t number place)
    check t number place known l = if-refusals Allowed t number place (allowed number place known l)

    section : (head kind : ℕ) (length_right : Bool) → PlaceIn b head → Refusals Allowed (section_at b head kind length_right)
    unfolding section_at
    section head kind right l =
        or-refusals Allowed _ _ (check _ 1 head refl l)
        (λ e. or-refusals Allowed _ _ (check _ 2 head refl l)
        (λ e. or-refusals Allowed _ _ (check _ 3 head refl l) (λ e. check _ 1 head refl l)))

    -- a section of n records, then what rests on its body being there
    records :
        (head kind n width : ℕ) (rest : Verdict) →
        PlaceIn b head →
        body_at head + n * width ≤ greatest_length →
        (PlaceIn b (body_at head + n * width) → Refusals Allowed rest) →
        Refusals Allowed (section_at b head kind (eqb (body_length b head) (n * width)) or_else rest)
    records head kind n width rest l near later =
        or-refusals Allowed _ rest (section head kind _ l) (λ e. later (records-held b head kind n width e, near))

    -- each of n records, in a body that is there
    each :
        (f : ℕ → Verdict) (head n width : ℕ) →
        PlaceIn b (body_at head + n * width) →
        ((i : ℕ) → PlaceIn b (record_at head width i + width) → Refusals Allowed (f i)) →
        Refusals Allowed (first_of f n)
    each f head n width l one = first-refusals Allowed f n (λ i m. one i (omega (arith, record-within head width n i m)))

    times :
        (head n width setting fields : ℕ) →
        fields * 2 ≤ width →
        PlaceIn b (body_at head + n * width) →
        Refusals Allowed (first_of (λ i. times_at b (record_at head width i) setting fields) n)
    unfolding times_at time_at
    times head n width setting fields fit l =
        each _ head n width l (λ i m. first-refusals Allowed _ _ (λ f k. check _ 5 _ refl (omega arith)))

    site : Refusals Allowed (site_section b)
    unfolding site_section time_at body_at
    site =
        records site_head (site_kind (edition_of b)) 1 4 _ (omega arith) (omega arith)
        (λ l. or-refusals Allowed _ _ (check _ 4 4 refl (omega arith))
        (λ e. or-refusals Allowed _ _ (check _ 4 5 refl (omega arith)) (λ f. check _ 5 6 refl (omega arith))))

    module _ (counts : SiteAccepted b) where
      phases : Refusals Allowed (phases_section b)
      unfolding phases_section timed_section time_records body_at
      phases =
          records phases_head 2 (phase_count b) 12 _ (omega arith) (omega arith)
          (times phases_head (phase_count b) 12 phase_settings 6 (omega arith))

      groups : groups_head b ≤ length b → Refusals Allowed (groups_section b)
      unfolding groups_section group_record groups_head body_at
      groups l =
          records (groups_head b) 3 (group_count b) 2 _
          (omega arith) (omega arith)
          (λ body. or-refusals Allowed _ _
          (each _ (groups_head b) (group_count b) 2 body
          (λ g m. or-refusals Allowed _ _ (check _ 6 _ refl (omega arith)) (λ e. check _ 7 _ refl (omega arith))))
          (λ e. check _ 8 (groups_head b) refl (omega arith)))

      conflicts : conflicts_head b ≤ length b → Refusals Allowed (conflicts_section b)
      unfolding conflicts_section conflicts_head groups_head body_at
      conflicts l =
          records (conflicts_head b) 4 (group_count b) 4 _
          (omega arith) (omega arith)
          (λ body. or-refusals Allowed _ _
          (each _ (conflicts_head b) (group_count b) 4 body (λ g m. check _ 9 _ refl (omega arith)))
          (λ e. each _ (conflicts_head b) (group_count b) 4 body (λ g m. check _ 10 _ refl (omega arith))))

      detectors : detectors_head b ≤ length b → Refusals Allowed (detectors_section b)
      unfolding detectors_section detector_record detector_count detectors_head conflicts_head groups_head body_at
      detectors l =
          or-refusals Allowed _ _ (section (detectors_head b) 5 _ (omega arith))
          (λ e.
          let body = detectors-held b (detectors_head b) e in
          each _ (detectors_head b) (detector_count b) 2 (omega arith)
          (λ d m. check _ 11 _ refl (omega arith)))

      module _ (few : GroupsAccepted b) (short : DetectorsAccepted b) where
        pedestrians : Refusals Allowed (pedestrians_section b)
        unfolding pedestrians_section timed_section time_records body_at
        pedestrians =
            let near = end-near b counts few short.short in
            records (pedestrians_head b) 6 (movement_count b) 6 _ (omega arith) (omega arith)
            (times (pedestrians_head b) (movement_count b) 6 walk_settings 3 (omega arith))

        module _ (told : PedestriansAccepted b) where
          -- just past kind 6, and with kinds 7 and 9 there
          early-near : early_head b + section_length (phase_count b) 2 + section_length (phase_count b) 1 ≤ greatest_length
          unfolding early_head past_section
          early-near = omega (arith, end-near b counts few short.short, told.body)

          early : Refusals Allowed (early_section b)
          unfolding early_section timed_section time_records body_at
          early =
              let near = early-near in
              under-refusals Allowed (has_early b) _
              (records (early_head b) 7 (phase_count b) 2 _ (omega arith) (omega arith)
              (times (early_head b) (phase_count b) 2 early_setting 1 (omega arith)))

          callers : Refusals Allowed (refuse_if (phase_without_caller b) 21 (detectors_head b))
          unfolding pedestrians_head body_at
          callers = check _ 21 (detectors_head b) refl (omega (arith, end-near b counts few short.short, short.next))

          missing : Refusals Allowed (early_missing b)
          unfolding early_missing conflicts_head groups_head body_at
          missing = each _ (groups_head b) (group_count b) 2 (omega arith) (λ g m. check _ 17 _ refl (omega arith))

          module _ (timed : has_early b ≡ true → EarlyAccepted b) where
            order : Refusals Allowed (order_section b)
            unfolding order_section
            order =
                let placed : PlaceIn b (order_head b) = omega (arith, early-near, order-placed b told timed) in
                under-refusals Allowed (has_order b) _
                (or-refusals Allowed _ _ (section (order_head b) 9 _ placed) (λ e. check _ 18 (order_head b) refl placed))

            end : (has_order b ≡ true → OrderAccepted b) → PlaceIn b (end_of b)
            end listed =
                let placed = order-placed b told timed in
                omega (arith, early-near, placed, end-placed b placed.0 listed)

          after : Refusals Allowed (after_pedestrians b)
          unfolding after_pedestrians left_over
          after =
              or-refusals Allowed _ _ early
              (λ e.
              let timed = early-accepted b e in
              or-refusals Allowed _ _ (order timed)
              (λ f. or-refusals Allowed _ _ callers
              (λ g. or-refusals Allowed _ _ missing (λ h. check _ 12 (end_of b) refl (end timed (order-accepted b f))))))

    pub personality-refusals : Refusals Allowed (verdict_of b)
    unfolding verdict_of
    personality-refusals =
        or-refusals Allowed _ _ site
        (λ e.
        let counts = site-accepted b e in
        or-refusals Allowed _ _ (phases counts)
        (λ f. or-refusals Allowed _ _ (groups counts (phases-accepted b f).next)
        (λ g.
        let few = groups-accepted b g in
        or-refusals Allowed _ _ (conflicts counts few.next)
        (λ h. or-refusals Allowed _ _ (detectors counts (conflicts-accepted b h).next)
        (λ i.
        let short = detectors-accepted b i in
        or-refusals Allowed _ _ (pedestrians counts few short)
        (λ j. after counts few short (pedestrians-accepted b j)))))))

    -- a step's checks after them, at 0
    pub call-refusals :
        (is_valid : Bool) (inputs room : ℕ) →
        ((number : ℕ) → step_number number ≡ true → Allowed number 0) →
        Refusals Allowed (verdict_of b or_else step_verdict (site_of b) is_valid inputs room)
    unfolding step_verdict
    call-refusals is_valid inputs room step =
        or-refusals Allowed _ _ personality-refusals
        (λ e. or-refusals Allowed _ _ (if-refusals Allowed _ 13 0 (step 13 refl))
        (λ f. or-refusals Allowed _ _ (if-refusals Allowed _ 15 0 (step 15 refl)) (λ g. if-refusals Allowed _ 14 0 (step 14 refl))))

call-written : (b : List ℕ) (is_valid : Bool) (inputs room : ℕ) → Refusals (Written b) (verdict_of b or_else step_verdict (site_of b) is_valid inputs room)
call-written b is_valid inputs room =
    call-refusals b (Written b) (λ number place known l. inl (known, l)) is_valid inputs room (λ number known. inr (known, refl))

pub refusal-is-written : RefusalIsWritten
unfolding RefusalIsWritten checks_by
refusal-is-written b s inputs room = call-written b (timed_valid (site_of b) s) inputs room

-- ── A retiming call: both personalities, 13 and 26 ──

pub retime-refusals :
    (b new : List ℕ) (Allowed : ℕ → ℕ → Type 0) →
    ((number place : ℕ) → reading_number number ≡ true → PlaceIn b place → Allowed number place) →
    ((number place : ℕ) → reading_number number ≡ true → PlaceIn new place → Allowed number place) →
    ((number : ℕ) → retime_number number ≡ true → Allowed number 0) →
    (s : TimedState) →
    Refusals Allowed (retime_verdict b s new)
unfolding retime_checks_by
retime-refusals b new Allowed first second own s =
    or-refusals Allowed _ _ (personality-refusals b Allowed first)
    (λ e. or-refusals Allowed _ _ (if-refusals Allowed _ 13 0 (own 13 refl))
    (λ f. or-refusals Allowed _ _ (personality-refusals new Allowed second) (λ g. if-refusals Allowed _ 26 0 (own 26 refl))))

pub retime-refusal-is-written : RetimeRefusalIsWritten
unfolding RetimeRefusalIsWritten
retime-refusal-is-written b new s =
    retime-refusals b new _ (λ number place known l. inl (known, inl l)) (λ number place known l. inl (known, inr l))
    (λ number known. inr (known, refl))
    s

-- ── An accepted personality ──

length-within : (b : List ℕ) → verdict_of b ≡ Accepted → length b ≤ greatest_length
unfolding early_head past_section
length-within b h =
    let s = sections-accepted b h in
    let placed = order-placed b s.pedestrians s.early in
    omega (
      arith,
      end-near b s.site s.groups s.detectors.short,
      s.pedestrians.body,
      placed,
      end-placed b placed.0 s.order,
      s.last,
    )

pub accepted-is-short : AcceptedIsShort
unfolding AcceptedIsShort
accepted-is-short = (refl, length-within)
