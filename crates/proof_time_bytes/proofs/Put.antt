-- Times put into the bytes of an accepted personality: every other byte stays, and each setting is read back. So the times are admitted exactly if
-- the bytes are accepted and have them; and the times of a personality that differs nowhere else give its bytes.
use Prim.Native.Nat.{ℕ, zero, suc, ◌+◌, ◌-◌, ◌*◌, ◌/◌, ◌%◌, ◌≤◌, ◌<◌}
use mathlib.Core.Bool.{Bool, true, false}
use mathlib.Core.List.{List}
use mathlib.Core.Logic.{inr, ⊎_elim}
use mathlib.Core.Path.{◌≡◌, refl, sym, ap, ap₂, subst, ◌∙◌}
use native.Mathlib.Nat.{add-zero}
use native.Mathlib.Omega.{arith}
use lib.Dec.{eqb}
use lib.ListN.{length}
use borrow.Author.Tests.{eqb-true, eqb-false, eq-eqb, ne_eqb}
use Rattle.rules.specs.Verdicts.{Accepted}
use Rattle.rules.specs.declared.site.PhaseTimes.{PhaseTimes}
use Rattle.rules.specs.declared.site.Site.{Site}
use Rattle.rules.specs.declared.site.Times.{Times}
use Rattle.rules.specs.declared.site.WalkTimes.{WalkTimes}
use Rattle.laws.specs.Bytes.{byte_at, two_at}
use Rattle.std.specs.Prelude.{if◌then◌else◌}
use Rattle.laws.specs.Folds.{row_of}
use Rattle.rules.specs.Personality.{body_at, record_at, phases_head, groups_head, conflicts_head, detectors_head, pedestrians_head, past_section, early_head, has_early, order_head, phase_count, movement_count, verdict_of}
use Rattle.rules.specs.Site.{no_phase_times, no_walk_times, early_time_at, phase_times_at, walk_times_at, times_in, site_of, phase_times, walk_times}
use Rattle.rules.specs.SiteTimes.{under, times_within, admitted}
use Rattle.rules.specs.TimedCall.{between, time_byte, differs_elsewhere}
use Rattle.rules.specs.Laws.{AcceptedIsSound}
use Rattle.rules.specs.TimedLaws.{AcceptedIsAdmitted, twos_byte, phase_setting, walk_setting, byte_with, with_times, AdmittedIsAccepted, DiffersExactly}
use Rattle.laws.proofs.Booleans.{and_right, and_left, or-false-both, decided}
use Rattle.laws.proofs.Indices.{below-or-past}
use Rattle.laws.proofs.Lists.{list_length, list_at, list-told, row_told}
use Rattle.laws.proofs.Bytes.{byte_past}
use Rattle.proof_acceptance.proofs.Sections.{SectionsAccepted, sections-accepted}
use Rattle.proof_acceptance.proofs.Entries.{phase-times-at, walk-times-at}
use Rattle.proof_acceptance.proofs.Acceptance.{accepted-is-sound}
use Rattle.proof_change.proofs.Admitted.{Admitted, admitted-told}
use Rattle.proof_time_bytes.proofs.Same.{Outside, phases-same, movements-same, pedestrians-head, early-head, has-early, site-same, accepted-same}
use Rattle.proof_time_bytes.proofs.Elsewhere.{between-told, between-holds, between-not, in_phases, in_walks, in_early, NoTime, no-time, outside-no-time, same_length, same_byte, same-outside, no_difference, accepted-is-admitted}

-- ── Two-byte numbers one after the other ──

even : (f : ℕ → ℕ) (n : ℕ) → twos_byte f (n * 2) ≡ f n % 256
unfolding twos_byte
even f n = rw (eq-eqb (n * 2 % 2) 0 (omega arith)) (ap (λ (m : ℕ). f m % 256) (omega arith))

odd : (f : ℕ → ℕ) (n : ℕ) → twos_byte f (n * 2 + 1) ≡ f n / 256
unfolding twos_byte
odd f n = ap (λ (t : Bool). if t then f ((n * 2 + 1) / 2) % 256 else f ((n * 2 + 1) / 2) / 256) (ne_eqb ((n * 2 + 1) % 2) 0 (λ (e : (n * 2 + 1) % 2 ≡ 0). omega arith)) ∙ ap (λ (m : ℕ). f m / 256) (omega arith)

-- number n is read back
pub two_back :
    (b : List ℕ) (at : ℕ) (f : ℕ → ℕ) (n : ℕ) →
    byte_at b (at + n * 2) ≡ twos_byte f (n * 2) →
    byte_at b (at + n * 2 + 1) ≡ twos_byte f (n * 2 + 1) →
    two_at b (at + n * 2) ≡ f n
unfolding two_at
two_back b at f n low high = rw (low, high, even f n, odd f n) (omega arith)

-- bytes below 256 are those of the number that they give
pub byte-back :
    (b : List ℕ) →
    ((i : ℕ) → byte_at b i < 256) →
    (at : ℕ) (f : ℕ → ℕ) (j : ℕ) →
    f (j / 2) ≡ two_at b (at + j / 2 * 2) →
    twos_byte f j ≡ byte_at b (at + j)
unfolding twos_byte two_at
byte-back b small at f j e = by (eqb (j % 2) 0) refl
  where
    low : byte_at b (at + j / 2 * 2) < 256
    low = small (at + j / 2 * 2)

    by : (t : Bool) → eqb (j % 2) 0 ≡ t → (if t then f (j / 2) % 256 else f (j / 2) / 256) ≡ byte_at b (at + j)
    by true q =
        let even = eqb-true (j % 2) 0 q in
        let v : f (j / 2) % 256 ≡ byte_at b (at + j / 2 * 2) = omega (arith, e, low) in
        v ∙ ap (byte_at b) (omega (arith, even))
    by false q =
        let odd = eqb-false (j % 2) 0 q in
        let v : f (j / 2) / 256 ≡ byte_at b (at + j / 2 * 2 + 1) = omega (arith, e, low) in
        v ∙ ap (byte_at b) (omega (arith, odd))

-- setting n of the records of kind 2, and of kind 6
abbrev phases_number : Times → ℕ → ℕ
phases_number times n = phase_setting (phase_times times (n / 6)) (n % 6)

abbrev walks_number : Times → ℕ → ℕ
walks_number times n = walk_setting (walk_times times (n / 3)) (n % 3)

phase-field : (b : List ℕ) (p f : ℕ) → f < 6 → phase_setting (phase_times_at b p) f ≡ two_at b (record_at phases_head 12 p + f * 2)
unfolding phase_setting phase_times_at
phase-field b p zero l = ap (two_at b) (omega arith)
phase-field b p (suc zero) l = refl
phase-field b p (suc (suc zero)) l = refl
phase-field b p (suc (suc (suc zero))) l = refl
phase-field b p (suc (suc (suc (suc zero)))) l = refl
phase-field b p (suc (suc (suc (suc (suc zero))))) l = refl
phase-field b p (suc (suc (suc (suc (suc (suc f)))))) l = absurd (omega (arith, l))

walk_field : (b : List ℕ) (k f : ℕ) → f < 3 → walk_setting (walk_times_at b k) f ≡ two_at b (record_at (pedestrians_head b) 6 k + f * 2)
unfolding walk_setting walk_times_at
walk_field b k zero l = ap (two_at b) (omega arith)
walk_field b k (suc zero) l = refl
walk_field b k (suc (suc zero)) l = refl
walk_field b k (suc (suc (suc f))) l = absurd (omega (arith, l))

-- ── The bytes with times put in ──

module _ (b : List ℕ) (known : verdict_of b ≡ Accepted) (times : Times) where
  abbrev with : List ℕ
  with = with_times b times

  -- the sections of the personality, and where its time settings end
  told : SectionsAccepted b
  told = sections-accepted b known

  walks-end : early_head b ≡ body_at (pedestrians_head b) + movement_count b * 6
  unfolding early_head past_section
  walks-end = ap (λ (n : ℕ). body_at (pedestrians_head b) + n) told.pedestrians.body

  early-end : has_early b ≡ true → order_head b ≡ body_at (early_head b) + phase_count b * 2
  unfolding order_head past_section
  early-end e = rw e (ap (λ (n : ℕ). body_at (early_head b) + n) (told.early e).body)

  pub with-length : length with ≡ length b
  unfolding with_times
  with-length = list_length (byte_with b times) (length b)

  with_byte : (i : ℕ) → i < length b → byte_at with i ≡ byte_with b times i
  unfolding with_times byte_at
  with_byte i l = list_at (byte_with b times) (length b) i 0 l

  pub with-other : (i : ℕ) → time_byte b i ≡ false → byte_at with i ≡ byte_at b i
  unfolding byte_with
  with-other i out =
      ⊎_elim
      (λ (l : i < length b). with_byte i l ∙ stays (no-time b i out))
      (λ (l : length b ≤ i). byte_past with i (omega (arith, with-length)) ∙ sym (byte_past b i l))
      (below-or-past i (length b))
    where
      stays : NoTime b i → byte_with b times i ≡ byte_at b i
      stays none = rw (none.start, none.phases, none.walks, none.early)

  with-outside : (i : ℕ) → Outside b i → byte_at with i ≡ byte_at b i
  with-outside i out = with-other i (outside-no-time b i out)

  -- ── The settings, byte by byte ──

  start-byte : (j : ℕ) → j < 2 → byte_at with (6 + j) ≡ twos_byte (λ n. times.start) j
  unfolding byte_with
  start-byte j l =
      with_byte (6 + j) (omega (arith, told.site.next))
      ∙ rw (between-holds 6 8 (6 + j) (omega arith) (omega arith)) (ap (twos_byte (λ n. times.start)) (omega arith))

  phases-byte : (j : ℕ) → j < phase_count b * 12 → byte_at with (12 + j) ≡ twos_byte (phases_number times) j
  unfolding byte_with groups_head body_at
  phases-byte j l =
      with_byte (12 + j) (omega (arith, told.phases.next))
      ∙ rw (between-not 6 8 (12 + j) (inr (omega arith)), between-holds 12 (12 + phase_count b * 12) (12 + j) (omega arith) (omega arith))
      (ap (twos_byte (phases_number times)) (omega arith))

  walks-byte : (j : ℕ) → j < movement_count b * 6 → byte_at with (body_at (pedestrians_head b) + j) ≡ twos_byte (walks_number times) j
  unfolding byte_with groups_head conflicts_head detectors_head pedestrians_head body_at
  walks-byte j l =
      let at = body_at (pedestrians_head b) in
      with_byte (at + j) (omega (arith, told.pedestrians.next, walks-end))
      ∙ rw (
        between-not 6 8 (at + j) (inr (omega arith)),
        between-not (body_at phases_head) (groups_head b) (at + j) (inr (omega arith)),
        between-holds at (early_head b) (at + j) (omega arith) (omega (arith, walks-end)),
      )
      (ap (twos_byte (walks_number times)) (omega arith))

  early-byte : has_early b ≡ true → (j : ℕ) → j < phase_count b * 2 → byte_at with (body_at (early_head b) + j) ≡ twos_byte (λ n. (phase_times times n).early) j
  unfolding byte_with groups_head conflicts_head detectors_head pedestrians_head early_head past_section body_at
  early-byte e j l =
      let at = body_at (early_head b) in
      with_byte (at + j) (omega (arith, (told.early e).next))
      ∙ rw (
        between-not 6 8 (at + j) (inr (omega arith)),
        between-not (body_at phases_head) (groups_head b) (at + j) (inr (omega arith)),
        between-not (body_at (pedestrians_head b)) (early_head b) (at + j) (inr (omega arith)),
        e,
        between-holds at (order_head b) (at + j) (omega arith) (omega (arith, early-end e)),
      )
      (ap (twos_byte (λ n. (phase_times times n).early)) (omega arith))

  -- ── The settings, read back ──

  start_back : two_at with 6 ≡ times.start
  start_back = two_back with 6 (λ n. times.start) 0 (start-byte 0 (omega arith)) (start-byte 1 (omega arith))

  phase-back : (p f : ℕ) → p < phase_count b → f < 6 → two_at with (record_at phases_head 12 p + f * 2) ≡ phase_setting (phase_times times p) f
  unfolding record_at body_at
  phase-back p f l m =
      let n = p * 6 + f in
      let read : two_at with (12 + n * 2) ≡ phases_number times n =
      two_back with 12 (phases_number times) n (phases-byte (n * 2) (omega arith))
      (subst (λ (at : ℕ). byte_at with at ≡ twos_byte (phases_number times) (n * 2 + 1)) (omega arith) (phases-byte (n * 2 + 1) (omega arith))) in
      subst (λ (at : ℕ). two_at with at ≡ phases_number times n) (omega arith) read
      ∙ ap₂ (λ (q g : ℕ). phase_setting (phase_times times q) g) (omega arith) (omega arith)

  walk-back : (k f : ℕ) → k < movement_count b → f < 3 → two_at with (record_at (pedestrians_head b) 6 k + f * 2) ≡ walk_setting (walk_times times k) f
  unfolding record_at
  walk-back k f l m =
      let at = body_at (pedestrians_head b) in
      let n = k * 3 + f in
      let read : two_at with (at + n * 2) ≡ walks_number times n =
      two_back with at (walks_number times) n (walks-byte (n * 2) (omega arith))
      (subst (λ (i : ℕ). byte_at with i ≡ twos_byte (walks_number times) (n * 2 + 1)) (omega arith) (walks-byte (n * 2 + 1) (omega arith))) in
      subst (λ (i : ℕ). two_at with i ≡ walks_number times n) (omega arith) read
      ∙ ap₂ (λ (j g : ℕ). walk_setting (walk_times times j) g) (omega arith) (omega arith)

  early-back : has_early b ≡ true → (p : ℕ) → p < phase_count b → two_at with (record_at (early_head b) 2 p) ≡ (phase_times times p).early
  unfolding record_at
  early-back e p l =
      let at = body_at (early_head b) in
      let f : ℕ → ℕ = λ n. (phase_times times n).early in
      two_back with at f p (early-byte e (p * 2) (omega arith))
      (subst (λ (i : ℕ). byte_at with i ≡ twos_byte f (p * 2 + 1)) (omega arith) (early-byte e (p * 2 + 1) (omega arith)))

  -- ── The site of these bytes ──

  pub with-site : site_of with ≡ under (site_of b) (times_in with)
  with-site = site-same b with with-length with-outside

  module _ (ok : admitted (site_of b) times ≡ true) where
    fine : Admitted (site_of b) times
    unfolding AcceptedIsSound
    fine =
        let sound = accepted-is-sound b known in
        admitted-told (site_of b) times sound.phases.1 sound.movements ok

    early-read : (p : ℕ) → p < phase_count b → early_time_at with p ≡ (phase_times times p).early
    unfolding early_time_at site_of
    early-read p l =
        ⊎_elim
        (λ (yes : has_early b ≡ true).
        rw (has-early b with with-length with-outside, yes, early-head b with with-length with-outside) (early-back yes p l))
        (λ (no : has_early b ≡ false). rw (has-early b with with-length with-outside, no) (sym (fine.no_early p l no)))
        (decided (has_early b))

    phase-read : (p : ℕ) → p < phase_count b → phase_times_at with p ≡ phase_times times p
    unfolding phase_times_at phase_setting
    phase-read p l =
        let at = record_at phases_head 12 p in
        rw (
          subst (λ (i : ℕ). two_at with i ≡ (phase_times times p).late) (add-zero at) (phase-back p 0 l (omega arith)),
          phase-back p 1 l (omega arith),
          phase-back p 2 l (omega arith),
          phase-back p 3 l (omega arith),
          phase-back p 4 l (omega arith),
          phase-back p 5 l (omega arith),
          early-read p l,
        )

    walk-read : (k : ℕ) → k < movement_count b → walk_times_at with k ≡ walk_times times k
    unfolding walk_times_at walk_setting
    walk-read k l =
        let at = record_at (pedestrians_head b) 6 k in
        rw (
          pedestrians-head b with with-length with-outside,
          subst (λ (i : ℕ). two_at with i ≡ (walk_times times k).walk) (add-zero at) (walk-back k 0 l (omega arith)),
          walk-back k 1 l (omega arith),
          walk-back k 2 l (omega arith),
        )

    pub times-back : length times.phases ≡ 7 → length times.walks ≡ 8 → times_in with ≡ times
    unfolding times_in site_of phase_times walk_times
    times-back seven eight = rw (start_back, phases, walks)
      where
        phases : row_of (phase_times_at with) (phase_count with) 7 no_phase_times ≡ times.phases
        phases =
            ap (λ (n : ℕ). row_of (phase_times_at with) n 7 no_phase_times) (phases-same b with with-length with-outside)
            ∙ row_told (phase_times_at with) times.phases (phase_count b) 7 no_phase_times told.site.phases.1 seven phase-read fine.no_phase

        walks : row_of (walk_times_at with) (movement_count with) 8 no_walk_times ≡ times.walks
        walks =
            ap (λ (n : ℕ). row_of (walk_times_at with) n 8 no_walk_times) (movements-same b with with-length with-outside)
            ∙ row_told (walk_times_at with) times.walks (movement_count b) 8 no_walk_times told.groups.movements eight walk-read fine.no_walk

-- ── Admitted times are those with which the bytes are accepted ──

pub admitted-is-accepted : AdmittedIsAccepted
unfolding AdmittedIsAccepted AcceptedIsAdmitted admitted times_within
admitted-is-accepted b known times seven eight = (
  λ ok.
      let back = times-back b known times ok seven eight in (
        accepted-same b (with_times b times) (with-length b known times) (with-outside b known times) known
            (subst (λ (t : Times). admitted (site_of b) t ≡ true) (sym back) ok),
        with-site b known times ∙ ap (under (site_of b)) back,
      ),
  λ accepted same. subst (λ (site : Site). admitted site site.times ≡ true) same (accepted-is-admitted (with_times b times) accepted),
)

-- ── Number 26 ──

-- a new personality that differs nowhere else
module _ (b : List ℕ) (known : verdict_of b ≡ Accepted) (new : List ℕ) (small : (i : ℕ) → byte_at new i < 256) (none : differs_elsewhere b new ≡ false) where
  abbrev own : Times
  own = times_in new

  same : (i : ℕ) → Outside b i → byte_at new i ≡ byte_at b i
  same = same-outside b new none

  phases-number : (n : ℕ) → n < phase_count b * 6 → phases_number own n ≡ two_at new (12 + n * 2)
  unfolding site_of record_at body_at
  phases-number n l =
      let p = n / 6 in
      let below : p < phase_count new = rw (phases-same b new (same_length b new none) same) (omega arith) in
      ap (λ (t : PhaseTimes). phase_setting t (n % 6)) (phase-times-at new p below)
      ∙ phase-field new p (n % 6) (omega arith)
      ∙ ap (two_at new) (omega arith)

  walks-number : (n : ℕ) → n < movement_count b * 3 → walks_number own n ≡ two_at new (body_at (pedestrians_head b) + n * 2)
  unfolding site_of record_at
  walks-number n l =
      let k = n / 3 in
      let len = same_length b new none in
      let below : k < movement_count new = rw (movements-same b new len same) (omega arith) in
      ap (λ (t : WalkTimes). walk_setting t (n % 3)) (walk-times-at new k below)
      ∙ walk_field new k (n % 3) (omega arith)
      ∙ ap (λ (head : ℕ). two_at new (body_at head + k * 6 + n % 3 * 2)) (pedestrians-head b new len same)
      ∙ ap (two_at new) (omega arith)

  early-number : has_early b ≡ true → (p : ℕ) → p < phase_count b → (phase_times own p).early ≡ two_at new (body_at (early_head b) + p * 2)
  unfolding site_of record_at phase_times_at early_time_at
  early-number e p l =
      let len = same_length b new none in
      let below : p < phase_count new = rw (phases-same b new len same) l in
      ap (λ (t : PhaseTimes). t.early) (phase-times-at new p below)
      ∙ rw (has-early b new len same, e, early-head b new len same)

  part : (at : ℕ) (f : ℕ → ℕ) (i : ℕ) → at ≤ i → f ((i - at) / 2) ≡ two_at new (at + (i - at) / 2 * 2) → byte_at new i ≡ twos_byte f (i - at)
  part at f i h e = sym (byte-back new small at f (i - at) e ∙ ap (byte_at new) (omega (arith, h)))

  -- each of its bytes is that of its own times
  each : (i : ℕ) → byte_at new i ≡ byte_with b own i
  unfolding byte_with time_byte times_in groups_head body_at
  each i =
      ⊎_elim
      (λ (start : between 6 8 i ≡ true).
      let l = between-told 6 8 i start in
      rw start (part 6 (λ n. own.start) i l.0 (ap (two_at new) (omega (arith, l.0, l.1)))))
      (λ (start : between 6 8 i ≡ false).
      ⊎_elim
      (λ (phases : in_phases b i ≡ true).
      let l = between-told 12 (groups_head b) i phases in
      rw (start, phases) (part 12 (phases_number own) i l.0 (phases-number ((i - 12) / 2) (omega (arith, l.0, l.1)))))
      (λ (phases : in_phases b i ≡ false).
      ⊎_elim
      (λ (walks : in_walks b i ≡ true).
      let at = body_at (pedestrians_head b) in
      let l = between-told at (early_head b) i walks in
      rw (start, phases, walks)
      (part at (walks_number own) i l.0 (walks-number ((i - at) / 2) (omega (arith, l.0, l.1, walks-end b known own)))))
      (λ (walks : in_walks b i ≡ false).
      ⊎_elim
      (λ (early : in_early b i ≡ true).
      let at = body_at (early_head b) in
      let has = and_left (has_early b) (between at (order_head b) i) early in
      let l = between-told at (order_head b) i (and_right (has_early b) (between at (order_head b) i) early) in
      rw (start, phases, walks, early)
      (part at (λ n. (phase_times own n).early) i l.0 (early-number has ((i - at) / 2) (omega (arith, l.0, l.1, early-end b known own has)))))
      (λ (early : in_early b i ≡ false).
      rw (start, phases, walks, early)
      (same_byte b new none i (or-false-both (or-false-both (or-false-both start phases) walks) early)))
      (decided (in_early b i)))
      (decided (in_walks b i)))
      (decided (in_phases b i)))
      (decided (between 6 8 i))

pub differs-exactly : DiffersExactly
unfolding DiffersExactly with_times byte_at
differs-exactly b known new small = (
  λ none. sym (list-told (byte_with b (times_in new)) new (length b) 0 (same_length b new none) (λ i l. each b known new small none i)),
  λ e.
      no_difference b new (sym (ap length e) ∙ with-length b known (times_in new))
      (λ i out. ap (λ (l : List ℕ). byte_at l i) (sym e) ∙ with-other b known (times_in new) i out),
)
