-- Times that a site may have fit the machine's types: each setting is within the table or 0, and the rows of times that are read from a personality
-- have their lengths.
use Prim.Native.Nat.{ℕ, ◌-◌, ◌≤◌, ◌<◌}
use mathlib.Core.Bool.{true}
use mathlib.Core.List.{List}
use mathlib.Core.Logic.{⊎_elim}
use mathlib.Core.Path.{◌≡◌, refl, ◌∙◌}
use native.Mathlib.Omega.{arith}
use lib.ListN.{length, replicate, length-append, length-map, length-replicate, get_or-replicate, get_or-map}
use Rattle.rules.specs.Verdicts.{Accepted}
use Rattle.rules.specs.declared.site.PhaseTimes.{PhaseTimes}
use Rattle.rules.specs.declared.site.Site.{Site}
use Rattle.rules.specs.declared.site.Times.{Times}
use Rattle.laws.specs.Folds.{list_of, row_of}
use Rattle.rules.specs.Personality.{phase_count, movement_count, verdict_of}
use Rattle.rules.specs.Site.{no_phase_times, no_walk_times, phase_times_at, walk_times_at, times_in, site_of, phase_times, walk_times}
use Rattle.rules.specs.SiteTimes.{under, no_times, admitted}
use Rattle.rules.specs.Timed.{none_waiting}
use Rattle.rules.specs.Laws.{Sound, AcceptedIsSound}
use Rattle.laws.proofs.Indices.{below-or-past}
use Rattle.laws.proofs.Lists.{list_length}
use Rattle.rules.proofs.Settings.{phase-timed, walk-reached, start-timed}
use Rattle.state_times.specs.TimesLayout.{six, six_of, walk as walk_form, times as times_form}
use Rattle.state_times.proofs.TimesLaws.{early_of}
use Rattle.state_timed.specs.TimedLayout.{waiting as waiting_form}
use Rattle.proof_acceptance.proofs.Acceptance.{accepted-is-sound}
use Rattle.proof_change.proofs.Admitted.{admitted-told, admitted-is-sound}

-- the times of a phase
abbrev PhaseFits : PhaseTimes → Type 0
PhaseFits t = six.fits (six_of t) × (t.early < 65536)

times-fit :
    (t : Times) →
    t.start < 65536 →
    length t.phases ≡ 7 →
    length t.walks ≡ 8 →
    ((p : ℕ) → p < 7 → PhaseFits (phase_times t p)) →
    ((k : ℕ) → k < 8 → walk_form.fits (walk_times t k)) →
    times_form.fits t
unfolding phase_times walk_times
times-fit t start seven eight phases walks = (
  (
    (
      start,
      (length-map t.phases six_of ∙ seven, λ p l. rw (get_or-map six_of t.phases p no_phase_times) (phases p l).0),
    ),
    (eight, walks),
  ),
  (length-map t.phases early_of ∙ seven, λ p l. rw (get_or-map early_of t.phases p no_phase_times) (phases p l).1),
)

pub none-fit : waiting_form.fits none_waiting
unfolding none_waiting no_times phase_times walk_times
none-fit = (
  record {},
  times-fit no_times (omega arith) refl refl
      (λ p l. rw (get_or-replicate 7 p no_phase_times no_phase_times l) (omega arith))
      (λ k l. rw (get_or-replicate 8 k no_walk_times no_walk_times l) (omega arith)),
)

-- times that a site may have fit, if their rows have their lengths
admitted-fit :
    (site : Site) → Sound site →
    (t : Times) →
    admitted site t ≡ true →
    length t.phases ≡ 7 →
    length t.walks ≡ 8 →
    times_form.fits t
admitted-fit site sound t ok seven eight =
    let told = admitted-told site t sound.phases.1 sound.movements ok in
    let new = admitted-is-sound site t sound ok in
    times-fit t (omega (arith, start-timed (under site t) new)) seven eight
    (λ p l.
    ⊎_elim
    (λ (h : p < site.size.phases). omega (arith, phase-timed (under site t) new p h))
    (λ (h : site.size.phases ≤ p). rw (told.no_phase p h l) (omega arith))
    (below-or-past p site.size.phases))
    (λ k l.
    ⊎_elim
    (λ (h : k < site.size.movements). omega (arith, walk-reached (under site t) new k h))
    (λ (h : site.size.movements ≤ k). rw (told.no_walk k h l) (omega arith))
    (below-or-past k site.size.movements))

-- the times of an accepted personality have rows of these lengths
row-long : {A : Type 0} (f : ℕ → A) (n room : ℕ) (blank : A) → n ≤ room → length (row_of f n room blank) ≡ room
unfolding row_of
row-long f n room blank h =
    length-append (list_of f n) (replicate (room - n) blank) ∙ omega (arith, list_length f n, length-replicate (room - n) blank)

pub read-fit :
    (site : Site) → Sound site →
    (b : List ℕ) →
    verdict_of b ≡ Accepted →
    admitted site (times_in b) ≡ true →
    times_form.fits (times_in b)
unfolding times_in site_of AcceptedIsSound
read-fit site sound b known ok =
    let own = accepted-is-sound b known in
    admitted-fit site sound (times_in b) ok
    (row-long (phase_times_at b) (phase_count b) 7 no_phase_times own.phases.1)
    (row-long (walk_times_at b) (movement_count b) 8 no_walk_times own.movements)
