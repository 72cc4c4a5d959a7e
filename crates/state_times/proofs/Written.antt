-- The parts of times, stored one behind the other, are the whole layout.
use Prim.Native.Nat.{ℕ, ◌+◌}
use mathlib.Core.List.{List, map}
use mathlib.Core.Path.{◌≡◌}
use native.Mathlib.Nat.{add-zero}
use lib.Seq.{sets}
use Rattle.rules.specs.declared.site.Times.{Times}
use Rattle.rules.specs.Site.{no_phase_times, no_walk_times}
use Rattle.state_forms.specs.Forms.{two}
use Rattle.state_forms.proofs.Lawful.{two-law, row-law, both-law, stored-behind}
use Rattle.state_times.specs.TimesLayout.{six, six_of, walk, phases, walks, earlies, times}
use Rattle.state_times.proofs.TimesLaws.{six-law, walk-law, early_of}

pub times-written :
    (t : Times) (b : List ℕ) (at : ℕ) →
    sets
    (sets
    (sets (sets b (at + 0) (two.written t.start)) (at + 2) (phases.written (map six_of t.phases)))
    (at + 86)
    (walks.written t.walks))
    (at + 134)
    (earlies.written (map early_of t.phases))
    ≡ sets b at (times.written t)
times-written t b at =
    let records = map six_of t.phases in
    let to-phases = both-law two-law (row-law six six-law 7 (six_of no_phase_times)) in
    let to-walks = both-law to-phases (row-law walk walk-law 8 no_walk_times) in
    rw (
      add-zero at,
      stored-behind two-law t.start b (phases.written records) at,
      stored-behind to-phases (t.start, records) b (walks.written t.walks) at,
      stored-behind to-walks ((t.start, records), t.walks) b (earlies.written (map early_of t.phases)) at,
    )
