-- A vehicle group that is stopped: its phase is being left for a target that is not in its set. One that stops early is stopped where early
-- cut-off green begins, any other where yellow does. It is yellow for Y steps from there and then red, whatever the interval is by then.
use Prim.Native.Nat.{ℕ, suc, ◌+◌, ◌≤◌, ◌<◌}
use native.Mathlib.Omega.{arith}
use mathlib.Core.Bool.{Bool, true, false, not, ◌||◌}
use mathlib.Core.Logic.{◌⊎◌, inl, inr, ⊎_elim}
use mathlib.Core.Path.{◌≡◌, refl, ap}
use lib.Dec.{leb}
use borrow.Author.Tests.{le-leb, lt-leb, not-true, not-false}
use Rattle.rules.specs.declared.site.Site.{Site}
use Rattle.rules.specs.declared.state.Interval.{Interval}
use Rattle.rules.specs.declared.state.Interval.TheVariants.{StartRed, LateStart, MinimumGreen, Running, EarlyCutOff, Yellow, AllRed}
use Rattle.rules.specs.declared.state.Position.{Position}
use Rattle.std.specs.Prelude.{if◌then◌else◌, Option}
use Rattle.rules.specs.Site.{group_of, in_phase, phase_times}
use Rattle.rules.specs.State.{highest_age}
use Rattle.rules.specs.Movements.{older}
use Rattle.rules.specs.Interval.{entering, following, staying}
use Rattle.rules.specs.Colours.{red, yellow, green, since_cut_off, closing, vehicle_colour}
use Rattle.laws.proofs.Booleans.{decided, or_right, or-false-left, or-false-right}
use Rattle.rules.proofs.Settings.{Timed}
use Rattle.proof_runs.proofs.Ends.{by-early}
use Rattle.proof_clearance.proofs.Shown.{keeps, stops_early, vehicle_at}
use Rattle.proof_clearance.proofs.VehicleColours.{closing_at, green-stays, target-green}

-- ── How long a group has been stopped ──

-- for how many steps group j of phase p has been stopped when yellow begins, and when it ends
abbrev pub ahead : Site → ℕ → ℕ → ℕ
ahead site j p = if stops_early site j then (phase_times site.times p).early else 0

abbrev pub yellow_over : Site → ℕ → ℕ → ℕ
yellow_over site j p = ahead site j p + (phase_times site.times p).yellow

-- Phase p of group j is being left, for a target that is not in its set. The group had been stopped for so many steps before the
-- interval, and for c by now.
pub record Leaving (site : Site) (j p : ℕ) (i : Interval) (before c : ℕ) (position : Position) : Type 0 where
  pub phase : position.phase ≡ p
  pub interval : position.interval ≡ i
  pub member : in_phase site.groups j p ≡ true
  pub apart : keeps site j position.target ≡ false
  pub age : before + position.age ≡ c

-- At a position group j of phase p has been stopped for c steps.
pub data Stopped (site : Site) (j p c : ℕ) (position : Position) : Type 0 where
  in-early :
      stops_early site j ≡ true →
      Leaving site j p EarlyCutOff 0 c position →
      c ≤ (phase_times site.times p).early →
      Stopped site j p c position
  in-yellow : Leaving site j p Yellow (ahead site j p) c position → c ≤ yellow_over site j p → Stopped site j p c position
  in-red : Leaving site j p AllRed (yellow_over site j p) c position → yellow_over site j p < c → Stopped site j p c position

module _ {site : Site} {j p c : ℕ} {position : Position} where
  module _ {i : Interval} {before : ℕ} (row : Leaving site j p i before c position) where
    leaving-member : in_phase site.groups j position.phase ≡ true
    leaving-member = rw row.phase row.member

    -- the same interval, a step older
    pub leaving-stays : position.age < highest_age → Leaving site j p i before (suc c) (staying position)
    unfolding staying older
    leaving-stays h =
        record { phase = row.phase; interval = row.interval; member = row.member; apart = row.apart; age = omega (arith, row.age) }

    -- the next interval of the phase
    pub leaving-enters : (next : Interval) {now : ℕ} → now ≡ c → Leaving site j p next now (suc c) (entering next position.target position)
    unfolding entering
    leaving-enters next h = record { phase = row.phase; interval = refl; member = row.member; apart = row.apart; age = omega arith }

  -- the phase is still one of the group's
  pub stopped-member : Stopped site j p c position → in_phase site.groups j position.phase ≡ true
  stopped-member (in-early mark row most) = leaving-member row
  stopped-member (in-yellow row most) = leaving-member row
  stopped-member (in-red row more) = leaving-member row

  -- in all-red it is red, closing or not
  pub all-red-closed : {before : ℕ} → Leaving site j p AllRed before c position → closing_at site j position ≡ red
  unfolding vehicle_colour
  all-red-closed row = rw (row.phase, row.member, row.interval, row.apart)

  -- where the steps since early cut-off green began are those since the group was stopped, it is closing up to Y
  closes_by :
      {i : Interval} {before : ℕ} →
      Leaving site j p i before c position →
      since_cut_off i (phase_times site.times p) position.age ≡ c →
      closing site.times position ≡ leb c (phase_times site.times p).yellow
  unfolding closing
  closes_by row e = rw (row.phase, row.interval) (ap (λ (n : ℕ). leb n (phase_times site.times p).yellow) e)

  -- yellow up to Y, and then red
  pub stopped-shows :
      Stopped site j p c position → vehicle_at site j position ≡ (if leb c (phase_times site.times p).yellow then yellow else red)
  unfolding vehicle_colour since_cut_off
  stopped-shows (in-early mark row most) =
      rw (closes_by row (omega (arith, row.age)), row.phase, row.member, row.interval, row.apart, mark)
  stopped-shows (in-yellow row most) =
      ⊎_elim
      (λ (mark : stops_early site j ≡ true).
      rw (closes_by row (rw mark at row.age), row.phase, row.member, row.interval, row.apart, mark)
      (alone (leb c (phase_times site.times p).yellow)))
      (λ (mark : stops_early site j ≡ false).
      let none : ahead site j p ≡ 0 = rw mark in
      let within = le-leb c (phase_times site.times p).yellow (omega arith) in
      rw (row.phase, row.member, row.interval, row.apart, mark, or_right _ refl, within))
      (decided (stops_early site j))
    where
      alone : (closes : Bool) → (if closes || false then yellow else red) ≡ (if closes then yellow else red)
      alone true = refl
      alone false = refl
  stopped-shows (in-red row more) =
      rw (row.phase, row.member, row.interval, row.apart, lt-leb c (phase_times site.times p).yellow (omega arith))

-- ── What follows green ──

module _
    (site : Site) (j : ℕ) (next : Option ℕ) (position : Position) (times : Timed (phase_times site.times position.phase))
    (member : in_phase site.groups j position.phase ≡ true) where
  -- green again, or stopped
  abbrev Goes : Position → Type 0
  Goes after = (closing_at site j after ≡ green) ⊎ Stopped site j position.phase 1 after

  -- the first step of an interval in which the group is stopped
  begins :
      (i : Interval) (target : Option ℕ) {before : ℕ} →
      keeps site j target ≡ false →
      before ≡ 0 →
      Leaving site j position.phase i before 1 (entering i target position)
  unfolding entering
  begins i target apart none = record { phase = refl; interval = refl; member = member; apart = apart; age = omega arith }

  -- yellow begins, and a group that has not the target has not been stopped before
  into-yellow :
      (target : Option ℕ) → (keeps site j target ≡ false → ahead site j position.phase ≡ 0) → Goes (entering Yellow target position)
  unfolding entering vehicle_colour
  into-yellow target none =
      ⊎_elim
      (λ (h : keeps site j target ≡ true). inl (rw (member, h)))
      (λ (h : keeps site j target ≡ false). inr (in-yellow (begins Yellow target h (none h)) (omega (arith, times.yellow))))
      (decided (keeps site j target))

  -- early cut-off green begins
  into-early : (target : Option ℕ) → ((phase_times site.times position.phase).early ≡ 0 → ⊥) → Goes (entering EarlyCutOff target position)
  unfolding entering vehicle_colour
  into-early target some =
      let kept = keeps site j target in
      let stays = not (stops_early site j) in
      ⊎_elim
      (λ (h : (kept || stays) ≡ true). inl (rw (member, h)))
      (λ (h : (kept || stays) ≡ false).
      let mark = not-false (stops_early site j) (or-false-right kept stays h) in
      inr (in-early mark (begins EarlyCutOff target (or-false-left kept stays h) refl) (omega arith)))
      (decided (kept || stays))

  pub green-follows :
      (i : Interval) →
      vehicle_colour i true position.previous position.target (group_of site.groups j) ≡ green →
      Goes (following i site.times next position)
  unfolding following entering vehicle_colour
  green-follows StartRed e = absurd (omega arith)
  green-follows LateStart e = inl (rw member)
  green-follows MinimumGreen e = inl (rw member)
  green-follows Running e =
      by-early Goes site.times next position (λ none. into-yellow next (λ h. rw none (either (stops_early site j)))) (into-early next)
    where
      either : (early : Bool) → ◌≡◌ {A = ℕ} (if early then 0 else 0) 0
      either true = refl
      either false = refl
  green-follows EarlyCutOff e =
      let stays = green-stays (keeps site j position.target || not (stops_early site j)) yellow (λ (z : yellow ≡ green). omega arith) e in
      into-yellow position.target (λ h. rw (not-true (stops_early site j) (rw h at stays)))
  green-follows Yellow e = inl (rw (member, green-stays (keeps site j position.target) yellow (λ (z : yellow ≡ green). omega arith) e))
  green-follows AllRed e =
      let kept = green-stays (keeps site j position.target) red (λ (z : red ≡ green). omega arith) e in
      inl (target-green site j site.times position.phase position.target member kept)
