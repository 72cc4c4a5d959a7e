-- The computed answer is the one that document 02 states, and there is no other. More than 50 vehicles never stand in 300 m, so the search for n starts above
-- every number that passes; 540 steps at 20 km/h or more always cover 300 m, so the search for t ends at one that passes.
use Prim.Native.Nat.{ℕ, zero, suc, ◌+◌, ◌*◌, ◌≤◌, ◌<◌}
use mathlib.Core.Bool.{Bool, true, false, not, ◌&&◌}
use mathlib.Core.Path.{◌≡◌, refl, sym, ap, ◌∙◌}
use native.Mathlib.Nat.{zero-mul, mul-le-mul, mul-le-mul_right, le_of_mul-le-mul_right, le_trans}
use native.Mathlib.Numerals.{add-one}
use native.Mathlib.Omega.{arith}
use lib.Dec.{leb}
use lib.IntN.{pos}
use lib.Ieee.{Float, fin, binary64, le, mul, of_int}
use lib.Ieee.Positive.{num, den, den_pos}
use borrow.Author.Tests.{leb-true, le-leb, not-true, not-false}
use Rattle.std.specs.Prelude.{if◌then◌else◌}
use Rattle.rules.specs.declared.site.Edition.{Edition}
use Rattle.rules.specs.declared.site.Edition.TheVariants.{One, Two}
use Rattle.rules.specs.Limits.{limits, limit_of, within, phase_settings}
use Rattle.laws.proofs.Booleans.{and_left, and_right, and_both, never_both, not-true-false}
use Rattle.sheet_settings.specs.declared.Detector.{Detector}
use Rattle.sheet_settings.specs.declared.Detector.TheVariants.{Advance, StopLine}
use Rattle.sheet_settings.specs.declared.Sheet.{Sheet}
use Rattle.sheet_settings.specs.Extremes.{Largest, Smallest}
use Rattle.sheet_settings.specs.Sheet.{Answer, Settings, Refused, minimum_of, passage_of, whole, metres_of, speed_in_range, metres_in_range, in_range, stand, covered, vehicles, minimum_green, passage_over, passage_time, highest_minimum, highest_gap, within_limits, MinimumGreen, PassageTime, SettingsFor, AnswerFor, out_of_range, above_limits, given, answer_from, answer_of, AsStated, MayHave, Admitted}
use Rattle.sheet_settings.proofs.Extremes.{largest-only, smallest-only, largest-found, smallest-found}
use Rattle.sheet_settings.proofs.Metres.{cast-le, le-cast, times-36, Fraction, as-fraction}

-- ── The tests, as the code makes them ──

pub stand-tested : (x : Float) (n : ℕ) → n ≤ 51 → le (of_int binary64 (pos (6 * n))) x ≡ stand x n
unfolding stand
stand-tested x n l = cast-le (6 * n) x (omega arith)

-- t × speed is at most 540 × 110
pub bounded : (speed t : ℕ) → speed_in_range speed ≡ true → t ≤ 540 → t * speed ≤ 59400
bounded speed t fine l = mul-le-mul l (leb-true speed 110 (and_right (leb 20 speed) (leb speed 110) fine))

pub covered-tested :
    (speed : ℕ) (x : Float) (t : ℕ) →
    speed_in_range speed ≡ true →
    t ≤ 540 →
    le (mul binary64 x (fin false 9 (pos 2))) (of_int binary64 (pos (t * speed))) ≡ covered speed x t
unfolding covered
covered-tested speed x t fine l =
    let small = bounded speed t fine l in rw times-36 (le-cast (t * speed) (mul binary64 x (whole 36)) (omega arith))

-- ── n ──

module _ {x : Float} (fraction : Fraction x) where
  -- what `stand` tells, and what it takes
  standing : (n : ℕ) → stand x n ≡ true → 6 * n * den x ≤ num x
  unfolding stand
  standing n t = leb-true (6 * n * den x) (num x) (sym (fraction.told (6 * n)) ∙ t)

  stands : (n : ℕ) → 6 * n * den x ≤ num x → stand x n ≡ true
  unfolding stand
  stands n l = fraction.told (6 * n) ∙ le-leb (6 * n * den x) (num x) l

  pub stands-first : stand x 0 ≡ true
  stands-first = stands 0 (simp zero-mul (omega arith))

  pub stands-most : (n : ℕ) → stand x n ≡ true → n ≤ 50
  stands-most n t =
      let l : 6 * n ≤ 300 = le_of_mul-le-mul_right (le_trans (standing n t) fraction.most) (den_pos x) in omega arith

  stands-lower : (a b : ℕ) → a ≤ b → stand x b ≡ true → stand x a ≡ true
  stands-lower a b l t =
      let six : 6 * a ≤ 6 * b = omega arith in
      stands a (le_trans (mul-le-mul_right (den x) six) (standing b t))

  -- one that stands, where one more does not, is the largest
  pub stands-largest : (n : ℕ) → stand x n ≡ true → stand x (n + 1) ≡ false → Largest (stand x) n
  stands-largest n t f = record {
    passed = t;
    none-greater = λ k l. not-true-false (stand x k) (λ s. never_both (stands-lower (n + 1) k (omega arith) s) f);
  }

  -- none of 51 vehicles, and the first number of which one more does not stand is the largest
  pub stands-none-above : not (stand x 51) ≡ true
  stands-none-above = ap not (not-true-false (stand x 51) (λ s. let m = stands-most 51 s in omega arith))

  pub stands-until : (n : ℕ) → Smallest (λ k. not (stand x (k + 1))) n → Largest (stand x) n
  stands-until n first = stands-largest n (before n first.none-smaller) (not-true _ first.passed)
    where
      before : (n : ℕ) → ((k : ℕ) → k < n → not (stand x (k + 1)) ≡ false) → stand x n ≡ true
      before zero none = stands-first
      before (suc k) none = rw add-one at (not-false _ (none k (omega arith)))

  pub vehicles-largest : Largest (stand x) (vehicles x)
  unfolding vehicles
  vehicles-largest =
      largest-found (stand x) 50 stands-first
      (λ k l. not-true-false (stand x k) (λ s. let m = stands-most k s in omega arith))

-- ── t ──

pub covered-last : {x : Float} (speed : ℕ) → Fraction x → speed_in_range speed ≡ true → covered speed x 540 ≡ true
unfolding covered
covered-last {x} speed fraction fine =
    let from = leb-true 20 speed (and_left (leb 20 speed) (leb speed 110) fine) in
    let small = bounded speed 540 fine (omega arith) in
    let enough : 10800 ≤ 540 * speed = omega arith in
    fraction.product (540 * speed) (omega (arith, fraction.most, mul-le-mul_right (den x) enough)) (omega arith)

pub passage-smallest : {x : Float} (speed : ℕ) → Fraction x → speed_in_range speed ≡ true → Smallest (covered speed x) (passage_over speed x)
unfolding passage_over
passage-smallest {x} speed fraction fine =
    smallest-found (covered speed x) 0 540 (covered-last speed fraction fine) (λ k l. absurd (omega arith))

-- ── The answer ──

pub in-range-parts : (s : Sheet) → in_range s ≡ true → (speed_in_range s.speed ≡ true) × (metres_in_range (metres_of s.detector) ≡ true)
unfolding in_range
in-range-parts s r =
    let speed = speed_in_range s.speed in
    let metres = metres_in_range (metres_of s.detector) in
    (and_left speed metres r, and_right speed metres r)

settings-for : (s : Sheet) → in_range s ≡ true → SettingsFor s (minimum_green (metres_of s.detector)) (passage_time s.speed s.detector)
unfolding minimum_green
settings-for s r =
    let parts = in-range-parts s r in
    let fraction = as-fraction (metres_of s.detector) parts.1 in
    record {
      range = r;
      green = record { n = vehicles (metres_of s.detector); largest = vehicles-largest fraction; formula = refl };
      time = time s.detector fraction parts.0;
    }
  where
    time : (d : Detector) → Fraction (metres_of d) → speed_in_range s.speed ≡ true → PassageTime s.speed d (passage_time s.speed d)
    time (Advance x) fraction speed = passage-smallest s.speed fraction speed
    time (StopLine x) fraction speed = refl

-- the limits of M and G, in each edition
green-limits : (edition : Edition) → ((limit_of (limits edition) (phase_settings + 1)).low ≡ 10) × (highest_minimum edition ≡ 400)
unfolding highest_minimum limit_of limits
green-limits One = (refl, refl)
green-limits Two = (refl, refl)

gap-limits : (edition : Edition) → ((limit_of (limits edition) (phase_settings + 3)).low ≡ 0) × (highest_gap edition ≡ 100)
unfolding highest_gap limit_of limits
gap-limits One = (refl, refl)
gap-limits Two = (refl, refl)

pub within-each : (edition : Edition) (m g : ℕ) → within_limits edition m g ≡ (leb m 400 && leb g 100)
unfolding within_limits
within-each edition m g = rw ((green-limits edition).1, (gap-limits edition).1)

within_both : (edition : Edition) (m g : ℕ) → within_limits edition m g ≡ within_limits One m g
within_both edition m g = within-each edition m g ∙ sym (within-each One m g)

answer-stated : (s : Sheet) → AnswerFor s (answer_of s)
unfolding answer_of answer_from
answer-stated s = first (in_range s) refl
  where
    second : (m g : ℕ) → SettingsFor s m g → (t : Bool) → within_limits One m g ≡ t → AnswerFor s (if t then Settings m g else Refused 20 0)
    second m g f true e = given m g f (λ edition. within_both edition m g ∙ e)
    second m g f false e = above_limits One m g f e

    first : (t : Bool) → in_range s ≡ t → AnswerFor s (if t then answer_from (minimum_green (metres_of s.detector)) (passage_time s.speed s.detector) else Refused 19 0)
    first true e = second _ _ (settings-for s e) _ refl
    first false e = out_of_range e

-- ── No other answer ──

green-only : {x : Float} {m n : ℕ} → MinimumGreen x m → MinimumGreen x n → m ≡ n
green-only {x} f g = let e = largest-only (stand x) f.largest g.largest in cc

time-only : (speed : ℕ) (d : Detector) {m n : ℕ} → PassageTime speed d m → PassageTime speed d n → m ≡ n
time-only speed (Advance x) f g = smallest-only (covered speed x) f g
time-only speed (StopLine x) f g = f ∙ sym g

settings-only : (s : Sheet) {m g : ℕ} → SettingsFor s m g → answer_from m g ≡ answer_of s
unfolding answer_of
settings-only s f =
    let found = settings-for s f.range in
    rw (f.range, green-only f.green found.green, time-only s.speed s.detector f.time found.time)

answer-only : (s : Sheet) (a : Answer) → AnswerFor s a → a ≡ answer_of s
unfolding answer_of answer_from
answer-only s a (out_of_range e) = rw e
answer-only s a (above_limits edition m g f e) = rw (sym (within_both edition m g) ∙ e) at (settings-only s f)
answer-only s a (given m g f e) = rw (e One) at (settings-only s f)

pub as-stated : AsStated
as-stated = record { stated = answer-stated; only = answer-only }

-- ── What the answers are ──

-- minimum green is at least 40
settings-admitted : {s : Sheet} {m g : ℕ} (edition : Edition) → SettingsFor s m g → within_limits edition m g ≡ true → MayHave edition m g
unfolding within highest_minimum highest_gap
settings-admitted {s} {m} {g} edition f e =
    let least : 10 ≤ m = omega (arith, f.green.formula) in
    let h = sym (within-each edition m g) ∙ e in
    let green = green-limits edition in
    let gap = gap-limits edition in (
      rw (green.0, green.1) (and_both (le-leb 10 m least) (and_left (leb m 400) (leb g 100) h)),
      rw (gap.0, gap.1) (and_both (le-leb 0 g (omega arith)) (and_right (leb m 400) (leb g 100) h)),
    )

pub admitted : Admitted
unfolding Admitted minimum_of passage_of
admitted edition s m g h = go (answer-stated s) h
  where
    go : {a : Answer} → AnswerFor s a → a ≡ Settings m g → MayHave edition m g
    go (out_of_range e) h = (cc, cc)
    go (above_limits other k t f e) h = (cc, cc)
    go (given k t f e) h =
        let p : k ≡ m = ap minimum_of h in
        let q : t ≡ g = ap passage_of h in
        rw (p, q) at (settings-admitted edition f (e edition))
