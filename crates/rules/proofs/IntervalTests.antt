-- Tests of an interval and of a stage, by cases: which one a test tells, and a test that is put together from two.
use mathlib.Core.Bool.{true, false, ◌||◌, false≢true}
use mathlib.Core.Path.{◌≡◌, refl}
use Rattle.rules.specs.Types.{Interval, StartRed, LateStart, MinimumGreen, Running, EarlyCutOff, Yellow, AllRed, Stage, Idle, Walk, ClearanceOne, ClearanceTwo}
use Rattle.rules.specs.IntervalTable.{is_idle, is_walk_or_first, is_running, is_minimum_green, is_green}

pub running-only : (interval : Interval) → is_running interval ≡ true → interval ≡ Running
running-only StartRed h = absurd (false≢true h)
running-only LateStart h = absurd (false≢true h)
running-only MinimumGreen h = absurd (false≢true h)
running-only Running h = refl
running-only EarlyCutOff h = absurd (false≢true h)
running-only Yellow h = absurd (false≢true h)
running-only AllRed h = absurd (false≢true h)

pub green-either : (interval : Interval) → is_green interval ≡ (is_minimum_green interval || is_running interval)
green-either StartRed = refl
green-either LateStart = refl
green-either MinimumGreen = refl
green-either Running = refl
green-either EarlyCutOff = refl
green-either Yellow = refl
green-either AllRed = refl

pub idle-only : (stage : Stage) → is_idle stage ≡ true → stage ≡ Idle
idle-only Idle h = refl
idle-only Walk h = absurd (false≢true h)
idle-only ClearanceOne h = absurd (false≢true h)
idle-only ClearanceTwo h = absurd (false≢true h)

pub idle-not-walking : (stage : Stage) → is_idle stage ≡ true → is_walk_or_first stage ≡ false
idle-not-walking stage h = rw (idle-only stage h)
