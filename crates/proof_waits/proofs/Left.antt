-- What is left of the wait for a demand of a phase, as a predicate on a number n of steps by interval: n is at least the rank of the
-- state. Where the rank is the greatest of a timer and of one count for each movement, n is at least each of them.
use Prim.Native.Nat.{ℕ, ◌+◌, ◌-◌, ◌≤◌, ◌<◌}
use Rattle.rules.specs.declared.site.Site.{Site}
use Rattle.rules.specs.declared.state.Interval.{Interval}
use Rattle.rules.specs.declared.state.Interval.TheVariants.{StartRed, LateStart, MinimumGreen, Running, EarlyCutOff, Yellow, AllRed}
use Rattle.rules.specs.declared.state.Position.{Position}
use Rattle.rules.specs.Site.{phase_times}
use Rattle.rules.specs.IntervalTable.{phase_held}
use Rattle.rules.specs.Waits.{leaving_of}
use Rattle.proof_waits.proofs.Stages.{longest_walk, longest_clearance}

-- a timer, and the count of each movement, each with what follows it
abbrev pub Each : (timer more : ℕ) → (ℕ → ℕ) → ℕ → Type 0
Each timer more count n = (timer + more ≤ n) × ((k : ℕ) → k < 8 → count k + more ≤ n)

-- Before a start, and while a phase is being left: `ahead t` is the most that passes from the start of phase t until the demand is met, and
-- `idle` has the steps until each movement is idle.
abbrev pub BetweenIn : Site → (ahead : ℕ → ℕ) → Interval → Position → (idle : ℕ → ℕ) → ℕ → Type 0
BetweenIn site ahead StartRed position idle n = site.times.start - position.age + 1 + ahead position.phase ≤ n
BetweenIn site ahead LateStart position idle n = ⊥
BetweenIn site ahead MinimumGreen position idle n = ⊥
BetweenIn site ahead Running position idle n = ⊥
BetweenIn site ahead EarlyCutOff position idle n =
    let times = phase_times site.times position.phase in
    Each (times.early - position.age + 1 + (times.yellow + times.red)) (ahead (phase_held position.target)) idle n
BetweenIn site ahead Yellow position idle n =
    let times = phase_times site.times position.phase in
    Each (times.yellow - position.age + 1 + times.red) (ahead (phase_held position.target)) idle n
BetweenIn site ahead AllRed position idle n =
    let times = phase_times site.times position.phase in
    Each (times.red - position.age + 1) (ahead (phase_held position.target)) idle n

-- the most that passes from the phase's start to the next start
unfoldable pub visit : Site → ℕ → ℕ
visit site p =
    let times = phase_times site.times p in
    times.late + times.minimum + times.maximum + longest_walk site p + leaving_of times + longest_clearance site p
