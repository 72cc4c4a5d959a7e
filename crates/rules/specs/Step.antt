-- One step: the five parts in order. The phase that is demanded next is an argument.
use Rattle.std.specs.Prelude.{ℕ, Option}
use Rattle.rules.specs.Types.{Site, Times, State}
use Rattle.rules.specs.Site.{phase_times}
use Rattle.rules.specs.IntervalTable.{is_held}
use Rattle.rules.specs.Demands.{demands_after, next_demanded, detected, extending}
use Rattle.rules.specs.Movements.{walk_may_end, movements_after}
use Rattle.rules.specs.Counts.{counts_after}
use Rattle.rules.specs.Interval.{ends, position_after, counts_changed, locks_left, starts}
use Rattle.rules.specs.Walks.{begins, walks_begun, buttons_left}

-- The times that rule from the end of the interval on are an argument; they are the site's own unless other times take over in this step.
unfoldable pub stepped_into : Times → Option ℕ → Site → State → ℕ → State
stepped_into ruling next site s inputs =
    let old = s.position in
    let times = phase_times site.times old.phase in
    -- 1. demands
    let demands = demands_after site s inputs in
    let another = is_held next in
    -- 2. movements
    let movements = movements_after site.times (walk_may_end old.interval times another s.counts) s.movements in
    -- 3. counts
    let extended = detected extending site inputs old.phase in
    let counts = counts_after old.interval times extended another s.counts in
    -- 4. interval
    let ended = ends old.interval site.times.start times old.age another movements counts in
    let now = position_after ended ruling next old in
    -- 5. walks
    let begun = begins site.crossings (starts ended old) another now demands.buttons movements in
    record {
      position = now;
      counts = counts_changed ended ruling old now counts;
      demands = record { locks = locks_left ended now demands.locks; buttons = buttons_left begun demands.buttons };
      movements = walks_begun begun movements;
    }

-- the step by the site's own times
unfoldable pub stepped_to : Option ℕ → Site → State → ℕ → State
stepped_to next site s inputs = stepped_into site.times next site s inputs

-- the phase demanded next is found by a scan of the locks and the demanded movements
unfoldable pub stepped : Site → State → ℕ → State
stepped site s inputs = stepped_to (next_demanded site s inputs) site s inputs
