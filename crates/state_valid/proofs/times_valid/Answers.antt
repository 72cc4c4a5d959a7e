-- The tests of the times, one after the other.
use Rattle.std.proofs.Common.{◌≡◌, sym, ap, ◌∙◌, ℕ, List}
use Rattle.laws.specs.Bytes.{byte_at}
use Rattle.rules.specs.Site.{site_of}
use Rattle.rules.specs.SiteTimes.{admitted}
use Rattle.state_times.specs.TimesLayout.{times}
use Rattle.state_timed.proofs.TimedLaws.{timed-known}
use Rattle.state_valid.proofs.StateTimes.{ruling-fails, none-wait, some-wait}
use Rattle.state_valid.proofs.times_valid.Goals as goal
use Rattle.state_valid.proofs.times_valid.Goals.{After-admitted}

-- what is tested is the personality that the table was made for
ruling-tested : (c : After-admitted) → admitted (site_of c.args.personality.now) (times.read c.args.bytes.now 39) ≡ c.admitted.result
ruling-tested c = ap (λ (b : List ℕ). admitted (site_of b) (times.read c.args.bytes.now 39)) (sym c.new-own.ensures) ∙ sym c.admitted.ensures

pub returns-then-bytes-eq0 : goal.returns-then-bytes-eq0
unfolding byte_at
returns-then-bytes-eq0 c =
    let b = c.args.personality.now in
    let tested = ruling-tested (goal.at.returns-then-bytes-eq0 c).After-admitted in
    none-wait b c.args.bytes.now (tested ∙ c.if-admitted.true) c.if-bytes-eq0.true (c.blank.ensures (site_of b))

pub returns-else-bytes-eq0 : goal.returns-else-bytes-eq0
unfolding byte_at
returns-else-bytes-eq0 c =
    let tested = ruling-tested (goal.at.returns-else-bytes-eq0 c).After-admitted in
    some-wait c.args.personality.now c.args.bytes.now (tested ∙ c.if-admitted.true) c.if-bytes-eq0.false (timed-known _ c.requires).code
    (c.admitted-else-bytes-eq0.ensures ∙ ap (λ (b : List ℕ). admitted (site_of b) (times.read c.args.bytes.now 188)) c.new-own.ensures)

pub returns-else-admitted : goal.returns-else-admitted
returns-else-admitted c =
    let tested = ruling-tested (goal.at.returns-else-admitted c).After-admitted in
    c.if-admitted.false ∙ ruling-fails c.args.personality.now c.args.bytes.now (tested ∙ c.if-admitted.false)
