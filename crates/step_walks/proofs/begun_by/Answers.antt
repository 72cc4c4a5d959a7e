-- The movement of a turn is one of the eight, and it is as it was.
use Rattle.std.proofs.Common.{◌≡◌, ◌<◌, false, not, ◌&&◌, ◌||◌, length, refl, sym, ◌∙◌, rules, arith}
use Rattle.std.proofs.lemmas.Grind.{common_steps}
use lib.Count.{count_trailing_zeros}
use Rattle.rules.specs.declared.state.Stage.TheVariants.{Idle}
use Rattle.rules.specs.IntervalTable.{is_running}
use Rattle.rules.specs.Site.{crosses}
use Rattle.rules.specs.Walks.{begins}
use Rattle.laws.proofs.LowestBit.{taken-all}
use Rattle.step_walks.proofs.Walking.{may-told, asked-begins, none_free, leaves_none, leaves-same, walked-told, none-walking, turn-within, turn-entry, one-begun, one_kept}
use Rattle.step_walks.proofs.begun_by.Goals as goal
use Rattle.step_walks.proofs.begun_by.Goals.{then-may_begin, else-may_begin}

pub returns-then-not-free : goal.returns-then-not-free
returns-then-not-free c =
    let a = c.args in
    let small : a.buttons < 256 = search rules in
    let eight : length a.movements ≡ 8 = search rules in
    let none : (a.starts || (is_running a.now.interval && not a.another)) ≡ false = grind (arith, common_steps) in
    walked-told
    (leaves_none (begins a.crossings.now a.starts a.another a.now a.buttons a.movements) small eight
    (λ k. none_free a.crossings.now a.starts a.another a.now a.movements a.buttons k none))

pub loop-rest-init : goal.loop-rest-init
loop-rest-init c = rw c.from-rest.ensures (none-walking _ _ _ (search rules) (search rules))

pub bounds-crossings-i : goal.bounds-crossings-i
bounds-crossings-i c =
    let some : 0 < c.loop-rest.rest = omega arith in
    omega (arith, turn-within c.loop-rest.invariant some)

pub bounds-begun-i : goal.bounds-begun-i
bounds-begun-i c =
    let some : 0 < c.loop-rest.rest = omega arith in
    omega (arith, turn-within c.loop-rest.invariant some)

pub without-requires : goal.without-requires
without-requires c =
    let some : 0 < c.loop-rest.rest = omega arith in
    turn-within c.loop-rest.invariant some

pub bounds-begun-i-then-may_begin : goal.bounds-begun-i-then-may_begin
bounds-begun-i-then-may_begin c =
    let some : 0 < c.loop-rest.rest = omega arith in
    omega (arith, turn-within c.loop-rest.invariant some)

pub loop-rest-preserved : goal.loop-rest-preserved
unfolding crosses
loop-rest-preserved c =
    let at = c.loop-rest in
    let a = c.args in
    let some : 0 < at.rest = omega arith in
    let k = count_trailing_zeros 64 at.rest in
    let free : c.if-is_running.free ≡ (is_running a.now.interval && not a.another) = grind (arith, common_steps) in
    let may-now =
    may-told a.crossings.now a.starts a.another a.now a.movements k (turn-entry at.invariant some (record { stage = Idle; age = 0 }))
    (c.bit8-own.ensures ∙ rw c.from-i.ensures) refl
    ∙ sym (c.may_begin.ensures ∙ rw (free, c.from-i.ensures)) in
    elim c.if-may_begin.branch [
      | then-may_begin w ↦ rw (w.begun-is, c.from-i.ensures) (one-begun at.invariant some (may-now ∙ w.if-may_begin.true) w.without.ensures refl)
      | else-may_begin w ↦ rw w.begun-is (one_kept at.invariant some (may-now ∙ w.if-may_begin.false))
    ]

pub returns : goal.returns
returns c =
    let a = c.args in
    walked-told
    (leaves-same c.loop-rest.invariant.told (begins a.crossings.now a.starts a.another a.now a.buttons a.movements)
    (λ k. rw (taken-all a.buttons k c.loop-rest-test.false) (asked-begins a.crossings.now a.starts a.another a.now a.movements a.buttons k)))
