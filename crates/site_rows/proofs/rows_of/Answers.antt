use Rattle.std.proofs.Common.{◌≡◌, arith}
use Rattle.rules.specs.Personality.{body_at, record_at, group_set, group_mark}
use Rattle.rules.specs.Site.{site_of}
use Rattle.site_rows.specs.Fitting.{group_rows_in}
use Rattle.site_rows.proofs.Ends.{groups-end}
use Rattle.laws.proofs.Rows.{filled_none, filled_more, filled-whole}
use Rattle.site_rows.proofs.Pedestrians.{passed_none, passed-vehicle, passed-pedestrian, room-left, passed-whole}
use Rattle.site_rows.proofs.rows_of.Goals as goal
use Rattle.site_rows.proofs.rows_of.Goals.{After-pair_at-group, then-group-eq2, else-group-eq2}

pub loop-g-init : goal.loop-g-init
loop-g-init c = record { filled = filled_none; passed = passed_none _ }

pub pair_at-group-requires : goal.pair_at-group-requires
unfolding record_at body_at
pair_at-group-requires c = omega (arith, groups-end c.requires)

-- the record read is that of group g
set-read : (c : After-pair_at-group) → c.pair_at-group.result.first ≡ group_set c.args.bytes.now c.loop-g.g
unfolding group_set
set-read c = rw c.requires.laid.groups at c.pair_at-group.ensures.0

mark-read : (c : After-pair_at-group) → c.pair_at-group.result.second ≡ group_mark c.args.bytes.now c.loop-g.g
unfolding group_mark
mark-read c = rw c.requires.laid.groups at c.pair_at-group.ensures.1

pub bounds-groups-g : goal.bounds-groups-g
bounds-groups-g c =
    let fitting = c.requires in
    omega (arith, fitting.groups)

pub bounds-crossings-movements : goal.bounds-crossings-movements
bounds-crossings-movements c =
    let fitting = c.requires in
    room-left _ c.loop-g.invariant.passed (mark-read (goal.at.bounds-crossings-movements c).After-pair_at-group)
    c.if-group-eq2.true (omega (arith, fitting.laid.groupcount)) fitting.movements

pub loop-g-preserved : goal.loop-g-preserved
loop-g-preserved c =
    let at = (goal.at.loop-g-preserved c).After-pair_at-group in
    let mark = mark-read at in
    let inv = c.loop-g.invariant in
    let fitting = c.requires in
    record {
      filled = filled_more inv.filled (simp (set-read at, mark)) (omega (arith, fitting.laid.groupcount)) (omega (arith, fitting.groups));
      passed =
          elim c.if-group-eq2.branch [
            | then-group-eq2 w ↦
                rw (w.crossings-is, w.movements-is)
                (passed-pedestrian _ inv.passed mark w.if-group-eq2.true (set-read at)
                (room-left _ inv.passed mark w.if-group-eq2.true (omega (arith, fitting.laid.groupcount)) fitting.movements))
            | else-group-eq2 w ↦ rw (w.crossings-is, w.movements-is) (passed-vehicle _ inv.passed mark w.if-group-eq2.false)
          ];
    }

pub returns : goal.returns
unfolding group_rows_in site_of
returns c =
    let inv = c.loop-g.invariant in
    let fitting = c.requires in
    let found = passed-whole _ inv.passed (omega (arith, fitting.laid.groupcount)) in
    rw (filled-whole inv.filled (omega (arith, fitting.laid.groupcount)), found.0, found.1)
