use Rattle.laws.specs.Bytes.{bit}
use Rattle.panel_line.proofs.Told.{reasons-told}
use Rattle.panel_line.proofs.reasons_of.Goals as goal

pub returns : goal.returns
returns c =
    let why = c.args.why in
    rw (
      c.then_some.ensures,
      c.then_some-2.ensures,
      c.then_some-3.ensures,
      c.walk_in.ensures,
      c.walk_in-2.ensures,
      c.walk_in-3.ensures,
      c.walk_in-4.ensures,
      c.walk_in-5.ensures,
      c.walk_in-6.ensures,
      c.walk_in-7.ensures,
      c.walk_in-8.ensures,
    )
    (reasons-told why.alone why.gap why.left (λ k. bit k why.walks))
