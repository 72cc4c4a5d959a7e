use Rattle.std.proofs.Common.{refl}
use Rattle.cabinet_held.proofs.Bytes.{padded}
use Rattle.cabinet_held.proofs.fills.store.Goals as goal

pub returns : goal.returns
returns c = padded c.args.personality.now c.args.room.now c.requires c.put_all.ensures refl (c.fill.ensures.after (λ y same. same))
