-- Locked and button demands are met within the wait bound, through changes of times within the sum: each is met within its own wait, which is no more.
use mathlib.Core.List.{List}
use mathlib.Core.Path.{sym, ◌∙◌}
use native.Mathlib.Omega.{arith}
use Rattle.rules.specs.declared.site.Site.{Site}
use Rattle.rules.specs.Laws.{Sound}
use Rattle.rules.specs.Runs.{Step}
use Rattle.rules.specs.DemandThree.{MetInTime, DemandsMet}
use Rattle.rules.specs.PhaseWaits.{ComesBefore, WaitsMet, WithinSum}
use Rattle.proof_runs.proofs.Demanded.{lock-below}
use Rattle.proof_waits.proofs.Registers.{lock-same}

pub timed-demands-met :
    (site : Site) → Sound site → (steps : List Step) → WaitsMet site steps → WithinSum site steps → DemandsMet site steps
unfolding DemandsMet MetInTime WaitsMet ComesBefore WithinSum
timed-demands-met site sound steps met within earlier between later step e = (
  λ p r none.
      let below = lock-below site sound step.before step.inputs p (sym (lock-same site step p) ∙ r) in
      omega (arith, met.locks earlier between later step e p r none, (within earlier between later step e p below).0),
  λ k l r none.
      let of = sound.crossing k l in
      omega (
        arith,
        met.buttons earlier between later step e of.0 k l of.2 r none,
        (within earlier between later step e of.0 of.1).1 k l of.2,
      ),
)
