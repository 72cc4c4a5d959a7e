-- Each wait is stored after those passed, and once all are the buffer begins with them.
use Prim.Native.Nat.{ℕ}
use mathlib.Core.Path.{refl, ap, ◌∙◌}
use native.Mathlib.Omega.{arith}
use lib.Seq.{sets}
use Rattle.laws.proofs.Arrays.{stored-none, stored-all}
use Rattle.state_forms.specs.Forms.{two, parts_of}
use Rattle.state_forms.proofs.Parts.{stored-record}
use Rattle.board_waits.specs.WaitsCall.{wait_bytes}
use Rattle.board_waits.proofs.WaitParts.{wait_part}
use Rattle.board_waits.proofs.put_waits.Goals as goal

pub loop-i-init : goal.loop-i-init
unfolding parts_of
loop-i-init c = stored-none refl

pub loop-i-preserved : goal.loop-i-preserved
loop-i-preserved c =
    rw c.put_two.ensures
    (stored-record (wait_part c.args.site.now) 2 (λ i. refl) _ (two.written c.wait_at.result) c.loop-i.invariant
    c.loop-i-test.true
    (omega arith)
    (ap two.written c.wait_at.ensures))

pub returns : goal.returns
unfolding wait_bytes
returns c =
    stored-all c.loop-i.invariant c.loop-i-test.false
    ∙ ap (λ (n : ℕ). sets c.args.buffer.now 0 (parts_of (wait_part c.args.site.now) n)) c.requires.0
