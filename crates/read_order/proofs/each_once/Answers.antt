use Rattle.std.proofs.Common.{◌≡◌, ℕ, List, ◌+◌, ◌-◌, ◌<◌, ◌≤◌, take, drop, get_or, ap, ◌∙◌, arith, length-take, length-drop}
use lib.Pow.{pow_mono}
use Rattle.std.proofs.lemmas.List.{get_or-take, get_or-drop}
use Rattle.laws.specs.Bytes.{byte_at}
use Rattle.rules.specs.Personality.{body_at, record_at, phase_count, order_head, order_at, site_section}
use Rattle.rules.specs.Verdicts.{Accepted}
use Rattle.proof_acceptance.proofs.Sections.{site-accepted}
use Rattle.read_order.proofs.Ninth.{listed-none, listed_more, listed-other, listed-decided}
use Rattle.read_order.proofs.each_once.Goals as goal
use Rattle.read_order.proofs.each_once.Goals.{then-phase-phases, else-phase-phases}

-- accepted counts have at most seven phases
few : {b v : List ℕ} → b ≡ v → site_section b ≡ Accepted → phase_count v ≤ 7
few e passed = (site-accepted _ (rw e at passed)).phases.1

-- entry i of the part that holds the entries
entry : (b : List ℕ) (start n i : ℕ) → start ≡ body_at (order_head b) → i < n → get_or (take n (drop start b)) i 0 ≡ order_at b i
unfolding order_at record_at byte_at
entry b start n i e l =
    get_or-take n (drop start b) i 0 l ∙ get_or-drop start b i 0 ∙ ap (λ (k : ℕ). get_or b k 0) (omega (arith, e))

pub overflow_shl-listed : goal.overflow_shl-listed
overflow_shl-listed c =
    omega (arith, few c.c.view_is c.c.invariant, rw (c.s.view_is, c.c.view_is) at c.s.invariant.phasecount, c.if-phase-phases.true)

pub overflow_add-result : goal.overflow_add-result
overflow_add-result c =
    omega (arith, c.loop-phase.invariant.within, pow_mono (few c.c.view_is c.c.invariant))

pub overflow_shl-result : goal.overflow_shl-result
overflow_shl-result c =
    omega (arith, few c.c.view_is c.c.invariant, rw (c.s.view_is, c.c.view_is) at c.s.invariant.phasecount)

pub loop-phase-init : goal.loop-phase-init
loop-phase-init c = listed-none _

pub loop-phase-preserved : goal.loop-phase-preserved
unfolding order_at record_at body_at
loop-phase-preserved c =
    let b = c.args.c.now in
    let start = c.s.inside.layout.order + 4 in
    let i = c.loop-phase.phase-index in
    let listed = c.loop-phase.invariant in
    let own = few c.c.view_is c.c.invariant in
    let read =
    entry _ start (start + c.from.result - start) i (omega (arith, c.s.invariant.order)) (omega (arith, simp (length-take, length-drop) at c.loop-phase-test.true))
    ∙ ap (λ (s : List ℕ). order_at s i) (c.s.view_is ∙ c.c.view_is) in
    let phases = rw (c.s.view_is, c.c.view_is) at c.s.invariant.phasecount in
    elim c.if-phase-phases.branch [
      | then-phase-phases w ↦ rw w.listed-is (listed_more b own listed read (omega (arith, w.if-phase-phases.true, phases)))
      | else-phase-phases w ↦ rw w.listed-is (listed-other b own listed read (omega (arith, w.if-phase-phases.false, phases)))
    ]

pub returns : goal.returns
returns c =
    rw (c.s.invariant.phasecount, c.s.view_is, c.c.view_is)
    (listed-decided _ (few c.c.view_is c.c.invariant) c.loop-phase.invariant (omega (arith, rw (c.s.view_is, c.c.view_is) at c.s.invariant.phasecount)))
