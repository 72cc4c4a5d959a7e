-- What the decoders take for granted holds of an accepted personality: every count fits its array, and all sections are there.
use Prim.Native.Nat.{ℕ}
use mathlib.Core.List.{List}
use mathlib.Core.Path.{◌≡◌, sym, ◌∙◌}
use native.Mathlib.Omega.{arith}
use Rattle.rules.specs.Verdicts.{Accepted}
use Rattle.rules.specs.Personality.{early_head, past_section, verdict_of}
use Rattle.proof_acceptance.proofs.Sections.{sections-accepted}
use Rattle.read_layout.specs.declared.Layout.{Layout}
use Rattle.read_layout.specs.LayoutOf.{LayoutOf}
use Rattle.site_rows.specs.Fitting.{Fitting}

pub accepted-fits : {b : List ℕ} {w : Layout} → verdict_of b ≡ Accepted → LayoutOf b w → Fitting b w
unfolding early_head past_section
accepted-fits {b} h laid =
    let told = sections-accepted b h in
    record {
      laid = laid;
      phases = omega (arith, laid.phasecount, told.site.phases.1);
      groups = omega (arith, laid.groupcount, told.site.groups.1);
      detectors = told.detectors.count;
      movements = told.groups.movements;
      whole = rw (laid.pedestrians, ← told.pedestrians.body) told.pedestrians.next;
      early = λ there. rw (laid.early, laid.phasecount) (told.early (sym laid.hasearly ∙ there)).next;
      order = λ there. rw (laid.order, laid.phasecount) (told.order (sym laid.hasorder ∙ there)).next;
    }

-- the same of the value that a contract sees, by what an opened personality and its opened sections tell
pub fitting-of :
    {value own bytes : List ℕ} {w : Layout} → bytes ≡ own → own ≡ value → verdict_of own ≡ Accepted → LayoutOf bytes w → Fitting value w
fitting-of within seen accepted laid = accepted-fits (rw (← seen) accepted) (rw (← seen, ← within) laid)
