-- Only non-locking calls are read of the inputs: inputs that agree on them call the same phases.
use Rattle.std.specs.Prelude.{Option}
use Prim.Native.Nat.{ℕ}
use mathlib.Core.Bool.{Bool, true, false, not, ◌&&◌, ◌||◌}
use mathlib.Core.List.{List, [], ◌∷◌}
use mathlib.Core.Logic.{⊎_elim}
use mathlib.Core.Path.{◌≡◌, refl, sym, ap, ◌∙◌}
use lib.Dec.{eqb}
use Rattle.rules.specs.declared.site.Site.{Site}
use Rattle.rules.specs.declared.state.KeptState.{KeptState}
use Rattle.rules.specs.declared.state.State.{State}
use Rattle.rules.specs.Site.{site_of, detector_of}
use Rattle.rules.specs.IntervalTable.{is_held}
use Rattle.rules.specs.Demands.{occupied, calling, detected_among, detected, in_green, calls, first_in, next_after}
use Rattle.rules.specs.Kept.{is_kept}
use Rattle.rules.specs.Timed.{kept_of}
use Rattle.laws.proofs.Booleans.{and-false-right, decided}
use Rattle.laws.proofs.Folds.{any_same}
use Rattle.panel_reasons.specs.PanelLine.{no_other, reasons_of, panel_line}
use Rattle.proof_panel.specs.PanelLaws.{SameCalls, OnlyCallsCount}

same-calls : (site : Site) (s : State) (inputs others : ℕ) → SameCalls site inputs others → (p : ℕ) → calls site s inputs p ≡ calls site s others p
unfolding calls detected detected_among
same-calls site s inputs others same p =
    ap (λ (called : Bool). called && not (in_green s.position p))
    (any_same _ _ site.size.detectors
    (λ d l.
    ⊎_elim
    (λ (c : calling (detector_of site.detectors d).mode ≡ true). rw (same d l c))
    (λ (c : calling (detector_of site.detectors d).mode ≡ false).
    let own = eqb (detector_of site.detectors d).phase p in
    and-false-right (occupied inputs d && own) c ∙ sym (and-false-right (occupied others d && own) c))
    (decided (calling (detector_of site.detectors d).mode))))

first-same : (d e : ℕ → Bool) (l : List ℕ) → ((q : ℕ) → d q ≡ e q) → first_in d l ≡ first_in e l
unfolding first_in
first-same d e [] h = refl
first-same d e (q ∷ l) h = rw (h q, first-same d e l h)

no-other-same : (site : Site) (s : KeptState) (inputs others : ℕ) → SameCalls site inputs others → no_other site s inputs ≡ no_other site s others
unfolding no_other next_after
no-other-same site s inputs others same =
    ap (λ (next : Option ℕ). not (is_held next))
    (first-same (λ p. is_kept s p || calls site s.core inputs p) (λ p. is_kept s p || calls site s.core others p) _
    (λ q. ap (λ (called : Bool). is_kept s q || called) (same-calls site s.core inputs others same q)))

pub only-calls-count : OnlyCallsCount
unfolding OnlyCallsCount panel_line reasons_of
only-calls-count b s inputs others same = rw (no-other-same (site_of b) (kept_of s) inputs others same)
