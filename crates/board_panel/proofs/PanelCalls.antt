-- The calls for the panel's line. Each check decides once those before it have passed, and what is then left to say decides the answer and the
-- buffer.
use Prim.Native.Nat.{ℕ, ◌≤◌, ◌<◌}
use mathlib.Core.Bool.{true, false}
use mathlib.Core.List.{List, [], ◌++◌}
use mathlib.Core.Path.{◌≡◌, refl, subst⁻¹}
use lib.ListN.{length, drop}
use borrow.Author.Tests.{le-ltb, lt-ltb}
use Rattle.std.specs.Prelude.{Err}
use Rattle.rules.specs.declared.answer.Refusal.{Refusal}
use Rattle.rules.specs.Verdicts.{Accepted, Refused}
use Rattle.rules.specs.declared.site.Site.{Site}
use Rattle.rules.specs.declared.state.KeptState.{KeptState}
use Rattle.rules.specs.Verdicts.{◌or_else◌, refuse_if}
use Rattle.rules.specs.Personality.{verdict_of}
use Rattle.rules.specs.Site.{site_of}
use Rattle.rules.specs.IntervalTable.{is_running}
use Rattle.rules.specs.Kept.{kept_valid}
use Rattle.rules.specs.Timed.{kept_of, ruled_site, timed_valid}
use Rattle.rules.specs.Call.{stray_input, bound_for, handed_back}
use Rattle.rules.specs.Laws.{Sound, AcceptedIsSound}
use Rattle.laws.proofs.Booleans.{and_right}
use Rattle.proof_acceptance.proofs.Acceptance.{accepted-is-sound}
use Rattle.proof_change.proofs.Timed.{timed-told, old-sound}
use Rattle.state_timed.specs.TimedLayout.{is_timed, timed_decoded}
use Rattle.state_valid.specs.StateOf.{is_state_of}
use Rattle.panel_reasons.specs.PanelLine.{panel_line}
use Rattle.board_answers.specs.Answers.{packed}
use Rattle.board_answers.proofs.Answers.{outcome-stepped, outcome-declined}
use Rattle.board_panel.specs.PanelCall.{why_line, length_checks, why_checks, why_length_answer, why_answer, line_after}
use Rattle.board_panel.specs.Explains.{PutIn}

module _ (b state : List ℕ) (inputs : ℕ) where
  -- ── The checks ──

  pub refused : {r : Refusal} → verdict_of b ≡ Err r → length_checks b state inputs ≡ Err r
  unfolding length_checks ◌or_else◌
  refused e = rw e

  module _ (accepted : verdict_of b ≡ Accepted) where
    pub no-state : is_state_of b state ≡ false → length_checks b state inputs ≡ Refused 13 0
    unfolding length_checks ◌or_else◌ refuse_if
    no-state e = rw (accepted, e)

    module _ (valid : is_state_of b state ≡ true) where
      pub stray : stray_input (site_of b) inputs ≡ true → length_checks b state inputs ≡ Refused 15 0
      unfolding length_checks ◌or_else◌ refuse_if
      stray e = rw (accepted, valid, e)

      pub passed : stray_input (site_of b) inputs ≡ false → length_checks b state inputs ≡ Accepted
      unfolding length_checks ◌or_else◌ refuse_if
      passed e = rw (accepted, valid, e)

      valid-timed : timed_valid (site_of b) (timed_decoded state) ≡ true
      unfolding is_state_of
      valid-timed = and_right (is_timed state) _ valid

      -- the site and the state that the check of the bytes gives
      module _ {site : Site} (ruled : site ≡ ruled_site (site_of b) (timed_decoded state)) where
        pub site-sound : Sound site
        unfolding AcceptedIsSound
        site-sound = subst⁻¹ Sound ruled (old-sound (site_of b) (accepted-is-sound b accepted) (timed_decoded state) valid-timed)

        pub kept-valid : {kept : KeptState} → kept ≡ kept_of (timed_decoded state) → kept_valid site kept ≡ true
        kept-valid e = rw (ruled, e) (timed-told (site_of b) (timed_decoded state) valid-timed).rest

  pub silent : {kept : KeptState} → kept ≡ kept_of (timed_decoded state) → is_running kept.core.position.interval ≡ false → [] ≡ why_line b state inputs
  unfolding panel_line
  silent e r = rw (rw e at r)

  -- ── The answers ──

  pub length-refused : {r number place : ℕ} → length_checks b state inputs ≡ Refused number place → r ≡ packed number place → r ≡ why_length_answer b state inputs
  unfolding why_length_answer bound_for
  length-refused {r} e p = outcome-declined _ _ r refl (rw e) p

  pub length-told :
      {r : ℕ} (line : List ℕ) →
      (length_checks b state inputs ≡ Accepted) × (line ≡ why_line b state inputs) →
      r ≡ packed 0 (length line) →
      r ≡ why_length_answer b state inputs
  unfolding why_length_answer bound_for
  length-told {r} line e p = outcome-stepped _ _ r refl (rw (e.0, e.1)) p

  -- what the writing call answers, and the buffer as it returns
  abbrev pub Writes : List ℕ → ℕ → List ℕ → Type 0
  Writes buffer r out = (r ≡ why_answer b state inputs (length buffer)) × (out ≡ line_after b state inputs buffer)

  pub why-refused : (buffer : List ℕ) {r number place : ℕ} → length_checks b state inputs ≡ Refused number place → r ≡ packed number place → Writes buffer r buffer
  unfolding why_answer line_after why_checks bound_for handed_back ◌or_else◌
  why-refused buffer {r} e p = (outcome-declined _ _ r refl (rw e) p, rw e)

  pub why-told :
      (buffer : List ℕ) {r : ℕ} {out : List ℕ} (line : List ℕ) →
      (length_checks b state inputs ≡ Accepted) × (line ≡ why_line b state inputs) →
      PutIn line buffer out r →
      Writes buffer r out
  unfolding why_answer line_after why_checks ◌or_else◌
  why-told buffer line e put = (rw (e.0, ← e.1) put.0, rw (e.0, ← e.1) put.1)

-- ── The line in a buffer ──

pub too_short : (line buffer : List ℕ) {r : ℕ} → length buffer < length line → r ≡ packed 14 0 → PutIn line buffer buffer r
unfolding bound_for handed_back refuse_if
too_short line buffer {r} h p = let short = lt-ltb (length buffer) (length line) h in (outcome-declined _ _ r refl (rw short) p, rw short)

pub has_room :
    (line buffer : List ℕ) {r : ℕ} {out : List ℕ} →
    length line ≤ length buffer →
    r ≡ packed 0 (length line) →
    out ≡ line ++ drop (length line) buffer →
    PutIn line buffer out r
unfolding bound_for handed_back refuse_if
has_room line buffer {r} h p o = let fits = le-ltb (length buffer) (length line) h in (outcome-stepped _ _ r refl (rw fits) p, rw fits o)
