-- The reasons that are told, in their order: their text, and its length.
use Rattle.std.proofs.Common.{ℕ, ◌+◌, ◌≤◌, ◌<◌, ◌≡◌, Bool, true, false, Option, None, Some, List, [], ◌∷◌, ◌++◌, length, take, drop, get_or, refl, ap, ◌∙◌, sym, take_all, append_assoc, append-nil, ltb, arith}
use Rattle.std.specs.Bool.{then_some}
use Rattle.std.specs.List.{flat_map}
use Rattle.std.specs.Option.{option_to_list}
use Rattle.std.proofs.lemmas.List.{take-append-drop, take_more}
use Rattle.std.proofs.lemmas.List.Concat.{flat_map-append}
use Rattle.panel_text.specs.declared.Reason.{Reason}
use Rattle.panel_text.specs.Text.{reason_text, reasons_text, line}
use Rattle.panel_text.proofs.Texts.{line-more}
use Rattle.panel_line.specs.Reasons.{told, walks, reasons_by, line_of}
use Rattle.panel_text.specs.declared.Reason.TheVariants.{NoOtherDemand, Gap, Max, Walk}
use Rattle.laws.specs.Bytes.{bit}
use Rattle.panel_line.specs.declared.Why.{Why}
use Rattle.panel_line.proofs.Lengths.{line-short, line-sum}

pub told-of : (test : Bool) (reason : Reason) → option_to_list (then_some test reason) ≡ told test reason
unfolding told
told-of true reason = refl
told-of false reason = refl

-- ── All that may be told ──

module _ (alone : Bool) (gap left : ℕ) (walking : ℕ → Bool) where
  abbrev pub walk_at : ℕ → Option Reason
  walk_at k = then_some (walking k) (Walk (k + 1))

  pub reasons-told :
      flat_map option_to_list
      (then_some alone NoOtherDemand
      ∷ then_some (ltb 0 gap) (Gap gap)
      ∷ then_some (ltb 0 left) (Max left)
      ∷ walk_at 0 ∷ walk_at 1 ∷ walk_at 2 ∷ walk_at 3 ∷ walk_at 4 ∷ walk_at 5 ∷ walk_at 6 ∷ walk_at 7 ∷ [])
      ≡ reasons_by alone gap left walking
  unfolding reasons_by walks
  reasons-told = simp (told-of, append_assoc, append-nil)

-- ── The first i ──

abbrev pub first_told : List (Option Reason) → ℕ → List Reason
first_told reasons i = flat_map option_to_list (take i reasons)

module _ (phase : ℕ) (reasons : List (Option Reason)) (i : ℕ) where
  -- the line with them is no longer than the whole line
  pub first-within : length (line phase (first_told reasons i)) ≤ length (line phase (flat_map option_to_list reasons))
  first-within =
      let all = ap (flat_map option_to_list) (sym (take-append-drop i reasons)) ∙ flat_map-append option_to_list (take i reasons) (drop i reasons) in
      rw all (omega (arith, line-sum phase (first_told reasons i) (flat_map option_to_list (drop i reasons))))

  module _ (inside : i < length reasons) where
    next : first_told reasons (i + 1) ≡ first_told reasons i ++ option_to_list (get_or reasons i None)
    next =
        ap (flat_map option_to_list) (take_more reasons i None inside)
        ∙ flat_map-append option_to_list (take i reasons) (get_or reasons i None ∷ [])
        ∙ ap (λ (more : List Reason). first_told reasons i ++ more) (append-nil (option_to_list (get_or reasons i None)))

    -- the next is not told
    pub next-none : get_or reasons i None ≡ None → line phase (first_told reasons (i + 1)) ≡ line phase (first_told reasons i)
    next-none none = ap (line phase) (next ∙ rw none (append-nil (first_told reasons i)))

    -- it is
    pub next-some :
        (reason : Reason) → get_or reasons i None ≡ Some reason →
        line phase (first_told reasons (i + 1)) ≡ line phase (first_told reasons i) ++ reason_text reason
    unfolding reasons_text
    next-some reason some =
        ap (line phase) (next ∙ rw some refl)
        ∙ line-more phase (first_told reasons i) (reason ∷ [])
        ∙ ap (λ (more : List ℕ). line phase (first_told reasons i) ++ more) (append-nil (reason_text reason))

-- all are passed
pub all-told : (phase : ℕ) (reasons : List (Option Reason)) (i : ℕ) → i ≡ length reasons → line phase (first_told reasons i) ≡ line phase (flat_map option_to_list reasons)
all-told phase reasons i all = ap (line phase) (ap (flat_map option_to_list) (take_all i reasons (omega arith)))

-- ── The line of the reasons that the code lists ──

module _ (why : Why) (reasons : List (Option Reason)) (told : flat_map option_to_list reasons ≡ reasons_by why.alone why.gap why.left (λ k. bit k why.walks)) where
  pub line-told : line why.phase (flat_map option_to_list reasons) ≡ line_of why
  unfolding line_of
  line-told = ap (line why.phase) told

-- the letter and ` holds` are no longer than the line
pub start-within : (why : Why) → 7 ≤ length (line_of why)
unfolding line_of
start-within why =
    omega (arith, line-short why.phase, line-sum why.phase [] (reasons_by why.alone why.gap why.left (λ k. bit k why.walks)))
