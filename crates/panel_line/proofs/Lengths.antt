-- How many bytes a line has, reason by reason, and the longest line.
use Prim.Native.Nat.{ℕ, zero, suc, ◌+◌, ◌*◌, ◌≤◌, ◌<◌}
use mathlib.Core.Bool.{Bool, true, false}
use mathlib.Core.List.{List, [], ◌++◌, append-nil}
use mathlib.Core.Path.{◌≡◌, refl, ap, ◌∙◌}
use native.Mathlib.Numerals.{add-one}
use native.Mathlib.Omega.{arith}
use lib.Dec.{ltb}
use lib.ListN.{length, length-append}
use Rattle.panel_text.specs.declared.Reason.{Reason}
use Rattle.panel_text.specs.declared.Reason.TheVariants.{NoOtherDemand, Gap, Max, Walk}
use Rattle.panel_text.specs.Text.{reason_text, reasons_text, line}
use Rattle.laws.proofs.Decimals.{at_most}
use Rattle.panel_text.proofs.Texts.{reasons-join, line-more}
use Rattle.panel_line.specs.Reasons.{told, walks, reasons_by}

-- ── A reason that is told or not ──

pub told-yes : {test : Bool} (reason : Reason) → test ≡ true → reasons_text (told test reason) ≡ reason_text reason
unfolding told reasons_text
told-yes reason e = rw e (append-nil (reason_text reason))

pub told-no : {test : Bool} (reason : Reason) → test ≡ false → reasons_text (told test reason) ≡ []
unfolding told reasons_text
told-no reason e = rw e

told-most : (test : Bool) (reason : Reason) (n : ℕ) → length (reason_text reason) ≤ n → length (reasons_text (told test reason)) ≤ n
told-most true reason n h = omega (arith, ap length (told-yes reason refl))
told-most false reason n h = omega (arith, ap length (told-no reason refl))

-- ── The movements ──

pub walks-none : (walking : ℕ → Bool) → reasons_text (walks walking 0) ≡ []
unfolding walks reasons_text
walks-none walking = refl

-- one movement more
pub walks_more :
    (walking : ℕ → Bool) (k : ℕ) →
    reasons_text (walks walking (k + 1)) ≡ reasons_text (walks walking k) ++ reasons_text (told (walking k) (Walk (k + 1)))
unfolding walks
walks_more walking k = rw add-one (reasons-join (walks walking k) (told (walking k) (Walk (suc k))))

pub walks-sum :
    (walking : ℕ → Bool) (k : ℕ) →
    length (reasons_text (walks walking (k + 1)))
    ≡ length (reasons_text (walks walking k)) + length (reasons_text (told (walking k) (Walk (k + 1))))
walks-sum walking k = ap length (walks_more walking k) ∙ length-append (reasons_text (walks walking k)) _

-- ── The bytes of a reason with a number of few digits ──

gap-short : (n : ℕ) → n < 1000 → length (reason_text (Gap n)) ≤ 9
unfolding reason_text
gap-short n h = omega (arith, at_most 2 n h)

max-short : (n : ℕ) → n < 10000 → length (reason_text (Max n)) ≤ 10
unfolding reason_text
max-short n h = omega (arith, at_most 3 n h)

walk-short : (n : ℕ) → n < 10 → length (reason_text (Walk n)) ≤ 8
unfolding reason_text
walk-short n h = omega (arith, at_most 0 n h)

no-other-short : length (reason_text NoOtherDemand) ≤ 17
unfolding reason_text
no-other-short = omega arith

walks-short : (walking : ℕ → Bool) (k : ℕ) → k < 10 → length (reasons_text (walks walking k)) ≤ 8 * k
walks-short walking zero h = omega (arith, ap length (walks-none walking))
walks-short walking (suc k) h =
    omega (
      arith,
      ap (λ (n : ℕ). length (reasons_text (walks walking n))) (add-one k),
      walks-sum walking k,
      walks-short walking k (omega arith),
      told-most (walking k) (Walk (k + 1)) 8 (walk-short (k + 1) (omega arith)),
    )

-- ── The whole line ──

pub line-short : (phase : ℕ) → length (line phase []) ≡ 7
unfolding line reasons_text
line-short phase = refl

pub line-sum : (phase : ℕ) (reasons more : List Reason) → length (line phase (reasons ++ more)) ≡ length (line phase reasons) + length (reasons_text more)
line-sum phase reasons more = ap length (line-more phase reasons more) ∙ length-append (line phase reasons) (reasons_text more)

module _ (phase : ℕ) (alone : Bool) (gap left : ℕ) (walking : ℕ → Bool) where
  pub whole_sum :
      length (line phase (reasons_by alone gap left walking))
      ≡ 7
      + length (reasons_text (told alone NoOtherDemand))
      + length (reasons_text (told (ltb 0 gap) (Gap gap)))
      + length (reasons_text (told (ltb 0 left) (Max left)))
      + length (reasons_text (walks walking 8))
  unfolding reasons_by
  whole_sum =
      let first : List Reason = told alone NoOtherDemand in
      let second : List Reason = first ++ told (ltb 0 gap) (Gap gap) in
      let third : List Reason = second ++ told (ltb 0 left) (Max left) in
      omega (
        arith,
        line-short phase,
        line-sum phase [] first,
        line-sum phase first (told (ltb 0 gap) (Gap gap)),
        line-sum phase second (told (ltb 0 left) (Max left)),
        line-sum phase third (walks walking 8),
      )

  -- the longest line, of a gap count of three digits, steps left of four, and eight movements
  pub longest : gap < 1000 → left < 10000 → length (line phase (reasons_by alone gap left walking)) ≤ 107
  longest h k =
      omega (
        arith,
        whole_sum,
        told-most alone NoOtherDemand 17 no-other-short,
        told-most (ltb 0 gap) (Gap gap) 9 (gap-short gap h),
        told-most (ltb 0 left) (Max left) 10 (max-short left k),
        walks-short walking 8 (omega arith),
      )
