-- Part 5, movement by movement: what the movements that have begun walk leave, and the pass over the demanded ones. A movement that is taken
-- and may begin has begun, and every other one is as it was.
use Prim.Native.Nat.{ℕ, ◌<◌}
use mathlib.Core.Bool.{Bool, true, false, not, ◌&&◌, ◌||◌, and-true, and-false, and_assoc}
use mathlib.Core.List.{List}
use mathlib.Core.Logic.{⊎_elim}
use mathlib.Core.Path.{◌≡◌, sym, ◌∙◌}
use native.Mathlib.Omega.{arith}
use borrow.Author.Tests.{eqb-true, eqb-false}
use lib.Dec.{eqb}
use lib.ListN.{length, get_or, set}
use Rattle.rules.specs.declared.state.Movement.{Movement}
use Rattle.rules.specs.declared.state.Position.{Position}
use Rattle.rules.specs.declared.state.Stage.TheVariants.{Walk}
use Rattle.laws.specs.Bytes.{bit}
use Rattle.std.specs.Prelude.{if◌then◌else◌}
use Rattle.laws.specs.Folds.{list_of, set_of}
use Rattle.rules.specs.Site.{crosses}
use Rattle.rules.specs.IntervalTable.{is_idle, is_running}
use Rattle.rules.specs.State.{idle}
use Rattle.rules.specs.Walks.{begins, walks_begun, buttons_left}
use Rattle.laws.proofs.Booleans.{decided, and-false-left, and-false-right, or-false-left, or-false-right, or-false-both}
use Rattle.laws.proofs.Lists.{list_length, list_at, list-told, list_same, list_set}
use Rattle.laws.proofs.LowestBit.{lowest, others, Left, left-all, taken_none, next-within, left-more, next-untaken, counted, counted-other, counted-own, counted_same}
use Rattle.laws.proofs.ByteSets.{bit-set, set_same, set_told}
use Rattle.step_walks.specs.declared.Begun.{Begun}
use Rattle.step_walks.specs.Begun.{begun_by}

-- ── Which movements begin walk ──

module _ (crossings : List ℕ) (starts another : Bool) (now : Position) (movements : List Movement) where
  -- movement k begins walk where it is demanded
  abbrev pub may : ℕ → Bool
  may k =
      crosses crossings k now.phase
      && (starts || ((is_running now.interval && not another) && is_idle (get_or movements k idle).stage))

  pub may-told :
      {m : Movement} {own rests : Bool} (k : ℕ) →
      m ≡ get_or movements k idle →
      own ≡ crosses crossings k now.phase →
      rests ≡ is_idle m.stage →
      may k ≡ (own && (starts || ((is_running now.interval && not another) && rests)))
  may-told k entry of rest = rw (of, rest, entry)

  module _ (buttons k : ℕ) where
    pub asked-begins : (bit k buttons && may k) ≡ begins crossings starts another now buttons movements k
    unfolding begins
    asked-begins = sym (and_assoc (bit k buttons) (crosses crossings k now.phase) _)

    -- no phase starts and walks may not begin
    pub none_free :
        (starts || (is_running now.interval && not another)) ≡ false → begins crossings starts another now buttons movements k ≡ false
    unfolding begins
    none_free e =
        let free = is_running now.interval && not another in
        and-false-right (bit k buttons && crosses crossings k now.phase)
        (or-false-both (or-false-left starts free e) (and-false-left (is_idle (get_or movements k idle).stage) (or-false-right starts free e)))

-- ── What those that have begun leave ──

abbrev button : ℕ → (ℕ → Bool) → ℕ → Bool
button buttons begun k = bit k buttons && not (begun k)

abbrev walk : List Movement → (ℕ → Bool) → ℕ → Movement
walk movements begun k = if begun k then record { stage = Walk; age = 1 } else get_or movements k idle

pub record Leaves (buttons : ℕ) (movements : List Movement) (begun : ℕ → Bool) (left : ℕ) (out : List Movement) : Type 0 where
  pub demands : left ≡ set_of (button buttons begun)
  pub walks : out ≡ list_of (walk movements begun) 8

pub leaves_none :
    {buttons : ℕ} {movements : List Movement} (begun : ℕ → Bool) →
    buttons < 256 →
    length movements ≡ 8 →
    ((k : ℕ) → begun k ≡ false) →
    Leaves buttons movements begun buttons movements
leaves_none {buttons} {movements} begun small len none =
    record {
      demands = set_told (button buttons begun) buttons small (λ k l. rw (none k) (sym (and-true (bit k buttons))));
      walks = list-told (walk movements begun) movements 8 idle len (λ k l. rw (none k));
    }

module _ {buttons left : ℕ} {movements out : List Movement} {f : ℕ → Bool} (known : Leaves buttons movements f left out) where
  pub leaves-same : (g : ℕ → Bool) → ((k : ℕ) → f k ≡ g k) → Leaves buttons movements g left out
  leaves-same g same =
      record {
        demands = known.demands ∙ set_same (button buttons f) (button buttons g) (λ k l. rw (same k));
        walks = known.walks ∙ list_same (walk movements f) (walk movements g) 8 (λ k l. rw (same k));
      }

  -- one movement more
  leaves-one :
      (g : ℕ → Bool) (k : ℕ) →
      k < 8 →
      g k ≡ true →
      ((i : ℕ) → (i ≡ k → ⊥) → g i ≡ f i) →
      Leaves buttons movements g (set_of (λ i. bit i left && not (eqb i k))) (set out k (record { stage = Walk; age = 1 }))
  leaves-one g k l own same =
      record {
        demands =
            set_same (λ i. bit i left && not (eqb i k)) (button buttons g)
            (λ i m.
            ⊎_elim
            (λ (e : eqb i k ≡ true). rw (e, eqb-true i k e, own) (and-false (bit k left) ∙ sym (and-false (bit k buttons))))
            (λ (e : eqb i k ≡ false).
            rw (e, same i (eqb-false i k e), known.demands)
            (and-true (bit i (set_of (button buttons f))) ∙ bit-set (button buttons f) i m))
            (decided (eqb i k)));
        walks =
            list_set (walk movements g) out 8 k (record { stage = Walk; age = 1 }) idle
            (rw known.walks (list_length (walk movements f) 8))
            l
            (rw own)
            (λ i m apart. rw (same i apart, known.walks) (sym (list_at (walk movements f) 8 i idle m)));
      }

  -- a movement that has not begun
  entry_kept : (k : ℕ) (d : Movement) → k < 8 → f k ≡ false → get_or out k d ≡ get_or movements k idle
  entry_kept k d l none = rw known.walks (list_at (walk movements f) 8 k d l ∙ rw none)

  pub walked-told : ◌≡◌ {A = Begun} (record { buttons = left; movements = out }) (begun_by f buttons movements)
  unfolding begun_by buttons_left walks_begun
  walked-told = rw (known.demands, known.walks)

-- ── The pass over the demanded movements ──

pub record Walking (buttons : ℕ) (movements : List Movement) (may : ℕ → Bool) (rest left : ℕ) (out : List Movement) : Type 0 where
  pub untaken : Left buttons 8 rest
  pub told : Leaves buttons movements (counted buttons may rest) left out

pub none-walking :
    (buttons : ℕ) (movements : List Movement) (may : ℕ → Bool) →
    buttons < 256 →
    length movements ≡ 8 →
    Walking buttons movements may buttons buttons movements
none-walking buttons movements may small len =
    record {
      untaken = left-all buttons 8 small;
      told = leaves_none (counted buttons may buttons) small len (λ k. rw (taken_none buttons k));
    }

module _
    {buttons rest left : ℕ} {movements out : List Movement} {may : ℕ → Bool}
    (known : Walking buttons movements may rest left out) (some : 0 < rest)
  where
    pub turn-within : lowest rest < 8
    turn-within = next-within known.untaken some (omega arith)

    -- the movement of a turn is as it was
    pub turn-entry : (d : Movement) → get_or out (lowest rest) d ≡ get_or movements (lowest rest) idle
    turn-entry d = entry_kept known.told (lowest rest) d turn-within (rw (next-untaken known.untaken some (omega arith)))

    pub one-begun :
        {left' : ℕ} {out' : List Movement} →
        may (lowest rest) ≡ true →
        left' ≡ set_of (λ i. bit i left && not (eqb i (lowest rest))) →
        out' ≡ set out (lowest rest) (record { stage = Walk; age = 1 }) →
        Walking buttons movements may (others rest) left' out'
    one-begun e lefts outs =
        rw (lefts, outs)
        (record {
          untaken = left-more known.untaken some (omega arith);
          told =
              leaves-one known.told (counted buttons may (others rest)) (lowest rest) turn-within
              (counted-own known.untaken some (omega arith) may e)
              (counted-other known.untaken some (omega arith) may);
        })

    pub one_kept : may (lowest rest) ≡ false → Walking buttons movements may (others rest) left out
    one_kept e =
        record {
          untaken = left-more known.untaken some (omega arith);
          told =
              leaves-same known.told (counted buttons may (others rest))
              (counted_same known.untaken some (omega arith) may e);
        }
