-- A and C of a phase among the movements passed, and one movement more.
use Rattle.std.proofs.Common.{ℕ, ◌+◌, ◌<◌, ◌≡◌, ◌≢◌, true, false, List, length, replicate, get_or, max, refl, ⊎_elim, add-one, arith, set, get_or-set_same, get_or-set_other}
use Rattle.std.proofs.lemmas.List.{get_or-replicate}
use Rattle.std.specs.Prelude.{if◌then◌else◌}
use Rattle.rules.specs.declared.site.WalkTimes.{WalkTimes}
use Rattle.laws.specs.Bytes.{bit}
use Rattle.laws.specs.Folds.{greatest_of}
use Rattle.laws.proofs.Booleans.{decided}
use Rattle.laws.proofs.Indices.{same-or-apart}
use Rattle.laws.proofs.LowestBit.{lowest, others, taken, Left, taken_none, taken-all, next-left, next-within, left-more, next-untaken, next-taken, taken-other}
use Rattle.rules.specs.Site.{no_walk_times, crosses}
use Rattle.rules.specs.WaitBound.{longest_walk, longest_clearance}
use Rattle.wait_bound_movements.specs.declared.Longest.{Longest}
use Rattle.wait_bound_movements.specs.Longest.{no_longest}

pub record Reached (crossings : List ℕ) (walks : List WalkTimes) (n p : ℕ) (own : Longest) : Type 0 where
  pub walk : own.walk ≡ longest_walk crossings walks n p
  pub clearance : own.clearance ≡ longest_clearance crossings walks n p

module _ (crossings : List ℕ) (walks : List WalkTimes) (n p : ℕ) (own : Longest) (reached : Reached crossings walks n p own) where
  -- movement n is not of phase p
  pub reached-past : bit p (get_or crossings n 0) ≡ false → Reached crossings walks (n + 1) p own
  unfolding longest_walk longest_clearance greatest_of crosses
  reached-past not =
      record { walk = rw (add-one n, not) (omega (arith, reached.walk)); clearance = rw (add-one n, not) (omega (arith, reached.clearance)) }

  -- it is
  pub reached-more :
      bit p (get_or crossings n 0) ≡ true →
      let walk = get_or walks n no_walk_times in
      Reached crossings walks (n + 1) p (record { walk = max own.walk (walk.walk + walk.first); clearance = max own.clearance walk.second })
  unfolding longest_walk longest_clearance greatest_of crosses
  reached-more has =
      record { walk = rw (add-one n, has) (omega (arith, reached.walk)); clearance = rw (add-one n, has) (omega (arith, reached.clearance)) }

reached-none : (crossings : List ℕ) (walks : List WalkTimes) (p : ℕ) → Reached crossings walks 0 p no_longest
unfolding longest_walk longest_clearance greatest_of
reached-none crossings walks p = record { walk = refl; clearance = refl }

-- ── A and C of all phases ──

-- in the turn of movement k the phases taken from its set have what it adds too
abbrev pub ReachedBy : (crossings : List ℕ) (walks : List WalkTimes) (k rest : ℕ) (out : List Longest) → Type 0
ReachedBy crossings walks k rest out =
    (q : ℕ) → q < 8 → Reached crossings walks (if taken (get_or crossings k 0) rest q then k + 1 else k) q (get_or out q no_longest)

module _ (crossings : List ℕ) (walks : List WalkTimes) where
  pub none-reached : (q : ℕ) → q < 8 → Reached crossings walks 0 q (get_or (replicate 8 no_longest) q no_longest)
  none-reached q l = rw (get_or-replicate 8 q no_longest no_longest l) (reached-none crossings walks q)

  module _ (k : ℕ) (out : List Longest) where
    abbrev set_of_k : ℕ
    set_of_k = get_or crossings k 0

    -- no phase of the set is taken
    pub turn-begins :
        ((q : ℕ) → q < 8 → Reached crossings walks k q (get_or out q no_longest)) →
        ReachedBy crossings walks k set_of_k out
    turn-begins before q l = rw (taken_none set_of_k q) (before q l)

    -- all are
    pub turn-ends :
        {rest : ℕ} →
        rest ≡ 0 →
        ReachedBy crossings walks k rest out →
        (q : ℕ) → q < 8 → Reached crossings walks (k + 1) q (get_or out q no_longest)
    turn-ends none by q l =
        let last = by q l in
        let whole = taken-all set_of_k q none in
        ⊎_elim
        (λ (has : bit q set_of_k ≡ true). rw (whole, has) at last)
        (λ (past : bit q set_of_k ≡ false).
        let before : Reached crossings walks k q (get_or out q no_longest) = rw (whole, past) at last in
        reached-past crossings walks k q (get_or out q no_longest) before past)
        (decided (bit q set_of_k))

    module _ {rest : ℕ} (left : Left set_of_k 8 rest) (by : ReachedBy crossings walks k rest out) (some : 0 < rest) where
      pub phase-within : lowest rest < 8
      phase-within = next-within left some (omega arith)

      pub phase-left : Left set_of_k 8 (others rest)
      phase-left = left-more left some (omega arith)

      here : Reached crossings walks k (lowest rest) (get_or out (lowest rest) no_longest)
      here =
          let last = by (lowest rest) phase-within in
          rw (next-untaken left some (omega arith)) at last

      -- the lowest phase of the rest is taken
      pub phase-more :
          {a c : ℕ} →
          length out ≡ 8 →
          a ≡ max (get_or out (lowest rest) no_longest).walk ((get_or walks k no_walk_times).walk + (get_or walks k no_walk_times).first) →
          c ≡ max (get_or out (lowest rest) no_longest).clearance (get_or walks k no_walk_times).second →
          ReachedBy crossings walks k (others rest) (set out (lowest rest) (record { walk = a; clearance = c }))
      phase-more {a} {c} long walk clearance q l =
          let own : Longest = record { walk = a; clearance = c } in
          ⊎_elim
          (λ (e : q ≡ lowest rest).
          rw (e, next-taken left some (omega arith), get_or-set_same out (lowest rest) own no_longest (omega (arith, long, phase-within)), walk, clearance)
          (reached-more crossings walks k (lowest rest) (get_or out (lowest rest) no_longest) here (next-left left some (omega arith))))
          (λ (apart : q ≢ lowest rest).
          rw (taken-other left some (omega arith) q apart, get_or-set_other out (lowest rest) q own no_longest apart) (by q l))
          (same-or-apart q (lowest rest))
