-- A valid state, read clause by clause: each field is what one clause of the definition tells, and the fields together give it back.
use Rattle.std.specs.Prelude.{Option, Some, None}
use Prim.Native.Nat.{ℕ, ◌≤◌, ◌<◌}
use mathlib.Core.Bool.{Bool, true, false, not, ◌&&◌, ◌||◌, true≢false}
use mathlib.Core.List.{[], ◌∷◌}
use mathlib.Core.Path.{◌≡◌, sym, ◌∙◌}
use lib.Dec.{leb, ltb, eqb}
use borrow.Author.Tests.{ltb-true, leb-true, eqb-true, lt-ltb, le-leb, eq-eqb}
use Rattle.rules.specs.declared.site.Site.{Site}
use Rattle.rules.specs.declared.state.Movement.{Movement}
use Rattle.rules.specs.declared.state.Position.{Position}
use Rattle.rules.specs.declared.state.State.{State}
use Rattle.rules.specs.Site.{phase_times, crosses}
use Rattle.rules.specs.IntervalTable.{is_idle, is_walk_or_first, is_start_red, is_leaving, phase_held}
use Rattle.laws.specs.Bytes.{bit}
use Rattle.laws.specs.Folds.{all_of}
use Rattle.rules.specs.State.{highest_age, locked, asked, movement, interval_valid, target_valid, previous_valid, age_valid, position_valid, counts_valid, demands_valid, movement_valid, movements_valid, valid}
use Rattle.laws.proofs.Booleans.{and_left, and_right, and_both, joined-every, every-head, every-tail, implied, implies, otherwise, else-holds, not-both, excludes}
use Rattle.laws.proofs.Folds.{all-at, all-each}

abbrev pub Aged : ℕ → Type 0
Aged age = (1 ≤ age) × (age ≤ highest_age)

-- what the clauses tell of one movement record
pub record ValidMovement (site : Site) (position : Position) (k : ℕ) (m : Movement) : Type 0 where
  pub age : Aged m.age
  pub of_phase : is_idle m.stage ≡ false → (k < site.size.movements) × (crosses site.crossings k position.phase ≡ true)
  pub leaving : is_leaving position.interval ≡ true → is_walk_or_first m.stage ≡ false
  pub start_red : is_start_red position.interval ≡ true → is_idle m.stage ≡ true
  pub idle_age : is_idle m.stage ≡ true → m.age ≡ 1

pub record ValidState (site : Site) (s : State) : Type 0 where
  pub phase : s.position.phase < site.size.phases
  pub interval : interval_valid site.early s.position.interval ≡ true
  pub target : target_valid site.size.phases s.position.phase (is_leaving s.position.interval) s.position.target ≡ true
  pub previous : previous_valid site.size.phases s.position.previous ≡ true
  pub age : Aged s.position.age
  pub gap : s.counts.gap ≤ (phase_times site.times s.position.phase).gap
  pub maximum : s.counts.maximum ≤ (phase_times site.times s.position.phase).maximum
  pub locks : (p : ℕ) → p < 8 → locked s p ≡ true → p < site.size.phases
  pub buttons : (k : ℕ) → k < 8 → asked s k ≡ true → k < site.size.movements
  pub movements : (k : ℕ) → k < 8 → ValidMovement site s.position k (movement s k)

-- ── The definition and the facts ──

age-told : (age : ℕ) → age_valid age ≡ true → Aged age
unfolding age_valid
age-told age h = (leb-true 1 age (and_left (leb 1 age) (leb age highest_age) h), leb-true age highest_age (and_right (leb 1 age) (leb age highest_age) h))

age-holds : (age : ℕ) → Aged age → age_valid age ≡ true
unfolding age_valid
age-holds age h = and_both (le-leb 1 age h.0) (le-leb age highest_age h.1)

movement-told :
    (site : Site) (position : Position) (k : ℕ) (m : Movement) → movement_valid (ltb k site.size.movements && crosses site.crossings k position.phase) position.interval m ≡ true → ValidMovement site position k m
unfolding movement_valid
movement-told site position k m h =
    let of_phase = ltb k site.size.movements && crosses site.crossings k position.phase in
    let tests =
    (of_phase || is_idle m.stage)
    ∷ not (is_leaving position.interval && is_walk_or_first m.stage)
    ∷ (not (is_start_red position.interval) || is_idle m.stage)
    ∷ (not (is_idle m.stage) || eqb m.age 1)
    ∷ [] in
    let h0 = sym (joined-every (age_valid m.age) tests) ∙ h in
    let h1 = every-tail _ _ h0 in
    let h2 = every-tail _ _ h1 in
    let h3 = every-tail _ _ h2 in
    let h4 = every-tail _ _ h3 in
    record {
      age = age-told m.age (every-head _ _ h0);
      of_phase = λ q.
          let both = otherwise of_phase (is_idle m.stage) (every-head _ _ h1) q in (
            ltb-true k site.size.movements (and_left (ltb k site.size.movements) (crosses site.crossings k position.phase) both),
            and_right (ltb k site.size.movements) (crosses site.crossings k position.phase) both,
          );
      leaving = not-both (is_leaving position.interval) (is_walk_or_first m.stage) (every-head _ _ h2);
      start_red = implied (is_start_red position.interval) (is_idle m.stage) (every-head _ _ h3);
      idle_age = λ q. eqb-true m.age 1 (implied (is_idle m.stage) (eqb m.age 1) (every-head _ _ h4) q);
    }

movement-holds :
    (site : Site) (position : Position) (k : ℕ) (m : Movement) → ValidMovement site position k m → movement_valid (ltb k site.size.movements && crosses site.crossings k position.phase) position.interval m ≡ true
unfolding movement_valid
movement-holds site position k m v =
    and_both
    (and_both
    (and_both
    (and_both (age-holds m.age v.age)
    (else-holds (ltb k site.size.movements && crosses site.crossings k position.phase) (is_idle m.stage)
    (λ q. and_both (lt-ltb k site.size.movements (v.of_phase q).0) (v.of_phase q).1)))
    (excludes (is_leaving position.interval) (is_walk_or_first m.stage) v.leaving))
    (implies (is_start_red position.interval) (is_idle m.stage) v.start_red))
    (implies (is_idle m.stage) (eqb m.age 1) (λ q. eq-eqb m.age 1 (v.idle_age q)))

pub state-told : (site : Site) (s : State) → valid site s ≡ true → ValidState site s
unfolding valid position_valid counts_valid movements_valid demands_valid locked asked movement
state-told site s h =
    let times = phase_times site.times s.position.phase in
    let gap = leb s.counts.gap times.gap in
    let maximum = leb s.counts.maximum times.maximum in
    let position = s.position in
    let placed = position_valid site.early site.size.phases position in
    let counted = counts_valid times s.counts in
    let demands = demands_valid site.size.phases site.size.movements s.demands in
    let movements = movements_valid site.size.movements site.crossings position s.movements in
    let h0 = sym (joined-every placed (counted ∷ demands ∷ movements ∷ [])) ∙ h in
    let h1 = every-tail _ _ h0 in
    let h2 = every-tail _ _ h1 in
    let h3 = every-tail _ _ h2 in
    let tests =
    interval_valid site.early position.interval
    ∷ target_valid site.size.phases position.phase (is_leaving position.interval) position.target
    ∷ previous_valid site.size.phases position.previous
    ∷ age_valid position.age
    ∷ [] in
    let p0 = sym (joined-every (ltb position.phase site.size.phases) tests) ∙ every-head _ _ h0 in
    let p1 = every-tail _ _ p0 in
    let p2 = every-tail _ _ p1 in
    let p3 = every-tail _ _ p2 in
    let p4 = every-tail _ _ p3 in
    let locks : ℕ → Bool = λ p. not (bit p s.demands.locks) || ltb p site.size.phases in
    let buttons : ℕ → Bool = λ k. not (bit k s.demands.buttons) || ltb k site.size.movements in
    record {
      phase = ltb-true _ _ (every-head _ _ p0);
      interval = every-head _ _ p1;
      target = every-head _ _ p2;
      previous = every-head _ _ p3;
      age = age-told position.age (every-head _ _ p4);
      gap = leb-true _ _ (and_left gap maximum (every-head _ _ h1));
      maximum = leb-true _ _ (and_right gap maximum (every-head _ _ h1));
      locks = λ p l q.
          ltb-true p site.size.phases
          (implied (locked s p) (ltb p site.size.phases)
          (all-at locks 8 p (and_left (all_of locks 8) (all_of buttons 8) (every-head _ _ h2)) l)
          q);
      buttons = λ k l q.
          ltb-true k site.size.movements
          (implied (asked s k) (ltb k site.size.movements)
          (all-at buttons 8 k (and_right (all_of locks 8) (all_of buttons 8) (every-head _ _ h2)) l)
          q);
      movements = λ k l.
          movement-told site s.position k (movement s k)
          (all-at
          (λ (k : ℕ).
          movement_valid (ltb k site.size.movements && crosses site.crossings k s.position.phase) s.position.interval (movement s k))
          8 k (every-head _ _ h3) l);
    }

pub state-holds : (site : Site) (s : State) → ValidState site s → valid site s ≡ true
unfolding valid position_valid counts_valid movements_valid demands_valid locked asked movement
state-holds site s v =
    and_both
    (and_both
    (and_both
    (and_both
    (and_both (and_both (and_both (lt-ltb s.position.phase site.size.phases v.phase) v.interval) v.target) v.previous)
    (age-holds s.position.age v.age))
    (and_both (le-leb s.counts.gap (phase_times site.times s.position.phase).gap v.gap)
    (le-leb s.counts.maximum (phase_times site.times s.position.phase).maximum v.maximum)))
    (and_both
    (all-each (λ p. not (bit p s.demands.locks) || ltb p site.size.phases) 8
    (λ p l. implies (locked s p) (ltb p site.size.phases) (λ q. lt-ltb p site.size.phases (v.locks p l q))))
    (all-each (λ k. not (bit k s.demands.buttons) || ltb k site.size.movements) 8
    (λ k l. implies (asked s k) (ltb k site.size.movements) (λ q. lt-ltb k site.size.movements (v.buttons k l q))))))
    (all-each
    (λ (k : ℕ).
    movement_valid (ltb k site.size.movements && crosses site.crossings k s.position.phase) s.position.interval (movement s k))
    8 (λ k l. movement-holds site s.position k (movement s k) (v.movements k l)))

-- ── The target ──

-- the target of a phase that is being left exists
pub target_below : (count phase : ℕ) (target : Option ℕ) → target_valid count phase true target ≡ true → phase_held target < count
unfolding target_valid phase_held
target_below count phase None h = absurd (true≢false (sym h))
target_below count phase (Some t) h = ltb-true t count (and_left (ltb t count) (not (eqb t phase)) h)

pub leaving-target :
    (site : Site) (s : State) → ValidState site s → is_leaving s.position.interval ≡ true → phase_held s.position.target < site.size.phases
leaving-target site s v h = target_below site.size.phases s.position.phase s.position.target (rw h at v.target)
