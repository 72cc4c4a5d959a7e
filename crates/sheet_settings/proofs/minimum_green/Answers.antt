-- The first number of vehicles of which one more does not stand in the metres is the largest that stand in them.
use Rattle.std.proofs.Common.{ℕ, ◌≡◌, ◌+◌, ◌*◌, ◌≤◌, ap, sym, ◌∙◌, subst, arith, rules, true, false, not}
use Rattle.std.proofs.lemmas.Iterator.{first_from_Range}
use Rattle.sheet_settings.specs.Extremes.{Largest}
use Rattle.sheet_settings.specs.Sheet.{stand, minimum_green}
use Rattle.sheet_settings.proofs.Extremes.{largest-only, first-smallest}
use Rattle.sheet_settings.proofs.Metres.{as-fraction}
use Rattle.sheet_settings.proofs.Stated.{stand-tested, stands-most, stands-none-above, stands-until, vehicles-largest}
use Rattle.sheet_settings.proofs.minimum_green.Goals as goal

found : (c : goal.After-unwrap_or-n) → Largest (stand c.args.metres) c.unwrap_or-n.result
found c =
    let x = c.args.metres in
    let fine = c.requires in
    subst (λ (n : ℕ). Largest (stand x) n) (sym c.unwrap_or-n.ensures)
    (stands-until (as-fraction x fine) _
    (first-smallest (λ n. not (stand x (n + 1))) 50 c.find.result (stands-none-above (as-fraction x fine))
    (first_from_Range _ _ _ _ (λ n. n ≤ 50 → not (stand x (n + 1)) ≡ true) (λ n. n ≤ 50 → not (stand x (n + 1)) ≡ false) c.find.ensures.ran
    (λ n q k l. sym (ap not (stand-tested x (n + 1) (omega arith))) ∙ search rules)
    (λ n q k. (search rules, λ l. sym (ap not (stand-tested x (n + 1) (omega arith))) ∙ search rules)))))

most : (c : goal.After-unwrap_or-n) → c.unwrap_or-n.result ≤ 50
most c = stands-most (as-fraction c.args.metres c.requires) c.unwrap_or-n.result (found c).passed

pub overflow_mul-result : goal.overflow_mul-result
overflow_mul-result c = omega (arith, most c)

pub overflow_add-result : goal.overflow_add-result
overflow_add-result c = omega (arith, most c)

pub returns : goal.returns
unfolding minimum_green
returns c =
    let x = c.args.metres in
    ap (λ (n : ℕ). 40 + 20 * n) (largest-only (stand x) (found c) (vehicles-largest (as-fraction x c.requires)))
