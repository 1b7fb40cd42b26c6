use Rattle.std.proofs.Common.{rules, ◌≡◌, ◌<◌, ◌≤◌, ◌+◌, ℕ, Bool, true, false, Some, None, length, arith, sym, ap, ◌∙◌}
use Rattle.std.proofs.lemmas.Iterator.{first_from_Range}
use Rattle.plan_files.specs.PlanOf.{first_missing, is_missing}
use Rattle.plan_files.proofs.Steps.{found_in, none_in}
use Rattle.plan_files.proofs.missing.first_missing.Goals as goal

pub returns-in_err-first-clause-is : goal.returns-in_err-first-clause-is
unfolding first_missing
returns-in_err-first-clause-is c =
    let t : ℕ → Bool = is_missing c.args.cargo.now c.args.call c.args.placed.now in
    let none : (k : ℕ) → 0 ≤ k → k < c.len.result → t k ≡ false = first_from_Range _ _ _ None (λ n. t n ≡ true) (λ n. t n ≡ false) c.in_err-first.ensures.ran (λ x q k. search rules) (λ x q k. search rules) in
    c.from_residual.ensures ∙ sym (none_in t 0 (length c.args.cargo.now.containers) (λ j l. let e : 0 + j ≡ j = omega arith in ap t e ∙ none j (omega arith) (omega (arith, l, c.len.ensures))))

pub returns-clause-is : goal.returns-clause-is
unfolding first_missing
returns-clause-is c =
    let t : ℕ → Bool = is_missing c.args.cargo.now c.args.call c.args.placed.now in
    let n : ℕ = c.in_ok-first.first in
    let found : (0 ≤ n) × (n < c.len.result) × (t n ≡ true) × ((k : ℕ) → 0 ≤ k → k < n → t k ≡ false)
    = first_from_Range _ _ _ (Some n) (λ m. t m ≡ true) (λ m. t m ≡ false) c.in_ok-first.ensures.ran (λ x q k. search rules) (λ x q k. search rules) in
    let z : 0 + n ≡ n = omega arith in
    sym (found_in t 0 (length c.args.cargo.now.containers) n (omega (arith, found.1, c.len.ensures)) (λ j l. let e : 0 + j ≡ j = omega arith in ap t e ∙ found.3 j (omega arith) l) (ap t z ∙ found.2) ∙ ap (λ (m : ℕ). Some m) z)
