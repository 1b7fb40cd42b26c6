-- What a row forces, by its slack.
use Rattle.std.proofs.Common.{◌≡◌, ℕ, zero, suc, ◌<◌, Bool, true, false, not, cond, Option, Some, None, length, ℤ, pos, negsuc, ◌-ℤ◌, ◌≤ℤ◌, arith, refl, sym, ◌∙◌, ap}
use Rattle.std.specs.Prelude.{int_lt}
use borrow.Author.Differences.{ints}
use Rattle.std.proofs.lemmas.List.FromFn.{fill_by_all}
use Rattle.proof_trees.specs.Program.{Program}
use Rattle.proof_trees.specs.Boxes.{Box, at, fixed, forced, forced_to, violated, tight, tight_at, most}
use Rattle.partial_plan.specs.Forced.{forces, is_above}
use Rattle.row_matrix.specs.Terms.{loss}
use Rattle.row_matrix.proofs.GreatestValues.{most_less}

pub lt_same : (a b c d : ℤ) → a -ℤ b ≡ c -ℤ d → int_lt a b ≡ int_lt c d
lt_same a b c d e = grind (arith, ints)

pub forced_is : {R : Type 0} (p : Program R) (b : Box) (r : R) (v : ℕ) (y : Bool) (s : ℤ) → v < length b → v < p.vars → at b v ≡ None → s ≡ most p b r -ℤ p.rhs r → forced p b r v y ≡ int_lt s (loss (not y) (p.coef r v))
forced_is p b r v y s lt lt' free e = lt_same (most p (fixed b v (not y)) r) (p.rhs r) s (loss (not y) (p.coef r v)) (omega (arith, ints, most_less p b r v (not y) lt lt' free))

-- the value that a variable gets
abbrev pub landed : ℤ → Option Bool → ℤ → Option Bool
landed s o a = cond (forces s o a) (Some (is_above a)) o

pub not_below : (s : ℤ) → pos 0 ≤ℤ s → int_lt s (pos 0) ≡ false
not_below s h = grind (arith, ints)

lost_up : (n : ℕ) → loss true (pos n) ≡ pos 0
lost_up n = grind (arith, ints)

kept_up : (n : ℕ) → loss false (pos n) ≡ pos n
kept_up n = grind (arith, ints)

lost_down : (n : ℕ) → loss true (negsuc n) ≡ pos (suc n)
lost_down n = grind (arith, ints)

kept_down : (n : ℕ) → loss false (negsuc n) ≡ pos 0
kept_down n = grind (arith, ints)

above_up : (n : ℕ) → is_above (pos (suc n)) ≡ true
above_up n = grind (arith, ints)

same_cond : (c : Bool) → cond c (Some true) (cond false (Some false) None) ≡ cond c (Some true) None
same_cond true = refl
same_cond false = refl

by_landed : (s : ℤ) (a : ℤ) → pos 0 ≤ℤ s → forced_to None (int_lt s (loss false a)) (int_lt s (loss true a)) ≡ landed s None a
by_landed s (pos zero) h = rw (not_below s h) refl
by_landed s (pos (suc n)) h = rw (lost_up (suc n), kept_up (suc n), not_below s h) (same_cond (int_lt s (pos (suc n))) ∙ ap (λ y. cond (int_lt s (pos (suc n))) (Some y) None) (sym (above_up n)))
by_landed s (negsuc n) h = rw (lost_down n, kept_down n, not_below s h) refl

by_option : {R : Type 0} (p : Program R) (b : Box) (r : R) (v : ℕ) (s : ℤ) → v < length b → v < p.vars → s ≡ most p b r -ℤ p.rhs r → pos 0 ≤ℤ s → (o : Option Bool) → at b v ≡ o
    → forced_to o (forced p b r v true) (forced p b r v false) ≡ landed s o (p.coef r v)
by_option p b r v s lt lt' e h (Some y) is = refl
by_option p b r v s lt lt' e h None is = rw (forced_is p b r v true s lt lt' is e, forced_is p b r v false s lt lt' is e) (by_landed s (p.coef r v) h)

pub tight_landed : {R : Type 0} (p : Program R) (b : Box) (r : R) (v : ℕ) (s : ℤ) → v < length b → v < p.vars → s ≡ most p b r -ℤ p.rhs r → pos 0 ≤ℤ s → tight_at p b r v ≡ landed s (at b v) (p.coef r v)
tight_landed p b r v s lt lt' e h = by_option p b r v s lt lt' e h (at b v) refl

pub met_is : {R : Type 0} (p : Program R) (b : Box) (r : R) (s : ℤ) → s ≡ most p b r -ℤ p.rhs r → pos 0 ≤ℤ s → violated p b r ≡ false
met_is p b r s e h = grind (arith, ints)

pub broken_is : {R : Type 0} (p : Program R) (b : Box) (r : R) (s : ℤ) → s ≡ most p b r -ℤ p.rhs r → int_lt s (pos 0) ≡ violated p b r
broken_is p b r s e = sym (lt_same (most p b r) (p.rhs r) s (pos 0) (omega (arith, ints)))

pub tight_by : {R : Type 0} (p : Program R) (old now : Box) (r : R) (s : ℤ) → length old ≡ p.vars → length now ≡ p.vars → s ≡ most p old r -ℤ p.rhs r → pos 0 ≤ℤ s → ((k : ℕ) → k < p.vars → at now k ≡ landed s (at old k) (p.coef r k)) → now ≡ tight p old r
tight_by p old now r s len len' e h each = rw (met_is p old r s e h) (fill_by_all (λ (v : ℕ). tight_at p old r v) now p.vars None len' (λ k lt. each k lt ∙ sym (tight_landed p old r k s (omega arith) lt e h)))

pub tight_violated : {R : Type 0} (p : Program R) (old : Box) (r : R) (s : ℤ) → s ≡ most p old r -ℤ p.rhs r → int_lt s (pos 0) ≡ true → old ≡ tight p old r
tight_violated p old r s e h = let k : violated p old r ≡ true = sym (broken_is p old r s e) ∙ h in rw k refl
