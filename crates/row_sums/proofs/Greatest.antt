-- The greatest value of two signed amounts that don't both count is that of each.
use Rattle.std.proofs.Common.{◌≡◌, ℕ, zero, suc, ◌<◌, ◌+◌, Bool, true, false, ◌&&◌, Option, Some, None, ℤ, pos, ◌+ℤ◌, ◌-ℤ◌, arith, refl, sym, ◌∙◌, ap}
use Rattle.std.proofs.lemmas.Int.{int_max_is}
use Rattle.std.proofs.lemmas.Bool.{both_ways}
use borrow.Author.Differences.{ints}
use Rattle.proof_trees.specs.Program.{sum_to, where_set}
use Rattle.proof_trees.specs.Boxes.{greatest}
use Rattle.row_sums.specs.declared.sums.Sign.{Sign}
use Rattle.row_sums.specs.declared.sums.Sign.TheVariants.{Plus, Minus}
use Rattle.row_sums.specs.Sums.{signed}
use Rattle.row_sums.specs.Values.{is_one, may_be_one}

-- what a signed amount is at most, by what its variable is fixed to
abbrev pub most_at : Option Bool → Sign → ℤ → ℤ
most_at o Plus z = where_set (may_be_one o) z
most_at o Minus z = pos 0 -ℤ where_set (is_one o) z

none_at : (o : Option Bool) (s : Sign) → most_at o s (pos 0) ≡ pos 0
none_at None Plus = refl
none_at None Minus = refl
none_at (Some true) Plus = refl
none_at (Some true) Minus = refl
none_at (Some false) Plus = refl
none_at (Some false) Minus = refl

no_sign : (s : Sign) → signed s (pos 0) ≡ pos 0
no_sign Plus = refl
no_sign Minus = refl

none_most : (o : Option Bool) → greatest o (pos 0) ≡ pos 0
none_most None = refl
none_most (Some true) = refl
none_most (Some false) = refl

one_at : (o : Option Bool) (s : Sign) (k : ℕ) → greatest o (signed s (pos k)) ≡ most_at o s (pos k)
one_at None Plus k = omega (arith, ints, int_max_is (pos 0) (pos k))
one_at None Minus k = omega (arith, ints, int_max_is (pos 0) (pos 0 -ℤ pos k))
one_at (Some true) Plus k = refl
one_at (Some true) Minus k = refl
one_at (Some false) Plus k = refl
one_at (Some false) Minus k = refl

left : (z : ℤ) → z +ℤ pos 0 ≡ z
left z = omega (arith, ints)

right : (z : ℤ) → pos 0 +ℤ z ≡ z
right z = omega (arith, ints)

pub two_at : (o : Option Bool) (s t : Sign) (a b : Bool) (k l : ℕ) → (a && b) ≡ false
    → greatest o (signed s (where_set a (pos k)) +ℤ signed t (where_set b (pos l))) ≡ most_at o s (where_set a (pos k)) +ℤ most_at o t (where_set b (pos l))
two_at o s t true true k l h = absurd (both_ways true h refl)
two_at o s t true false k l h =
    ap (λ (z : ℤ). greatest o (signed s (pos k) +ℤ z)) (no_sign t) ∙ ap (greatest o) (left (signed s (pos k))) ∙ one_at o s k ∙ sym (left (most_at o s (pos k))) ∙ ap (λ (z : ℤ). most_at o s (pos k) +ℤ z) (sym (none_at o t))
two_at o s t false true k l h =
    ap (λ (z : ℤ). greatest o (z +ℤ signed t (pos l))) (no_sign s) ∙ ap (greatest o) (right (signed t (pos l))) ∙ one_at o t l ∙ sym (right (most_at o t (pos l))) ∙ ap (λ (z : ℤ). z +ℤ most_at o t (pos l)) (sym (none_at o s))
two_at o s t false false k l h =
    ap (λ (z : ℤ). greatest o (z +ℤ signed t (pos 0))) (no_sign s) ∙ ap (λ (z : ℤ). greatest o (pos 0 +ℤ z)) (no_sign t) ∙ none_most o ∙ ap (λ (z : ℤ). pos 0 +ℤ z) (sym (none_at o t)) ∙ ap (λ (z : ℤ). z +ℤ most_at o t (pos 0)) (sym (none_at o s))

pub alone_at : (o : Option Bool) (s : Sign) (a : Bool) (k : ℕ) → greatest o (signed s (where_set a (pos k)) +ℤ pos 0) ≡ most_at o s (where_set a (pos k)) +ℤ pos 0
alone_at o s true k = ap (greatest o) (left (signed s (pos k))) ∙ one_at o s k ∙ sym (left (most_at o s (pos k)))
alone_at o s false k = ap (greatest o) (left (signed s (pos 0))) ∙ ap (greatest o) (no_sign s) ∙ none_most o ∙ sym (none_at o s) ∙ sym (left (most_at o s (pos 0)))

pub sum_same : (n : ℕ) (f g : ℕ → ℤ) → ((v : ℕ) → v < n → f v ≡ g v) → sum_to n f ≡ sum_to n g
sum_same zero f g h = refl
sum_same (suc n) f g h = omega (arith, ints, sum_same n f g (λ v p. h v (omega arith)), h n (omega arith))

pub sum_both : (n : ℕ) (f g : ℕ → ℤ) → sum_to n (λ v. f v +ℤ g v) ≡ sum_to n f +ℤ sum_to n g
sum_both zero f g = refl
sum_both (suc n) f g = omega (arith, ints, sum_both n f g)

pub sum_less : (n : ℕ) (f : ℕ → ℤ) → sum_to n (λ v. pos 0 -ℤ f v) ≡ pos 0 -ℤ sum_to n f
sum_less zero f = refl
sum_less (suc n) f = omega (arith, ints, sum_less n f)

pub sum_none : (n : ℕ) → sum_to n (λ v. pos 0) ≡ pos 0
sum_none zero = refl
sum_none (suc n) = omega (arith, ints, sum_none n)
