-- What fixing one free variable changes in a sum over a box.
use Rattle.std.proofs.Common.{◌≡◌, ℕ, zero, suc, ◌<◌, ◌+◌, Bool, true, false, Option, Some, None, length, ℤ, pos, ◌+ℤ◌, ◌-ℤ◌, arith, refl, sym, ◌∙◌, ap, subst, ⊎_elim, get_or-set_same, get_or-set_other, ◌⊎◌}
use Rattle.std.proofs.lemmas.Bool.{cases_eq}
use borrow.Author.Differences.{ints}
use Rattle.proof_trees.specs.Program.{sum_to, where_set}
use Rattle.proof_trees.specs.Boxes.{Box, at, fixed}
use Rattle.row_sums.specs.Values.{is_one, may_be_one}
use Rattle.row_sums.specs.Laws.{FixedToZero, FixedToOne}
use Rattle.row_sums.proofs.Greatest.{sum_same}
use Rattle.zero_one_rows.specs.Variables.{variables, var}
use Rattle.row_sums.specs.Sums.{in_sum}

-- two sums that differ in one term
sum_but : (n v : ℕ) (f g : ℕ → ℤ) → v < n → ((w : ℕ) → (w ≡ v → ⊥) → f w ≡ g w) → sum_to n f +ℤ g v ≡ sum_to n g +ℤ f v
sum_but zero v f g l h = absurd (omega arith)
sum_but (suc n) v f g l h = ⊎_elim
    (λ (e : v ≡ n). let s : sum_to n f ≡ sum_to n g = sum_same n f g (λ w k. h w (λ q. omega arith)) in subst (λ (u : ℕ). (sum_to n f +ℤ f n) +ℤ g u ≡ (sum_to n g +ℤ g n) +ℤ f u) (sym e) (omega (arith, ints, s)))
    (λ (d : v ≡ n → ⊥). let r = sum_but n v f g (below n v l d) h in let k = h n (λ q. d (sym q)) in omega (arith, ints, r, k))
    (cases_eq v n)
  where
    below : (n v : ℕ) → v < suc n → (v ≡ n → ⊥) → v < n
    below n v l d = grind (arith, l, d)

at_other : (b : Box) (v w : ℕ) (y : Bool) → (w ≡ v → ⊥) → at (fixed b v y) w ≡ at b w
at_other b v w y d = get_or-set_other b v w (Some y) None d

at_same : (b : Box) (v : ℕ) (y : Bool) → v < length b → at (fixed b v y) v ≡ Some y
at_same b v y l = get_or-set_same b v (Some y) None l

-- a term that the fix leaves as it was
kept : (test : Option Bool → Bool) (n : ℕ) (b : Box) (v : ℕ) (y : Bool) (f : ℕ → ℤ) → v < n → v < length b → test (Some y) ≡ test (at b v)
    → sum_to n (λ w. where_set (test (at (fixed b v y) w)) (f w)) ≡ sum_to n (λ w. where_set (test (at b w)) (f w))
kept test n b v y f l k e =
    let r = sum_but n v (λ w. where_set (test (at (fixed b v y) w)) (f w)) (λ w. where_set (test (at b w)) (f w)) l (λ w d. ap (λ (o : Option Bool). where_set (test o) (f w)) (at_other b v w y d)) in
    let s : where_set (test (at (fixed b v y) v)) (f v) ≡ where_set (test (at b v)) (f v) = ap (λ (o : Option Bool). where_set (test o) (f v)) (at_same b v y k) ∙ ap (λ (t : Bool). where_set t (f v)) e in
    omega (arith, ints, r, s)

-- a term that comes in
gained : (test : Option Bool → Bool) (n : ℕ) (b : Box) (v : ℕ) (y : Bool) (f : ℕ → ℤ) → v < n → v < length b → test (Some y) ≡ true → test (at b v) ≡ false
    → sum_to n (λ w. where_set (test (at (fixed b v y) w)) (f w)) ≡ sum_to n (λ w. where_set (test (at b w)) (f w)) +ℤ f v
gained test n b v y f l k e d =
    let r = sum_but n v (λ w. where_set (test (at (fixed b v y) w)) (f w)) (λ w. where_set (test (at b w)) (f w)) l (λ w d. ap (λ (o : Option Bool). where_set (test o) (f w)) (at_other b v w y d)) in
    let s : where_set (test (at (fixed b v y) v)) (f v) ≡ f v = ap (λ (o : Option Bool). where_set (test o) (f v)) (at_same b v y k) ∙ ap (λ (t : Bool). where_set t (f v)) e in
    let t : where_set (test (at b v)) (f v) ≡ pos 0 = ap (λ (t : Bool). where_set t (f v)) d in
    omega (arith, ints, r, s, t)

-- a term that goes
lost : (test : Option Bool → Bool) (n : ℕ) (b : Box) (v : ℕ) (y : Bool) (f : ℕ → ℤ) → v < n → v < length b → test (Some y) ≡ false → test (at b v) ≡ true
    → sum_to n (λ w. where_set (test (at (fixed b v y) w)) (f w)) ≡ sum_to n (λ w. where_set (test (at b w)) (f w)) -ℤ f v
lost test n b v y f l k e d =
    let r = sum_but n v (λ w. where_set (test (at (fixed b v y) w)) (f w)) (λ w. where_set (test (at b w)) (f w)) l (λ w d. ap (λ (o : Option Bool). where_set (test o) (f w)) (at_other b v w y d)) in
    let s : where_set (test (at (fixed b v y) v)) (f v) ≡ pos 0 = ap (λ (o : Option Bool). where_set (test o) (f v)) (at_same b v y k) ∙ ap (λ (t : Bool). where_set t (f v)) e in
    let t : where_set (test (at b v)) (f v) ≡ f v = ap (λ (t : Bool). where_set t (f v)) d in
    omega (arith, ints, r, s, t)

pub fixed_to_zero : FixedToZero
fixed_to_zero m b a v l k free = (
  kept is_one (length (variables m)) b v false (λ w. in_sum m a (var m w)) l k (sym (ap is_one free)),
  lost may_be_one (length (variables m)) b v false (λ w. in_sum m a (var m w)) l k refl (ap may_be_one free),
)

pub fixed_to_one : FixedToOne
fixed_to_one m b a v l k free = (
  kept may_be_one (length (variables m)) b v true (λ w. in_sum m a (var m w)) l k (sym (ap may_be_one free)),
  gained is_one (length (variables m)) b v true (λ w. in_sum m a (var m w)) l k refl (ap is_one free),
)
