-- Variables of a row, looked at one after the other.
use Rattle.std.proofs.Common.{◌≡◌, ◌≢◌, ℕ, ◌+◌, ◌<◌, ◌⊎◌, inl, inr, Bool, true, false, cond, List, Option, Some, None, length, take, get_or, ℤ, pos, ◌≤ℤ◌, arith, refl, sym, ◌∙◌, ap}
use Rattle.std.specs.Prelude.{nat_eq, nat_lt, int_lt}
use Rattle.std.specs.List.{list_any}
use Rattle.std.specs.Int.RustNames.{unsigned_abs}
use borrow.Author.Differences.{ints}
use Rattle.std.proofs.lemmas.Bool.Decides.{nat_tests}
use Rattle.std.proofs.lemmas.List.{get_or-set_same, get_or-set_other, length-set}
use Rattle.proof_trees.specs.Boxes.{Box, at, fixed}
use Rattle.partial_plan.specs.Forced.{forces, is_above, stepped}
use Rattle.row_matrix.proofs.Summing.{same_or_other, any_here, any_there}
use Rattle.partial_plan.proofs.Landing.{landed}

none_forced : (s : ℤ) (o : Option Bool) → pos 0 ≤ℤ s → forces s o (pos 0) ≡ false
none_forced s None h = grind (arith, ints)
none_forced s (Some y) h = refl

pub stays : (s : ℤ) (o : Option Bool) (a : ℤ) → pos 0 ≤ℤ s → a ≡ pos 0 → landed s o a ≡ o
stays s o a h e = ap (landed s o) e ∙ ap (λ c. cond c (Some (is_above (pos 0))) o) (none_forced s o h)

twice_cond : (c y : Bool) (s a : ℤ) → c ≡ int_lt s (pos (unsigned_abs a)) → landed s (cond c (Some (is_above a)) None) a ≡ cond c (Some (is_above a)) None
twice_cond true y s a e = refl
twice_cond false y s a e = ap (λ (c : Bool). cond c (Some (is_above a)) None) (sym e)

landed_twice : (s a : ℤ) (o : Option Bool) → landed s (landed s o a) a ≡ landed s o a
landed_twice s a (Some y) = refl
landed_twice s a None = twice_cond (int_lt s (pos (unsigned_abs a))) true s a refl

step_at : (s : ℤ) (b : Box) (x : ℕ) (a : ℤ) (c : Bool) → x < length b → at (cond c (fixed b x (is_above a)) b) x ≡ cond c (Some (is_above a)) (at b x)
step_at s b x a true lt = get_or-set_same b x (Some (is_above a)) None lt
step_at s b x a false lt = refl

step_other : (b : Box) (x : ℕ) (a : ℤ) (c : Bool) (v : ℕ) → v ≢ x → at (cond c (fixed b x (is_above a)) b) v ≡ at b v
step_other b x a true v other = get_or-set_other b x v (Some (is_above a)) None other
step_other b x a false v other = refl

pub step_length : (s : ℤ) (b : Box) (x : ℕ) (a : ℤ) → length (stepped s b x a) ≡ length b
step_length s b x a = by (forces s (at b x) a)
  where
    by : (c : Bool) → length (cond c (fixed b x (is_above a)) b) ≡ length b
    by true = length-set b x (Some (is_above a))
    by false = refl

-- a box in which the variables of this kind got what they are forced to
abbrev pub Partly : (ℕ → Bool) → ℤ → (ℕ → ℤ) → ℕ → Box → Box → Type 0
Partly done s f n old now = (v : ℕ) → v < n → at now v ≡ cond (done v) (landed s (at old v) (f v)) (at old v)

landed_again : (s a : ℤ) (o o' : Option Bool) (d : Bool) → o' ≡ cond d (landed s o a) o → landed s o' a ≡ landed s o a
landed_again s a o o' true e = ap (λ (p : Option Bool). landed s p a) e ∙ landed_twice s a o
landed_again s a o o' false e = ap (λ (p : Option Bool). landed s p a) e

module _ (done more : ℕ → Bool) (s : ℤ) (f : ℕ → ℤ) (n : ℕ) (old : Box) (x : ℕ) (here : more x ≡ true) (others : (v : ℕ) → v ≢ x → more v ≡ done v) where
  step_by : (now : Box) (v : ℕ) → x < length now → v < n → Partly done s f n old now → (v ≡ x) ⊎ (v ≢ x) → at (stepped s now x (f x)) v ≡ cond (more v) (landed s (at old v) (f v)) (at old v)
  step_by now v lt v_lt partly (inl same) =
      let m : more v ≡ true = ap more same ∙ here in
      ap (at (stepped s now x (f x))) same ∙ step_at s now x (f x) (forces s (at now x) (f x)) lt ∙ sym (ap (λ (w : ℕ). landed s (at now w) (f w)) same) ∙ landed_again s (f v) (at old v) (at now v) (done v) (partly v v_lt) ∙ sym (ap (λ (c : Bool). cond c (landed s (at old v) (f v)) (at old v)) m)
  step_by now v lt v_lt partly (inr other) =
      step_other now x (f x) (forces s (at now x) (f x)) v other ∙ partly v v_lt ∙ sym (ap (λ (c : Bool). cond c (landed s (at old v) (f v)) (at old v)) (others v other))

  partly_more : (now next : Box) → length now ≡ n → x < n → next ≡ stepped s now x (f x) → Partly done s f n old now → Partly more s f n old next
  partly_more now next len lt is partly v v_lt = ap (λ (b : Box). at b v) is ∙ step_by now v (omega arith) v_lt partly (same_or_other v x)

-- all variables in order
below_here : (v : ℕ) → nat_lt v (v + 1) ≡ true
below_here v = grind (arith, nat_tests)

below_other : (v i : ℕ) → v ≢ i → nat_lt v (i + 1) ≡ nat_lt v i
below_other v i other = grind (arith, nat_tests)

none_below : (v : ℕ) → nat_lt v 0 ≡ false
none_below v = grind (arith, nat_tests)

all_below : (v n : ℕ) → v < n → nat_lt v n ≡ true
all_below v n lt = grind (arith, nat_tests)

module _ (s : ℤ) (f : ℕ → ℤ) (n : ℕ) (old : Box) where
  pub in_order_none : Partly (λ v. nat_lt v 0) s f n old old
  in_order_none v lt = sym (ap (λ (c : Bool). cond c (landed s (at old v) (f v)) (at old v)) (none_below v))

  pub in_order_more : (i : ℕ) (now next : Box) → length now ≡ n → i < n → next ≡ stepped s now i (f i) → Partly (λ v. nat_lt v i) s f n old now → Partly (λ v. nat_lt v (i + 1)) s f n old next
  in_order_more i now next len lt is partly = partly_more (λ v. nat_lt v i) (λ v. nat_lt v (i + 1)) s f n old i (below_here i) (λ v other. below_other v i other) now next len lt is partly

  pub in_order_all : (now : Box) → Partly (λ v. nat_lt v n) s f n old now → (v : ℕ) → v < n → at now v ≡ landed s (at old v) (f v)
  in_order_all now partly v lt = partly v lt ∙ ap (λ (c : Bool). cond c (landed s (at old v) (f v)) (at old v)) (all_below v n lt)

  -- some variables in the order of a list
  pub listed_none : (xs : List ℕ) → Partly (λ v. list_any (nat_eq v) (take 0 xs)) s f n old old
  listed_none xs v lt = refl

  pub listed_more : (xs : List ℕ) (i x : ℕ) (now next : Box) → i < length xs → x ≡ get_or xs i 0 → length now ≡ n → x < n → next ≡ stepped s now x (f x) → Partly (λ v. list_any (nat_eq v) (take i xs)) s f n old now → Partly (λ v. list_any (nat_eq v) (take (i + 1) xs)) s f n old next
  listed_more xs i x now next lt here len x_lt is partly =
      partly_more (λ v. list_any (nat_eq v) (take i xs)) (λ v. list_any (nat_eq v) (take (i + 1) xs)) s f n old x (any_here xs i x lt here) (λ v other. any_there xs i v lt (λ e. other (e ∙ sym here))) now next len x_lt is partly

  pub listed_all : (xs : List ℕ) (now : Box) → pos 0 ≤ℤ s → ((v : ℕ) → v < n → list_any (nat_eq v) xs ≡ false → f v ≡ pos 0) → Partly (λ v. list_any (nat_eq v) xs) s f n old now → (v : ℕ) → v < n → at now v ≡ landed s (at old v) (f v)
  listed_all xs now h none partly v lt = by (list_any (nat_eq v) xs) (partly v lt) (none v lt)
    where
      by : (c : Bool) → at now v ≡ cond c (landed s (at old v) (f v)) (at old v) → (c ≡ false → f v ≡ pos 0) → at now v ≡ landed s (at old v) (f v)
      by true e k = e
      by false e k = e ∙ sym (stays s (at old v) (f v) h (k refl))

-- a variable that isn't forced stays
pub not_stepped : (s : ℤ) (b : Box) (x : ℕ) (a : ℤ) → forces s (at b x) a ≡ false → b ≡ stepped s b x a
not_stepped s b x a e = sym (ap (λ (c : Bool). cond c (fixed b x (is_above a)) b) e)
