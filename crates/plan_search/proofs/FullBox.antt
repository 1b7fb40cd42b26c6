-- A full box that violates none of some rows.
use Rattle.std.proofs.Common.{◌≡◌, ℕ, zero, suc, ◌<◌, Bool, true, false, not, ◌&&◌, List, [], ◌∷◌, length, Option, Some, None, All, ℤ, pos, negsuc, ◌≤ℤ◌, refl, ap, arith, ◌∙◌, ◌⊎◌, inl, inr}
use Rattle.std.specs.Prelude.{IsSome, Contains}
use Rattle.std.proofs.lemmas.List.Elements.{All-from_get_or, All-contains}
use borrow.Author.Differences.{ints}
use Rattle.proof_trees.specs.Program.{Program, sum_to, where_set, cost_of}
use Rattle.proof_trees.specs.Boxes.{Box, at, violated}
use Rattle.search_core.specs.Bags.{Every}
use Rattle.search_core.specs.Machine.{bit_of, is_fixed, fixed_below, nat_of, bits, price, breaks_none, NoneNegative}

and_left : (a b : Bool) → (a && b) ≡ true → a ≡ true
and_left true b e = refl
and_left false b e = cc

and_right : (a b : Bool) → (a && b) ≡ true → b ≡ true
and_right true b e = e
and_right false b e = cc

not_true : (a : Bool) → not a ≡ true → a ≡ false
not_true true e = cc
not_true false e = refl

fixed_some : (o : Option Bool) → is_fixed o ≡ true → IsSome o
fixed_some None e = absurd (cc)
fixed_some (Some y) e = refl

below_or_last : (v n : ℕ) → v < suc n → (v ≡ n) ⊎ (v < n)
below_or_last v n l = grind (arith, l)

below_fixed : (n : ℕ) (b : Box) (v : ℕ) → fixed_below n b ≡ true → v < n → is_fixed (at b v) ≡ true
below_fixed zero b v h l = absurd (omega arith)
below_fixed (suc n) b v h l = elim (below_or_last v n l) [
  | inl e ↦ ap (λ (u : ℕ). is_fixed (at b u)) e ∙ and_left (is_fixed (at b n)) (fixed_below n b) h
  | inr lt ↦ below_fixed n b v (and_right (is_fixed (at b n)) (fixed_below n b) h) lt
]

-- each variable is fixed
pub all_fixed : (n : ℕ) (b : Box) → length b ≡ n → fixed_below n b ≡ true → All IsSome b
all_fixed n b len h = All-from_get_or IsSome b None (λ v l. fixed_some (at b v) (below_fixed n b v h (omega arith)))

module _ {R : Type 0} (p : Program R) where
  each_met : (b : Box) (rs : List R) → breaks_none p rs b ≡ true → Every (λ r. violated p b r ≡ false) rs
  each_met b [] h = tt
  each_met b (r ∷ rs) h = (not_true (violated p b r) (and_left (not (violated p b r)) (breaks_none p rs b) h), each_met b rs (and_right (not (violated p b r)) (breaks_none p rs b) h))

every_all : {A : Type 0} (P : A → Type 0) (xs : List A) → Every P xs → All P xs
every_all P [] h k d l = absurd (omega arith)
every_all P (x ∷ xs) h zero d l = h.0
every_all P (x ∷ xs) h (suc k) d l = every_all P xs h.1 k d (omega arith)

-- what holds of every element holds of one that the list contains
pub every_contained : {A : Type 0} (P : A → Type 0) (xs : List A) (x : A) → Every P xs → Contains xs x → P x
every_contained P xs x h c = All-contains P xs x (every_all P xs h) c

module _ {R : Type 0} (p : Program R) where
  -- none of the rows is violated
  pub none_broken : (b : Box) (rs : List R) (r : R) → breaks_none p rs b ≡ true → Contains rs r → violated p b r ≡ false
  none_broken b rs r h c = every_contained (λ (r : R). violated p b r ≡ false) rs r (each_met p b rs h) c

  -- both parts of a full box
  pub full_fixed : (b : Box) (rs : List R) → (fixed_below p.vars b && breaks_none p rs b) ≡ true → fixed_below p.vars b ≡ true
  full_fixed b rs h = and_left (fixed_below p.vars b) (breaks_none p rs b) h

  pub full_unbroken : (b : Box) (rs : List R) → (fixed_below p.vars b && breaks_none p rs b) ≡ true → breaks_none p rs b ≡ true
  full_unbroken b rs h = and_right (fixed_below p.vars b) (breaks_none p rs b) h

  set_from : (y : Bool) (z : ℤ) → pos 0 ≤ℤ z → pos 0 ≤ℤ where_set y z
  set_from true z h = h
  set_from false z h = omega (arith, ints)

  costs_from : (n : ℕ) (x : ℕ → Bool) (f : ℕ → ℤ) → ((v : ℕ) → v < n → pos 0 ≤ℤ f v) → pos 0 ≤ℤ sum_to n (λ v. where_set (x v) (f v))
  costs_from zero x f h = omega (arith, ints)
  costs_from (suc n) x f h = omega (arith, ints, costs_from n x f (λ v lt. h v (omega arith)), set_from (x n) (f n) (h n (omega arith)))

  natural : (z : ℤ) → pos 0 ≤ℤ z → z ≡ pos (nat_of z)
  natural (pos n) h = refl
  natural (negsuc n) h = absurd (omega (arith, ints))

  sum_same : (n : ℕ) (f g : ℕ → ℤ) → ((v : ℕ) → f v ≡ g v) → sum_to n f ≡ sum_to n g
  sum_same zero f g h = refl
  sum_same (suc n) f g h = omega (arith, ints, sum_same n f g h, h n)

  -- the price of a box is the cost of its ones
  pub priced : NoneNegative p → (b : Box) (x : ℕ → Bool) → ((v : ℕ) → x v ≡ bit_of (at b v)) → cost_of p x ≡ pos (price p b)
  priced costs b x same =
      let as_bits : cost_of p x ≡ cost_of p (bits p b) = sum_same p.vars _ _ (λ v. ap (λ (y : Bool). where_set y (p.cost v)) (same v)) in
      as_bits ∙ natural (cost_of p (bits p b)) (costs_from p.vars (bits p b) p.cost costs)
