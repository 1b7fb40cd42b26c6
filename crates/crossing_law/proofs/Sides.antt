-- What a row that is met says of counts.
use Rattle.std.proofs.Common.{◌≡◌, ℕ, zero, suc, ◌+◌, ◌<◌, ◌≤◌, Bool, true, false, ◌&&◌, pos, ◌-ℤ◌, arith, refl, subst, sym, length}
use borrow.Author.Differences.{ints}
use Rattle.std.specs.Prelude.{◌==◌, slice_index_or, None}
use Rattle.std.proofs.lemmas.Bool.{and_from, lt-ltb, le-leb}
use Rattle.std.proofs.lemmas.Option.{get_or_from_slice_get, slice_get_within}
use Rattle.stow_data.specs.declared.geometry.Half.{Half}
use Rattle.stow_data.specs.Ship.{halves}
use Rattle.stow_data.specs.Plans.{no_half}
use Rattle.stow_data.specs.Kinds.{loading}
use Rattle.stow_data.proofs.Listed.{IsHalfOf}
use Rattle.stow_data.proofs.InOrder.{half_listed}
use Rattle.proof_trees.specs.Program.{sum_to, where_set}
use Rattle.zero_one_rows.specs.declared.program.Row.TheVariants.{Flow, Start, Cell, Support, Block}
use Rattle.zero_one_rows.specs.Variables.{Voyage, calls, all_kinds, kind, place, variables, var}
use Rattle.zero_one_rows.specs.Rows.{bit, less, covers, below, above, half, stack, is_filled, is_call, is_half, IsSolution}
use Rattle.crossing_law.proofs.Worlds.{World, one_if, count_to, many, occ, stay, out}

-- sums of coefficients of 1 and -1 are counts
bit_is : (b p : Bool) → where_set b (bit p) ≡ pos (one_if (b && p))
bit_is true true = refl
bit_is true false = refl
bit_is false p = refl

less_is : (b p : Bool) → where_set b (less p) ≡ pos 0 -ℤ pos (one_if (b && p))
less_is true true = refl
less_is true false = refl
less_is false p = refl

added_is : (b p q : Bool) → where_set b (bit p -ℤ bit q) ≡ pos (one_if (b && p)) -ℤ pos (one_if (b && q))
added_is true true true = refl
added_is true true false = refl
added_is true false true = refl
added_is true false false = refl
added_is false p q = refl

taken_is : (b p q : Bool) → where_set b (less p -ℤ bit q) ≡ pos 0 -ℤ pos (one_if (b && p)) -ℤ pos (one_if (b && q))
taken_is true true true = refl
taken_is true true false = refl
taken_is true false true = refl
taken_is true false false = refl
taken_is false p q = refl

pub ones : (n : ℕ) (x p : ℕ → Bool) → sum_to n (λ v. where_set (x v) (bit (p v))) ≡ pos (count_to n (λ v. x v && p v))
ones zero x p = refl
ones (suc n) x p = omega (arith, ints, ones n x p, bit_is (x n) (p n))

less_ones : (n : ℕ) (x p : ℕ → Bool) → sum_to n (λ v. where_set (x v) (less (p v))) ≡ pos 0 -ℤ pos (count_to n (λ v. x v && p v))
less_ones zero x p = refl
less_ones (suc n) x p = omega (arith, ints, less_ones n x p, less_is (x n) (p n))

added : (n : ℕ) (x p q : ℕ → Bool) → sum_to n (λ v. where_set (x v) (bit (p v) -ℤ bit (q v))) ≡ pos (count_to n (λ v. x v && p v)) -ℤ pos (count_to n (λ v. x v && q v))
added zero x p q = refl
added (suc n) x p q = omega (arith, ints, added n x p q, added_is (x n) (p n) (q n))

taken : (n : ℕ) (x p q : ℕ → Bool) → sum_to n (λ v. where_set (x v) (less (p v) -ℤ bit (q v))) ≡ pos 0 -ℤ pos (count_to n (λ v. x v && p v)) -ℤ pos (count_to n (λ v. x v && q v))
taken zero x p q = refl
taken (suc n) x p q = omega (arith, ints, taken n x p q, taken_is (x n) (p n) (q n))

-- the variables of an assignment, over the half-cells of the ship
abbrev pub world : Voyage → (ℕ → Bool) → World Half
world m x = record { vars = length (variables m); var = var m; is_set = x; has_half = λ p h. covers (place m p) h }

-- a half-cell of the ship has a number
half_number : (m : Voyage) (h : Half) → IsHalfOf m.ship h → (k : ℕ) × (is_half m k ≡ true) × (half m k ≡ h)
half_number m h of = let r = half_listed m.ship h.stack h.tier h.aft of.stack_at of.is_stack of.low of.side in
    (r.0, lt-ltb _ _ (slice_get_within (halves m.ship) r.0 h r.1), get_or_from_slice_get (halves m.ship) r.0 h no_half r.1)

module _ (m : Voyage) (x : ℕ → Bool) (sol : IsSolution m x) where
  call_is : (i : ℕ) → 0 < i → i < calls m → is_call m i ≡ true
  call_is i a b = and_from _ _ (lt-ltb 0 i a) (lt-ltb i (calls m) b)

  cell_at : (i k : ℕ) → is_call m i ≡ true → is_half m k ≡ true → many (world m x) (occ (world m x) i (half m k)) ≤ 1
  cell_at i k c e = let a = sol (Cell i k) (and_from _ _ c e) in omega (arith, ints, a, less_ones (length (variables m)) x (occ (world m x) i (half m k)))

  pub cell_is : (i : ℕ) (h : Half) → 0 < i → i < calls m → IsHalfOf m.ship h → many (world m x) (occ (world m x) i h) ≤ 1
  cell_is i h pos1 low of = let k = half_number m h of in subst (λ (z : Half). many (world m x) (occ (world m x) i z) ≤ 1) k.2 (cell_at i k.0 (call_is i pos1 low) k.1)

  support_at : (i k : ℕ) → is_call m i ≡ true → is_half m k ≡ true → 0 < (half m k).tier → many (world m x) (occ (world m x) i (half m k)) ≤ many (world m x) (occ (world m x) i (below (half m k)))
  support_at i k c e t = let a = sol (Support i k) (and_from _ _ c (and_from _ _ e (lt-ltb _ _ t))) in omega (arith, ints, a, added (length (variables m)) x (occ (world m x) i (below (half m k))) (occ (world m x) i (half m k)))

  pub support_is : (i : ℕ) (h : Half) → 0 < i → i < calls m → IsHalfOf m.ship h → 0 < h.tier → many (world m x) (occ (world m x) i h) ≤ many (world m x) (occ (world m x) i (below h))
  support_is i h pos1 low of t =
      let k = half_number m h of in
      subst (λ (z : Half). many (world m x) (occ (world m x) i z) ≤ many (world m x) (occ (world m x) i (below z))) k.2
      (support_at i k.0 (call_is i pos1 low) k.1 (subst (λ (z : Half). 0 < z.tier) (sym k.2) t))

  block_at : (j k : ℕ) → is_call m j ≡ true → is_half m k ≡ true → (half m k).tier + 1 < (stack m (half m k).stack).tiers → many (world m x) (out (world m x) j (half m k)) + many (world m x) (stay (world m x) j (above (half m k))) ≤ 1
  block_at j k c e t = let a = sol (Block j k) (and_from _ _ c (and_from _ _ e (lt-ltb _ _ t))) in omega (arith, ints, a, taken (length (variables m)) x (out (world m x) j (half m k)) (stay (world m x) j (above (half m k))))

  pub block_is : (j : ℕ) (h : Half) → 0 < j → j < calls m → IsHalfOf m.ship h → h.tier + 1 < (stack m h.stack).tiers → many (world m x) (out (world m x) j h) + many (world m x) (stay (world m x) j (above h)) ≤ 1
  block_is j h pos1 low of t =
      let k = half_number m h of in
      subst (λ (z : Half). many (world m x) (out (world m x) j z) + many (world m x) (stay (world m x) j (above z)) ≤ 1) k.2
      (block_at j k.0 (call_is j pos1 low) k.1 (subst (λ (z : Half). z.tier + 1 < (stack m z.stack).tiers) (sym k.2) t))

  pub flow_is : (i g : ℕ) → 0 < i → i < calls m → g < length (all_kinds m) → (kind m g).first ≤ i → i < (kind m g).dest
      → loading m.ship.weight_step m.cargo.containers i g ≤ many (world m x) (λ v. ((var m v).put == i) && ((var m v).kind == g))
  flow_is i g pos1 low lt f d =
      let a = sol (Flow 0 i g) (and_from _ _ (call_is i pos1 low) (and_from _ _ (lt-ltb _ _ lt) (and_from _ _ (le-leb _ _ f) (lt-ltb _ _ d)))) in
      omega (arith, ints, a, added (length (variables m)) x (λ v. ((var m v).put == i) && ((var m v).kind == g)) (λ v. ((var m v).lifted == i) && ((var m v).kind == g)))

  pub start_is : (p : ℕ) → is_filled (slice_index_or m.cargo.arrival p None) ≡ true → 1 ≤ many (world m x) (λ v. ((var m v).put == 0) && ((var m v).place == p))
  start_is p e =
      let a = sol (Start 0 p) e in
      omega (arith, ints, a, ones (length (variables m)) x (λ v. ((var m v).put == 0) && ((var m v).place == p)))
