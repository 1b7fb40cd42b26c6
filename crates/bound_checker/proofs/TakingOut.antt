-- Costs out of which rows are taken.
use Rattle.std.proofs.Common.{◌≡◌, ℕ, zero, suc, Bool, true, false, cond, List, [], ◌∷◌, Option, length, ℤ, pos, arith, refl, sym, ◌∙◌, ap}
use borrow.Author.Differences.{ints}
use Rattle.std.specs.Ordering.{is_eq}
use Rattle.std.specs.declared.cmp.Ordering.TheVariants.{Less}
use Rattle.std.specs.List.{AllByRecursion}
use Rattle.std.specs.List.Sorted.{IsStrictlySortedBy}
use Rattle.std.specs.Map.{keys_of}
use Rattle.std.proofs.lemmas.Map.Keys.{sorted_head, sorted_tail}
use Rattle.zero_one_rows.specs.declared.program.Row.{Row}
use Rattle.zero_one_rows.specs.contracts.program.RowOrd.TheImpl as order
use Rattle.zero_one_rows.specs.Variables.{Voyage, variables}
use Rattle.proof_trees.specs.Program.{sum_to}
use Rattle.proof_trees.specs.Boxes.{Box, at}
use Rattle.proof_trees.specs.Multipliers.{Multipliers, least, amount_of, with_amount}
use Rattle.certificate.specs.Entries.{same_row}
use Rattle.certificate.proofs.RowsAlike.{same_equal, same_itself}
use Rattle.certificate.proofs.RowsTold.{same_turned}
use Rattle.dual_bound.specs.declared.costs.Costs.{Costs}
use Rattle.crossing_pricing.specs.Gaps.{number_at}
use Rattle.dual_bound.specs.Costs.{Priced, parts}
use Rattle.dual_bound.proofs.Summing.{sum_same}
use Rattle.dual_bound.proofs.Pricing.{box_priced}
use Rattle.bound_checker.specs.Sums.{AreAmounts, AreCostsWithout, IsZero, IsClean}
use Rattle.bound_checker.proofs.Multiplied.{amount_with}
use Rattle.bound_checker.proofs.Raising.{priced_alike}
use Rattle.bound_checker.proofs.RowsOrdered.{order_same}

sum_none : (n : ℕ) → sum_to n (λ v. pos 0) ≡ pos 0
sum_none zero = refl
sum_none (suc n) = omega (arith, ints, sum_none n)

-- where each variable is 0, none brings anything
parts_none : (m : Voyage) (z : Box) (ds : List ℤ) → IsZero m z → parts m z ds ≡ pos 0
parts_none m z ds is = sum_same (length (variables m)) (λ v. least (at z v) (number_at ds v)) (λ v. pos 0) (λ v lt. ap (λ (o : Option Bool). least o (number_at ds v)) (is.zero v lt)) ∙ sum_none (length (variables m))

pub priced_zero : (m : Voyage) (b z : Box) (ms : Multipliers Row) (c d : Costs) → IsZero m z → Priced m b ms c → d.reduced ≡ c.reduced → d.right ≡ c.right → d.value ≡ c.right → Priced m z ms d
priced_zero m b z ms c d is priced reduced right value = box_priced m b z ms c d priced reduced right (let none : parts m z c.reduced.items ≡ pos 0 = parts_none m z c.reduced.items is in omega (arith, ints, value, none))

-- ## A row is taken out

module _ (m : Voyage) (z : Box) (ms : Multipliers Row) (r : Row) where
  pub without_none : (c : Costs) → Priced m z ms c → amount_of same_row ms r ≡ 0 → AreCostsWithout m z ms r c
  without_none c priced none = (ms, priced, λ q. by q (same_row r q) refl)
    where
      by : (q : Row) (t : Bool) → same_row r q ≡ t → amount_of same_row ms q ≡ cond t 0 (amount_of same_row ms q)
      by q true e = ap (amount_of same_row ms) (sym (same_equal r q e)) ∙ none
      by q false e = refl

  pub without_some : (c : Costs) → Priced m z (with_amount same_row ms r 0) c → AreCostsWithout m z ms r c
  without_some c priced = (with_amount same_row ms r 0, priced, λ q. amount_with ms r q 0)

-- ## All rows, in order

none_at : (r : Row) (t : List (Row × ℕ)) → AllByRecursion (λ y. order.ghosts.cmp r y ≡ Less) (keys_of t) → amount_of same_row t r ≡ 0
none_at r [] h = refl
none_at r (e ∷ t) h =
    let k : same_row e.0 r ≡ false = sym (order_same r e.0 ∙ same_turned r e.0) ∙ ap is_eq h.0 in
    ap (λ (c : Bool). cond c e.1 (amount_of same_row t r)) k ∙ none_at r t h.1

module _ (r : Row) (a : ℕ) (es t : List (Row × ℕ)) (is : es ≡ (r, a) ∷ t) where
  pub amount_first : (ms : Multipliers Row) → AreAmounts es ms → amount_of same_row ms r ≡ a
  amount_first ms are = sym (are r) ∙ ap (λ (xs : List (Row × ℕ)). amount_of same_row xs r) is ∙ ap (λ (c : Bool). cond c a (amount_of same_row t r)) (same_itself r)

  pub sorted_rest : IsStrictlySortedBy order.ghosts.cmp (keys_of es) → IsStrictlySortedBy order.ghosts.cmp (keys_of t)
  sorted_rest sorted = sorted_tail order.ghosts.cmp r (keys_of t) (rw is at sorted)

  -- the other rows stay
  pub amounts_rest : (ms ns : Multipliers Row) → IsStrictlySortedBy order.ghosts.cmp (keys_of es) → AreAmounts es ms → ((q : Row) → amount_of same_row ns q ≡ cond (same_row r q) 0 (amount_of same_row ms q)) → AreAmounts t ns
  amounts_rest ms ns sorted are out q = by (same_row r q) refl (sym (ap (λ (xs : List (Row × ℕ)). amount_of same_row xs q) is) ∙ are q) (out q)
    where
      by : (c : Bool) → same_row r q ≡ c → cond c a (amount_of same_row t q) ≡ amount_of same_row ms q → amount_of same_row ns q ≡ cond c 0 (amount_of same_row ms q) → amount_of same_row t q ≡ amount_of same_row ns q
      by true e here gone = sym (ap (amount_of same_row t) (same_equal r q e)) ∙ none_at r t (sorted_head order.ghosts.cmp r (keys_of t) (rw is at sorted)) ∙ sym gone
      by false e here gone = here ∙ sym gone

-- none is left
pub clean_end : (m : Voyage) (z : Box) (ms : Multipliers Row) (es : List (Row × ℕ)) (c : Costs) → Priced m z ms c → AreAmounts es ms → es ≡ [] → IsClean m c
clean_end m z ms es c priced are none = (z, priced_alike m z ms c priced [] tt (λ r. sym (ap (λ (xs : List (Row × ℕ)). amount_of same_row xs r) none) ∙ are r))
