-- Multipliers that are given back, one row after the other.
use Rattle.std.proofs.Common.{◌≡◌, ℕ, ◌+◌, ◌<◌, ◌≤◌, ◌^◌, Bool, true, false, cond, [], arith, refl, sym, ◌∙◌, ap}
use Rattle.proof_trees.specs.Boxes.{Box}
use Rattle.proof_trees.specs.Multipliers.{Multipliers, amount_of, with_amount}
use Rattle.zero_one_rows.specs.declared.program.Row.{Row}
use Rattle.zero_one_rows.specs.Variables.{Voyage}
use Rattle.certificate.specs.Entries.{same_row}
use Rattle.certificate.proofs.RowsAlike.{same_equal}
use Rattle.dual_bound.specs.Costs.{AreSmall}
use Rattle.bound_checker.specs.declared.sums.Sums.{Sums}
use Rattle.bound_checker.specs.Sums.{AreAmounts, AreToCome, Carries, HaveSum}
use Rattle.bound_checker.proofs.Multiplied.{amount_with, amount_low}
use Rattle.bound_checker.proofs.Raising.{carries_alike, named}

-- what a multiplier that is set leaves of the others
pub given : (m : Voyage) (b : Box) (ms : Multipliers Row) (s t : Sums) (row : Row) (n : ℕ) → Carries m b ms s → Carries m b (with_amount same_row ms row n) t
    → (r : Row) → amount_of same_row t.amounts r ≡ cond (same_row row r) n (amount_of same_row s.amounts r)
given m b ms s t row n was is r = is.amounts r ∙ amount_with ms row r n ∙ ap (λ (k : ℕ). cond (same_row row r) n k) (sym (was.amounts r))

-- nothing is given
pub none_given : (es : Multipliers Row) (row : Row) (a : ℕ) → a ≡ 0 → (r : Row) → amount_of same_row es r ≡ cond (same_row row r) (amount_of same_row es row + a) (amount_of same_row es r)
none_given es row a none r = by (same_row row r) refl
  where
    by : (c : Bool) → same_row row r ≡ c → amount_of same_row es r ≡ cond c (amount_of same_row es row + a) (amount_of same_row es r)
    by true e = let same : amount_of same_row es row ≡ amount_of same_row es r = ap (amount_of same_row es) (same_equal row r e) in omega arith
    by false e = refl

module _ (rest here rest' here' : Multipliers Row) (row : Row) (a : ℕ) (was : amount_of same_row rest row ≡ a)
    (out : (r : Row) → amount_of same_row rest' r ≡ cond (same_row row r) 0 (amount_of same_row rest r))
    (more : (r : Row) → amount_of same_row here' r ≡ cond (same_row row r) (amount_of same_row here row + a) (amount_of same_row here r)) where
  pub sum_stays : HaveSum rest here rest' here'
  sum_stays r = by (same_row row r) refl (out r) (more r)
    where
      by : (c : Bool) → same_row row r ≡ c → amount_of same_row rest' r ≡ cond c 0 (amount_of same_row rest r) → amount_of same_row here' r ≡ cond c (amount_of same_row here row + a) (amount_of same_row here r)
          → amount_of same_row rest' r + amount_of same_row here' r ≡ amount_of same_row rest r + amount_of same_row here r
      by true e o m =
          let x : amount_of same_row rest row ≡ amount_of same_row rest r = ap (amount_of same_row rest) (same_equal row r e) in
          let y : amount_of same_row here row ≡ amount_of same_row here r = ap (amount_of same_row here) (same_equal row r e) in
          omega arith
      by false e o m = omega arith

  pub still_to_come : (m : Voyage) → AreToCome m rest here → AreToCome m rest' here'
  still_to_come m come = record {
    low = λ r. (let e : amount_of same_row rest' r + amount_of same_row here' r ≡ amount_of same_row rest r + amount_of same_row here r = sum_stays r in
        let l : amount_of same_row rest r + amount_of same_row here r ≤ 2 ^ 40 = come.low r in
        omega arith);
    named = λ r lt. come.named r (by r (same_row row r) (out r) lt);
  }
    where
      by : (r : Row) (c : Bool) → amount_of same_row rest' r ≡ cond c 0 (amount_of same_row rest r) → 0 < amount_of same_row rest' r → 0 < amount_of same_row rest r
      by r true o lt = absurd (omega arith)
      by r false o lt = omega arith

module _ (m : Voyage) (b : Box) (es ms : Multipliers Row) (s : Sums) (carries : Carries m b [] s) (are : AreAmounts es ms) (small : AreSmall m ms) where
  pub all_to_come : AreToCome m es s.amounts
  all_to_come = record {
    low = λ r. (let none : amount_of same_row s.amounts r ≡ 0 = carries.amounts r in
        let e : amount_of same_row es r ≡ amount_of same_row ms r = are r in
        let l : amount_of same_row ms r ≤ 2 ^ 40 = amount_low m ms r small in
        omega arith);
    named = λ r lt. named m ms r small (let e : amount_of same_row es r ≡ amount_of same_row ms r = are r in omega arith);
  }

  -- all are given
  pub given_back : (ns : Multipliers Row) (t : Sums) (rest : Multipliers Row) → Carries m b ns t → rest ≡ [] → HaveSum es s.amounts rest t.amounts → Carries m b ms t
  given_back ns t rest there none sum = carries_alike m b ns t there ms small (λ r.
      let x : amount_of same_row s.amounts r ≡ 0 = carries.amounts r in
      let e : amount_of same_row es r ≡ amount_of same_row ms r = are r in
      let n : amount_of same_row rest r ≡ 0 = ap (λ (xs : Multipliers Row). amount_of same_row xs r) none in
      let y : amount_of same_row t.amounts r ≡ amount_of same_row ns r = there.amounts r in
      let z : amount_of same_row rest r + amount_of same_row t.amounts r ≡ amount_of same_row es r + amount_of same_row s.amounts r = sum r in
      omega arith)
