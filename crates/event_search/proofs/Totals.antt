-- Sums over multipliers, where one multiplier changes, and how large they are.
use Rattle.std.proofs.Common.{◌≡◌, ℕ, ◌*◌, ◌≤◌, ◌^◌, Bool, true, false, cond, [], ◌∷◌, length, Some, ℤ, pos, negsuc, ◌+ℤ◌, ◌*ℤ◌, ◌≤ℤ◌, ◌<ℤ◌, not, T, SFits, w64, arith, refl, sym, ◌∙◌, ap, subst}
use Rattle.std.specs.Int.{w128}
use Rattle.std.specs.Int.RustNames.{unsigned_abs}
use lib.Signed.{lt_z, lt_z_no}
use Rattle.std.proofs.lemmas.Int.{fits_signed_from_abs}
use Rattle.zero_one_rows.specs.declared.program.Row.{Row}
use Rattle.zero_one_rows.specs.Variables.{Voyage}
use Rattle.zero_one_rows.specs.Rows.{whole}
use Rattle.zero_one_rows.specs.Counted.{all_rows}
use Rattle.proof_trees.specs.Multipliers.{Multipliers, dot, amount_of, with_amount}
use Rattle.certificate.specs.Entries.{same_row}
use Rattle.certificate.proofs.RowsTold.{same_turned}
use Rattle.dual_bound.specs.Raising.{Lacks, AreMultipliers}
use Rattle.dual_bound.specs.Adding.{in_range}
use Rattle.dual_bound.proofs.Summing.{product_size, abs_sum}
use Rattle.dual_bound.proofs.Multiplied.{dot_with, in_range_some}
use Rattle.dual_bound.proofs.RowsListed.{few_multipliers}
use Rattle.event_search.specs.Counting.{AreLow, IsSum}

lacks_with : (ms : Multipliers Row) (r q : Row) (n : ℕ) → same_row r q ≡ false → Lacks ms q → Lacks (with_amount same_row ms r n) q
lacks_with [] r q n e h = (e, tt)
lacks_with (x ∷ ms) r q n e h = by (same_row x.0 r) (lacks_with ms r q n e h.1)
  where
    by : (b : Bool) → Lacks (with_amount same_row ms r n) q → Lacks (cond b ((x.0, n) ∷ ms) (x ∷ with_amount same_row ms r n)) q
    by true rest = (h.0, h.1)
    by false rest = (h.0, rest)

module _ (m : Voyage) (f : Row → ℤ) where
  low_with : (ms : Multipliers Row) (r : Row) (n : ℕ) → (whole m).has r ≡ true → unsigned_abs (f r) ≤ 2 ^ 37 → n ≤ 2 ^ 40 → AreLow m f ms → AreLow m f (with_amount same_row ms r n)
  low_with [] r n has small low h = (has, small, low, tt, tt)
  low_with (x ∷ ms) r n has small low h = by (same_row x.0 r) refl (low_with ms r n has small low h.4)
    where
      by : (b : Bool) → same_row x.0 r ≡ b → AreLow m f (with_amount same_row ms r n) → AreLow m f (cond b ((x.0, n) ∷ ms) (x ∷ with_amount same_row ms r n))
      by true is rest = (h.0, h.1, low, h.3, h.4)
      by false is rest = (h.0, h.1, h.2, lacks_with ms r x.0 n (same_turned r x.0 ∙ is) h.3, rest)

  pub are_multipliers : (ms : Multipliers Row) → AreLow m f ms → AreMultipliers m ms
  are_multipliers [] h = tt
  are_multipliers (x ∷ ms) h = (h.0, h.2, h.3, are_multipliers ms h.4)

  dot_low : (ms : Multipliers Row) → AreLow m f ms → unsigned_abs (dot ms f) ≤ length ms * 2 ^ 77
  dot_low [] h = omega arith
  dot_low (x ∷ ms) h = omega (arith, abs_sum (pos x.1 *ℤ f x.0) (dot ms f), dot_low ms h.4, product_size (pos x.1) (f x.0) (2 ^ 40) (2 ^ 37) h.2 h.1)

  -- the sum is small, since the program has few rows
  pub sum_low : (ms : Multipliers Row) (total : ℤ) → length (all_rows m) ≤ 2000000 → IsSum m f ms total → unsigned_abs total ≤ 2 ^ 98
  sum_low ms total few h =
      let n : length ms ≤ length (all_rows m) = few_multipliers m ms (are_multipliers ms h.low) in
      let d : unsigned_abs (dot ms f) ≤ length ms * 2 ^ 77 = dot_low ms h.low in
      let s : unsigned_abs total ≡ unsigned_abs (dot ms f) = ap unsigned_abs h.total in
      omega (arith, n, d, s, few)

  -- no multipliers add up to nothing
  pub sum_none : (total : ℤ) → total ≡ pos 0 → IsSum m f [] total
  sum_none total is = record { low = tt; total = is }

  pub sum_more : (ms : Multipliers Row) (r : Row) (z total result : ℤ) (n : ℕ) → in_range (pos (amount_of same_row ms r) +ℤ z) ≡ Some n → (whole m).has r ≡ true → unsigned_abs (f r) ≤ 2 ^ 37
      → IsSum m f ms total → result ≡ total +ℤ z *ℤ f r → IsSum m f (with_amount same_row ms r n) result
  sum_more ms r z total result n stays has small h is =
      let k = in_range_some (pos (amount_of same_row ms r) +ℤ z) n stays in
      record {
        low = low_with ms r n has small k.1 h.low;
        total = is ∙ (ap (λ (t : ℤ). t +ℤ z *ℤ f r) h.total ∙ sym (dot_with ms r n z f k.0));
      }

-- ## Ranges

abs_fits : (z : ℤ) → SFits w64 z → unsigned_abs z ≤ 2 ^ 63
abs_fits (pos n) h = omega (arith, h.sfits)
abs_fits (negsuc n) h = omega (arith, h.sfits)

pub wider : (z : ℤ) → SFits w64 z → SFits w128 z
wider z h = fits_signed_from_abs w128 z (omega (arith, abs_fits z h))

pub product_fits : (by each : ℤ) → SFits w64 by → unsigned_abs each ≤ 2 ^ 37 → SFits w128 (by *ℤ each)
product_fits by each b e = fits_signed_from_abs w128 (by *ℤ each) (omega (arith, product_size by each (2 ^ 63) (2 ^ 37) (abs_fits by b) e))

pub grown_fits : (total by each : ℤ) → unsigned_abs total ≤ 2 ^ 98 → SFits w64 by → unsigned_abs each ≤ 2 ^ 37 → SFits w128 (total +ℤ by *ℤ each)
grown_fits total by each t b e =
    fits_signed_from_abs w128 (total +ℤ by *ℤ each) (omega (arith, t, abs_sum total (by *ℤ each), product_size by each (2 ^ 63) (2 ^ 37) (abs_fits by b) e))

pub lt_is : (a b : ℤ) → lt_z a b ≡ true → a <ℤ b
lt_is a b h = record { lt = subst T (sym h) tt }

pub not_under : (a b : ℤ) → lt_z a b ≡ false → b ≤ℤ a
not_under a b h = lt_z_no {a = a} {b = b} (subst (λ (t : Bool). T (not t)) (sym h) tt)
