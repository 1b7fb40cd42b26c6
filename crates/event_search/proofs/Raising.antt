-- Raises, one after the other.
use Rattle.std.proofs.Common.{◌≡◌, ◌≢◌, ℕ, ◌<◌, ◌≤◌, ◌^◌, ◌⊎◌, inl, inr, Bool, true, false, cond, List, [], ◌∷◌, map, drop, take, ◌++◌, set, length, get_or, length-set, Option, Some, None, ℤ, pos, ◌+ℤ◌, ◌*ℤ◌, arith, refl, sym, ◌∙◌, ap, subst}
use Rattle.std.specs.Prelude.{slice_get}
use Rattle.std.specs.Int.RustNames.{unsigned_abs}
use Rattle.std.proofs.lemmas.Bool.{cases_lt}
use Rattle.std.proofs.lemmas.List.{append-nil, drop_all}
use Rattle.std.proofs.lemmas.Option.{slice_get_within, same_Some}
use Rattle.stow_data.proofs.CoverLemmas.{get_set_same, get_set_other}
use Rattle.zero_one_rows.specs.declared.program.Row.{Row}
use Rattle.zero_one_rows.specs.declared.program.Raise.{Raise}
use Rattle.zero_one_rows.specs.Variables.{Voyage, variables}
use Rattle.zero_one_rows.specs.Rows.{whole}
use Rattle.zero_one_rows.specs.Counted.{all_rows}
use Rattle.zero_one_rows.proofs.Found.{in_order, not_itself}
use Rattle.zero_one_rows.proofs.InOrder.{rows_rise}
use Rattle.proof_trees.specs.Multipliers.{Multipliers, amount_of, with_amount, raised_all}
use Rattle.certificate.specs.Entries.{same_row, raise_of}
use Rattle.certificate.proofs.RowsAlike.{same_equal, same_itself}
use Rattle.dual_bound.specs.Adding.{in_range}
use Rattle.crossing_pricing.specs.Gaps.{number_at}
use Rattle.dual_bound.proofs.Multiplied.{amount_low}
use Rattle.dual_bound.proofs.Summing.{same_or_other}
use Rattle.event_search.specs.declared.tally.Tally.{Tally}
use Rattle.event_search.specs.Counting.{Tallies, Follows, AddsTo}
use Rattle.event_search.proofs.Listed.{default_any, take_all}
use Rattle.event_search.proofs.Totals.{are_multipliers, sum_low, sum_more}

-- ## One multiplier changed

amount_set : (ms : Multipliers Row) (r : Row) (n : ℕ) → amount_of same_row (with_amount same_row ms r n) r ≡ n
amount_set [] r n = ap (λ (b : Bool). cond b n 0) (same_itself r)
amount_set (x ∷ ms) r n = by (same_row x.0 r) refl (amount_set ms r n)
  where
    by : (b : Bool) → same_row x.0 r ≡ b → amount_of same_row (with_amount same_row ms r n) r ≡ n → amount_of same_row (cond b ((x.0, n) ∷ ms) (x ∷ with_amount same_row ms r n)) r ≡ n
    by true e rest = ap (λ (b : Bool). cond b n (amount_of same_row ms r)) e
    by false e rest = ap (λ (b : Bool). cond b x.1 (amount_of same_row (with_amount same_row ms r n) r)) e ∙ rest

amount_kept : (ms : Multipliers Row) (r q : Row) (n : ℕ) → same_row r q ≡ false → amount_of same_row (with_amount same_row ms r n) q ≡ amount_of same_row ms q
amount_kept [] r q n other = ap (λ (b : Bool). cond b n 0) other
amount_kept (x ∷ ms) r q n other = by (same_row x.0 r) refl (amount_kept ms r q n other)
  where
    by : (b : Bool) → same_row x.0 r ≡ b → amount_of same_row (with_amount same_row ms r n) q ≡ amount_of same_row ms q
        → amount_of same_row (cond b ((x.0, n) ∷ ms) (x ∷ with_amount same_row ms r n)) q ≡ amount_of same_row (x ∷ ms) q
    by true e rest =
        let no : same_row x.0 q ≡ false = ap (λ (p : Row). same_row p q) (same_equal x.0 r e) ∙ other in
        ap (λ (b : Bool). cond b n (amount_of same_row ms q)) no ∙ sym (ap (λ (b : Bool). cond b x.1 (amount_of same_row ms q)) no)
    by false e rest = ap (λ (k : ℕ). cond (same_row x.0 q) x.1 k) rest

-- each row stands once in the program's list
apart : (m : Voyage) (i j : ℕ) (r : Row) → i ≢ j → slice_get (all_rows m) i ≡ Some r → slice_get (all_rows m) j ≡ Some r → ⊥
apart m i j r other a b = by (cases_lt i j)
  where
    by : (i < j) ⊎ (j ≤ i) → ⊥
    by (inl below) = not_itself r (in_order (all_rows m) i j r r (rows_rise m) below a b)
    by (inr above) = not_itself r (in_order (all_rows m) j i r r (rows_rise m) (omega (arith, other, above)) b a)

different : (r q : Row) → (r ≡ q → ⊥) → same_row r q ≡ false
different r q other = by (same_row r q) refl
  where
    by : (b : Bool) → same_row r q ≡ b → same_row r q ≡ false
    by true e = absurd (other (same_equal r q e))
    by false e = e

-- the amounts by the rows' numbers are these multipliers
abbrev pub AreAmounts : Voyage → Multipliers Row → List ℕ → Type 0
AreAmounts m ms amounts = (k : ℕ) (r : Row) → slice_get (all_rows m) k ≡ Some r → slice_get amounts k ≡ Some (amount_of same_row ms r)

amounts_more : (m : Voyage) (ms : Multipliers Row) (r : Row) (n k : ℕ) (amounts : List ℕ) → slice_get (all_rows m) k ≡ Some r → k < length amounts → AreAmounts m ms amounts → AreAmounts m (with_amount same_row ms r n) (set amounts k n)
amounts_more m ms r n k amounts at_k lt h j q at_j = by (same_or_other j k)
  where
    by : (j ≡ k) ⊎ (j ≢ k) → slice_get (set amounts k n) j ≡ Some (amount_of same_row (with_amount same_row ms r n) q)
    by (inl same) =
        let row : r ≡ q = same_Some r q (sym at_k ∙ ap (slice_get (all_rows m)) (sym same) ∙ at_j) in
        ap (slice_get (set amounts k n)) same ∙ get_set_same amounts k n lt ∙ ap (λ (p : ℕ). Some p) (sym (amount_set ms r n) ∙ ap (amount_of same_row (with_amount same_row ms r n)) row)
    by (inr other) =
        let no : same_row r q ≡ false = different r q (λ e. apart m j k r other (at_j ∙ ap (λ (p : Row). Some p) (sym e)) at_k) in
        get_set_other amounts k j n other ∙ h j q at_j ∙ ap (λ (p : ℕ). Some p) (sym (amount_kept ms r q n no))

-- ## Tallies

-- the amount of a row in a tally
pub amount_here : (m : Voyage) (ms : Multipliers Row) (t : Tally) (r : Row) (k amount : ℕ) → Tallies m ms t → slice_get (all_rows m) k ≡ Some r → slice_get t.amounts k ≡ Some amount → amount ≡ amount_of same_row ms r
amount_here m ms t r k amount tallies at_k here = same_Some amount (amount_of same_row ms r) (sym here ∙ tallies.amounts k r at_k)

pub amount_small : (m : Voyage) (ms : Multipliers Row) (t : Tally) (r : Row) → Tallies m ms t → amount_of same_row ms r ≤ 2 ^ 40
amount_small m ms t r tallies = amount_low m ms r (are_multipliers m (whole m).rhs ms tallies.right.low)

pub right_low : (m : Voyage) (ms : Multipliers Row) (t : Tally) → length (all_rows m) ≤ 2000000 → Tallies m ms t → unsigned_abs t.right ≤ 2 ^ 98
right_low m ms t few tallies = sum_low m (whole m).rhs ms t.right few tallies.right

pub weight_low : (m : Voyage) (ms : Multipliers Row) (t : Tally) (x : ℕ) → length (all_rows m) ≤ 2000000 → x < length (variables m) → Tallies m ms t → unsigned_abs (number_at t.weights.items x) ≤ 2 ^ 98
weight_low m ms t x few lt tallies = sum_low m (λ (r : Row). (whole m).coef r x) ms (number_at t.weights.items x) few (tallies.weights x lt)

pub weight_here : (m : Voyage) (ms : Multipliers Row) (t : Tally) (x : ℕ) (z : ℤ) → x < length (variables m) → Tallies m ms t → z ≡ get_or t.weights.items x z → z ≡ number_at t.weights.items x
weight_here m ms t x z lt tallies is = is ∙ default_any t.weights.items x z (pos 0) (omega (arith, lt, tallies.sized.vars))

-- a list that is written over as a whole
pub written_over : (n : ℕ) (old new : List ℤ) → n ≡ length old → length new ≡ length old → take n (new ++ drop (length new) old) ≡ new
written_over n old new len same =
    let none : drop (length new) old ≡ [] = drop_all (length new) old (omega (arith, same)) in
    ap (λ (zs : List ℤ). take n (new ++ zs)) none ∙ (ap (take n) (append-nil new) ∙ take_all new n (omega (arith, len, same)))

-- the sums of the variables, which stand in a list of their own
pub adds_list : (m : Voyage) (r : Raise) (old new : Tally) (zs : List ℤ) → new.weights.items ≡ zs → length zs ≡ length (variables m) → new.right ≡ old.right +ℤ r.amount *ℤ (whole m).rhs r.row → unsigned_abs ((whole m).rhs r.row) ≤ 2 ^ 37
    → ((x : ℕ) → x < length (variables m) → number_at zs x ≡ number_at old.weights.items x +ℤ r.amount *ℤ (whole m).coef r.row x) → ((x : ℕ) → x < length (variables m) → unsigned_abs ((whole m).coef r.row x) ≤ 2 ^ 37) → AddsTo m r old new
adds_list m r old new zs is len right small sums coefs = record {
  vars = ap (λ (ys : List ℤ). length ys) is ∙ len;
  right = right;
  small = small;
  weights = λ x lt. ap (λ (ys : List ℤ). number_at ys x) is ∙ sums x lt;
  coefs = coefs;
}

-- a raise, which keeps its row's multiplier in range, leads to the next tally
pub raised_tally : (m : Voyage) (ms : Multipliers Row) (r : Raise) (old mid new : Tally) (k n : ℕ) → slice_get (all_rows m) k ≡ Some r.row → (whole m).has r.row ≡ true → in_range (pos (amount_of same_row ms r.row) +ℤ r.amount) ≡ Some n
    → AddsTo m r old mid → mid.amounts ≡ old.amounts → new.amounts ≡ set mid.amounts k n → new.right ≡ mid.right → new.weights.items ≡ mid.weights.items → Tallies m ms old → Tallies m (with_amount same_row ms r.row n) new
raised_tally m ms r old mid new k n at_k has stays adds amounts amounts' right weights t =
    let lt : k < length old.amounts = omega (arith, slice_get_within (all_rows m) k r.row at_k, t.sized.rows) in
    let set_is : new.amounts ≡ set old.amounts k n = amounts' ∙ ap (λ (xs : List ℕ). set xs k n) amounts in
    let next : AreAmounts m (with_amount same_row ms r.row n) (set old.amounts k n) = amounts_more m ms r.row n k old.amounts at_k lt t.amounts in
    record {
      sized = record { rows = ap (λ (xs : List ℕ). length xs) set_is ∙ length-set old.amounts k n ∙ t.sized.rows; vars = ap (λ (zs : List ℤ). length zs) weights ∙ adds.vars };
      amounts = λ j q at_j. ap (λ (xs : List ℕ). slice_get xs j) set_is ∙ next j q at_j;
      right = sum_more m (whole m).rhs ms r.row r.amount old.right new.right n stays has adds.small t.right (right ∙ adds.right);
      weights = λ x lt. sum_more m (λ (q : Row). (whole m).coef q x) ms r.row r.amount (number_at old.weights.items x) (number_at new.weights.items x) n stays has (adds.coefs x lt) (t.weights x lt) (ap (λ (zs : List ℤ). number_at zs x) weights ∙ adds.weights x lt);
    }

-- ## Raises in order

module _ (m : Voyage) (raises : List Raise) (ms : Multipliers Row) where
  -- the tally is that after the first so many raises
  abbrev pub Halfway : ℕ → Tally → Type 0
  Halfway i t = (os : Multipliers Row) × Tallies m os t × (raised_all same_row (Some ms) (map raise_of raises) ≡ raised_all same_row (Some os) (map raise_of (drop i raises)))

-- ## What the answer tells

module _ (m : Voyage) (o : Option (Multipliers Row)) (t : Tally) where
  pub kept : (b : Bool) → Follows m o t b → b ≡ true → (ns : Multipliers Row) × (o ≡ Some ns)
  kept true f e = (f.0, f.1)
  kept false f e = absurd (let no : ⊥ = cc in no)

  pub keeps : (b : Bool) → Follows m o t b → (ns : Multipliers Row) × (o ≡ Some ns) → b ≡ true
  keeps true f h = refl
  keeps false f h = let bad : None ≡ Some h.0 = sym f ∙ h.1 in absurd (let no : ⊥ = cc in no)

  pub led : (b : Bool) (ns : Multipliers Row) → Follows m o t b → o ≡ Some ns → Tallies m ns t
  led true ns f e = subst (λ (os : Multipliers Row). Tallies m os t) (same_Some f.0 ns (sym f.1 ∙ e)) f.2
  led false ns f e = let bad : None ≡ Some ns = sym f ∙ e in absurd (let no : ⊥ = cc in no)
