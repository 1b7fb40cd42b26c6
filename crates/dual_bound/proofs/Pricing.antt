-- Reduced costs and the dual value, where a multiplier changes.
use Rattle.std.proofs.Common.{◌≡◌, ℕ, ◌+◌, ◌*◌, ◌<◌, ◌≤◌, ◌^◌, Bool, true, false, List, Option, Some, None, length, set, ℤ, pos, ◌+ℤ◌, ◌-ℤ◌, ◌*ℤ◌, arith, refl, sym, ◌∙◌, ap, subst}
use Rattle.std.specs.Int.RustNames.{unsigned_abs}
use borrow.Author.Differences.{ints}
use Rattle.std.proofs.lemmas.List.{get_or-set_same, get_or-set_other}
use Rattle.zero_one_rows.specs.declared.program.Row.{Row}
use Rattle.zero_one_rows.specs.declared.program.Var.{Var}
use Rattle.zero_one_rows.specs.Variables.{Voyage, variables, var, var_cost}
use Rattle.zero_one_rows.specs.Rows.{whole}
use Rattle.zero_one_rows.specs.Counted.{all_rows}
use Rattle.proof_trees.specs.Program.{sum_to}
use Rattle.proof_trees.specs.Boxes.{Box, at}
use Rattle.proof_trees.specs.Multipliers.{Multipliers, least, weighed, weighed_rhs, worth, amount_of, with_amount}
use Rattle.certificate.specs.Entries.{same_row}
use Rattle.dual_bound.specs.declared.costs.Costs.{Costs}
use Rattle.crossing_pricing.specs.Gaps.{number_at, gap}
use Rattle.dual_bound.specs.Costs.{gaps_of, parts, IsSmall, Gauged, Priced, PricedSome, HasRoom, Gains}
use Rattle.dual_bound.proofs.Summing.{sum_one, sum_same, sum_more, sum_size, product_size, abs_sum}
use Rattle.dual_bound.proofs.Multiplied.{dot_with, dot_low, small_with, are_multipliers}
use Rattle.dual_bound.proofs.RowsListed.{few_multipliers}

pub gap_small : (o : Option Bool) (d a : ℤ) → unsigned_abs (gap o d a) ≤ unsigned_abs a
gap_small None d a = grind (arith, ints)
gap_small (Some true) d a = omega (arith, ints)
gap_small (Some false) d a = omega (arith, ints)

pub gap_none : (o : Option Bool) (d a : ℤ) → a ≡ pos 0 → gap o d a ≡ pos 0
gap_none None d a e = grind (arith, ints)
gap_none (Some true) d a e = omega (arith, ints)
gap_none (Some false) d a e = refl

-- so many times a coefficient is small, and so is the gap
pub gap_low : (o : Option Bool) (d by coef result : ℤ) → unsigned_abs by ≤ 2 ^ 40 → unsigned_abs coef ≤ 2 ^ 17 → result ≡ gap o d (by *ℤ coef) → unsigned_abs result ≤ 2 ^ 57
gap_low o d by coef result h k e =
    let s : unsigned_abs (by *ℤ coef) ≤ 2 ^ 40 * 2 ^ 17 = product_size by coef (2 ^ 40) (2 ^ 17) h k in
    let g : unsigned_abs result ≤ unsigned_abs (by *ℤ coef) = subst (λ (z : ℤ). unsigned_abs z ≤ unsigned_abs (by *ℤ coef)) (sym e) (gap_small o d (by *ℤ coef)) in
    omega arith

pub gap_more : (o : Option Bool) (d by coef old new : ℤ) → unsigned_abs by ≤ 2 ^ 40 → unsigned_abs coef ≤ 2 ^ 17 → new ≡ old +ℤ gap o d (by *ℤ coef) → unsigned_abs new ≤ unsigned_abs old + 2 ^ 57
gap_more o d by coef old new h k e =
    let g : unsigned_abs (gap o d (by *ℤ coef)) ≤ 2 ^ 57 = gap_low o d by coef (gap o d (by *ℤ coef)) h k refl in
    let t : unsigned_abs new ≤ unsigned_abs old + unsigned_abs (gap o d (by *ℤ coef)) = subst (λ (z : ℤ). unsigned_abs z ≤ unsigned_abs old + unsigned_abs (gap o d (by *ℤ coef))) (sym e) (abs_sum old (gap o d (by *ℤ coef))) in
    omega arith

least_small : (o : Option Bool) (d : ℤ) → unsigned_abs (least o d) ≤ unsigned_abs d
least_small None d = grind (arith, ints)
least_small (Some true) d = omega arith
least_small (Some false) d = omega arith

-- one variable's reduced cost falls by a
pub put_gauged : (m : Voyage) (b : Box) (ds : List ℤ) (x : ℕ) (a value value' right : ℤ) → x < length (variables m) → length ds ≡ length (variables m)
    → value ≡ right +ℤ parts m b ds → value' ≡ value +ℤ gap (at b x) (number_at ds x) a
    → value' ≡ right +ℤ parts m b (set ds x (number_at ds x -ℤ a))
put_gauged m b ds x a value value' right lt len is more =
    let ds' : List ℤ = set ds x (number_at ds x -ℤ a) in
    let in_ds : x < length ds = omega arith in
    let one = sum_one (λ v. least (at b v) (number_at ds' v)) (λ v. least (at b v) (number_at ds v)) x
    (λ v other. ap (λ (z : ℤ). least (at b v) z) (get_or-set_other ds x v (number_at ds x -ℤ a) (pos 0) other)) (length (variables m)) lt in
    let here : least (at b x) (number_at ds' x) ≡ least (at b x) (number_at ds x -ℤ a) = ap (λ (z : ℤ). least (at b x) z) (get_or-set_same ds x (number_at ds x -ℤ a) (pos 0) in_ds) in
    omega (arith, ints, one, here, is, more)

-- one variable is fixed, or free
pub put_box : (m : Voyage) (b : Box) (ds : List ℤ) (x : ℕ) (o : Option Bool) (value value' right : ℤ) → x < length (variables m) → length b ≡ length (variables m)
    → value ≡ right +ℤ parts m b ds → value' ≡ value +ℤ (least o (number_at ds x) -ℤ least (at b x) (number_at ds x)) → value' ≡ right +ℤ parts m (set b x o) ds
put_box m b ds x o value value' right lt len is more =
    let in_b : x < length b = omega arith in
    let one = sum_one (λ v. least (at (set b x o) v) (number_at ds v)) (λ v. least (at b v) (number_at ds v)) x
    (λ v other. ap (λ (q : Option Bool). least q (number_at ds v)) (get_or-set_other b x v o None other)) (length (variables m)) lt in
    let here : least (at (set b x o) x) (number_at ds x) ≡ least o (number_at ds x) = ap (λ (q : Option Bool). least q (number_at ds x)) (get_or-set_same b x o None in_b) in
    omega (arith, ints, one, here, is, more)

cost_low : (c : ℕ) (w : ℤ) (n : ℕ) → c ≤ 1000 → unsigned_abs w ≤ n → unsigned_abs (pos 16 *ℤ pos c -ℤ w) ≤ 16000 + n
cost_low c w n h k = omega (arith, ints)

module _ (m : Voyage) (b : Box) (c : Costs) (few : length (all_rows m) ≤ 2000000) (vars : length (variables m) ≤ 200000) (costs : (x : Var) → var_cost m x ≤ 1000) where
  module _ (ms : Multipliers Row) (priced : Priced m b ms c) where
    count : length ms ≤ 2000000
    count = let h : length ms ≤ length (all_rows m) = few_multipliers m ms (are_multipliers m ms priced.small) in omega arith

    pub reduced_low : (v : ℕ) → v < length (variables m) → unsigned_abs (number_at c.reduced.items v) ≤ 2 ^ 79
    reduced_low v lt =
        let n = count in
        let w : unsigned_abs (weighed (whole m) ms v) ≤ length ms * (2 ^ 40 * 2 ^ 17) = dot_low m (λ r. (whole m).coef r v) (2 ^ 17) (λ r small. small.coefs v lt) ms priced.small in
        let all : unsigned_abs (pos 16 *ℤ (whole m).cost v -ℤ weighed (whole m) ms v) ≤ 16000 + length ms * (2 ^ 40 * 2 ^ 17) = cost_low (var_cost m (var m v)) (weighed (whole m) ms v) _ (costs (var m v)) w in
        subst (λ (z : ℤ). unsigned_abs z ≤ 2 ^ 79) (sym (priced.reduced v lt)) (omega (arith, all, n))

    pub right_low : unsigned_abs c.right ≤ 2 ^ 98
    right_low =
        let n = count in
        let right : unsigned_abs (weighed_rhs (whole m) ms) ≤ length ms * (2 ^ 40 * 2 ^ 37) = dot_low m (whole m).rhs (2 ^ 37) (λ r small. small.right) ms priced.small in
        subst (λ (z : ℤ). unsigned_abs z ≤ 2 ^ 98) (sym priced.right) (omega (arith, right, n))

    le_more : (a b c : ℕ) → a ≤ b → b ≤ c → a ≤ c
    le_more a b c h k = omega arith

    value_low : unsigned_abs c.value ≤ 2 ^ 100
    value_low =
        let s : unsigned_abs (parts m b c.reduced.items) ≤ length (variables m) * 2 ^ 79 =
        sum_size (length (variables m)) (2 ^ 79) (λ v. least (at b v) (number_at c.reduced.items v)) (λ v lt. le_more _ _ _ (least_small (at b v) (number_at c.reduced.items v)) (reduced_low v lt)) in
        omega (arith, ints, s, priced.gauged.value, right_low, vars)

    pub has_room_by : HasRoom m b c
    has_room_by = record { gauged = priced.gauged; right = right_low; reduced = reduced_low; value = value_low }

  pub has_room : PricedSome m b c → HasRoom m b c
  has_room some = has_room_by some.0 some.1

-- the value is the box's worth
pub value_is : (m : Voyage) (b : Box) (ms : Multipliers Row) (c : Costs) → Priced m b ms c → c.value ≡ worth (whole m) b ms
value_is m b ms c priced =
    priced.gauged.value ∙ ap (λ (z : ℤ). z +ℤ parts m b c.reduced.items) priced.right
    ∙ ap (λ (z : ℤ). weighed_rhs (whole m) ms +ℤ z) (sum_same (length (variables m)) _ _ (λ v lt. ap (λ (z : ℤ). least (at b v) z) (priced.reduced v lt)))

-- with another value of a variable
pub worth_with : (m : Voyage) (b b' : Box) (ms : Multipliers Row) (c : Costs) → Priced m b ms c → c.right +ℤ parts m b' c.reduced.items ≡ worth (whole m) b' ms
worth_with m b b' ms c priced =
    ap (λ (z : ℤ). z +ℤ parts m b' c.reduced.items) priced.right
    ∙ ap (λ (z : ℤ). weighed_rhs (whole m) ms +ℤ z) (sum_same (length (variables m)) _ _ (λ v lt. ap (λ (z : ℤ). least (at b' v) z) (priced.reduced v lt)))

pub box_priced : (m : Voyage) (b b' : Box) (ms : Multipliers Row) (old new : Costs) → Priced m b ms old → new.reduced ≡ old.reduced → new.right ≡ old.right → new.value ≡ old.right +ℤ parts m b' old.reduced.items → Priced m b' ms new
box_priced m b b' ms old new priced reduced right value = record {
  gauged = record {
    len = ap (λ w. length w.items) reduced ∙ priced.gauged.len;
    value = value ∙ ap (λ (z : ℤ). z +ℤ parts m b' old.reduced.items) (sym right) ∙ ap (λ w. new.right +ℤ parts m b' w.items) (sym reduced);
  };
  right = right ∙ priced.right;
  reduced = λ v lt. ap (λ w. number_at w.items v) reduced ∙ priced.reduced v lt;
  small = priced.small;
}

less_sum : (c w w' z d : ℤ) → d ≡ c -ℤ w → w' ≡ w +ℤ z → d -ℤ z ≡ c -ℤ w'
less_sum c w w' z d e h = omega (arith, ints)

-- a row's multiplier is changed
pub add_priced : (m : Voyage) (b : Box) (ms : Multipliers Row) (r : Row) (by : ℤ) (n : ℕ) (old new : Costs) → Priced m b ms old → pos (amount_of same_row ms r) +ℤ by ≡ pos n → n ≤ 2 ^ 40 → IsSmall m r
    → Gauged m b new → new.right ≡ old.right +ℤ by *ℤ (whole m).rhs r
    → ((v : ℕ) → v < length (variables m) → number_at new.reduced.items v ≡ number_at old.reduced.items v -ℤ by *ℤ (whole m).coef r v) → Priced m b (with_amount same_row ms r n) new
add_priced m b ms r by n old new priced sum low small gauged right reduced = record {
  gauged = gauged;
  right = right ∙ ap (λ (z : ℤ). z +ℤ by *ℤ (whole m).rhs r) priced.right ∙ sym (dot_with ms r n by (whole m).rhs sum);
  reduced = λ v lt. reduced v lt ∙ less_sum (pos 16 *ℤ (whole m).cost v) (weighed (whole m) ms v) (weighed (whole m) (with_amount same_row ms r n) v) (by *ℤ (whole m).coef r v) (number_at old.reduced.items v) (priced.reduced v lt) (dot_with ms r n by (λ r. (whole m).coef r v) sum);
  small = small_with m ms r n small low priced.small;
}

part_more : (o : Option Bool) (d a : ℤ) → least o (d -ℤ a) ≡ least o d +ℤ gap o d a
part_more o d a = omega (arith, ints)

-- a row's multiplier raised by so much makes the box worth so much more
pub gain_is : (m : Voyage) (b : Box) (ms : Multipliers Row) (r : Row) (more : ℕ) (c : Costs) (gain : ℤ) → Priced m b ms c
    → gain ≡ pos more *ℤ (whole m).rhs r +ℤ gaps_of m b c.reduced.items r (pos more) → Gains m b ms r more gain
gain_is m b ms r more c gain priced is =
    let n : ℕ = amount_of same_row ms r + more in
    let ms' : Multipliers Row = with_amount same_row ms r n in
    let sum : pos (amount_of same_row ms r) +ℤ pos more ≡ pos n = omega (arith, ints) in
    let right : weighed_rhs (whole m) ms' ≡ weighed_rhs (whole m) ms +ℤ pos more *ℤ (whole m).rhs r = dot_with ms r n (pos more) (whole m).rhs sum in
    let each : sum_to (length (variables m)) (λ v. least (at b v) (pos 16 *ℤ (whole m).cost v -ℤ weighed (whole m) ms' v)) ≡ parts m b c.reduced.items +ℤ gaps_of m b c.reduced.items r (pos more) =
    sum_more (length (variables m)) (λ v. least (at b v) (number_at c.reduced.items v)) (λ v. gap (at b v) (number_at c.reduced.items v) (pos more *ℤ (whole m).coef r v)) _
    (λ v lt. ap (λ (z : ℤ). least (at b v) z) (sym (less_sum (pos 16 *ℤ (whole m).cost v) (weighed (whole m) ms v) (weighed (whole m) ms' v) (pos more *ℤ (whole m).coef r v) (number_at c.reduced.items v) (priced.reduced v lt) (dot_with ms r n (pos more) (λ r. (whole m).coef r v) sum)))
    ∙ part_more (at b v) (number_at c.reduced.items v) (pos more *ℤ (whole m).coef r v)) in
    omega (arith, ints, right, each, is, value_is m b ms c priced, priced.gauged.value, priced.right)
