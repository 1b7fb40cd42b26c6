-- How wide coefficients are, and slacks in the free box.
use Rattle.std.proofs.Common.{◌≡◌, ⊎_elim, ℕ, zero, suc, ◌<◌, ◌≤◌, ◌*◌, ◌^◌, ◌==◌, Bool, true, false, cond, [], Option, Some, None, length, replicate, ℤ, pos, ◌≤ℤ◌, refl, sym, ◌∙◌, ap, subst, arith}
use Rattle.std.specs.Int.RustNames.{unsigned_abs}
use borrow.Author.Differences.{ints}
use Rattle.std.proofs.lemmas.Bool.{both_ways}
use Rattle.std.proofs.Math.ListN.{get_or-replicate}
use Rattle.row_matrix.proofs.Summing.{sum_size, sum_same}
use Rattle.stow_data.specs.Profile.{IsShip}
use Rattle.stow_data.specs.Shipment.{IsCargo}
use Rattle.proof_trees.specs.Program.{sum_to}
use Rattle.proof_trees.specs.Boxes.{at, free_box, greatest, most}
use Rattle.zero_one_rows.specs.declared.program.Var.{Var}
use Rattle.zero_one_rows.specs.declared.program.Row.{Row}
use Rattle.zero_one_rows.specs.declared.program.Row.TheVariants.{Flow, Start, Cell, Support, Twenty, Block, Hatch, Weight, Apart, Cross}
use Rattle.zero_one_rows.specs.Listed.{ListsVariables}
use Rattle.zero_one_rows.specs.Ranges.{HasSmallCoefficients, HasSmallRightSides}
use Rattle.zero_one_rows.specs.Variables.{Voyage, variables, var, kind}
use Rattle.zero_one_rows.specs.Rows.{coef, has, is_base, whole, half}
use Rattle.row_sums.specs.declared.sums.Sum.TheVariants as sum
use Rattle.row_sums.specs.declared.sums.Sign.{Sign}
use Rattle.row_sums.specs.declared.sums.Sign.TheVariants.{Plus, Minus}
use Rattle.row_sums.specs.declared.sums.Part.{Part}
use Rattle.row_sums.specs.Sums.{parts, holds, counts, signed}
use Rattle.row_sums.specs.Laws.{HasParts, AreSums, ShareNone}
use Rattle.row_sums.specs.declared.numbering.Numbering.{Numbering}
use Rattle.row_matrix.specs.Terms.{IsSmall}
use Rattle.row_matrix.specs.Counted.{weight_of}
use Rattle.row_matrix.specs.Margins.{top_by}
use Rattle.row_matrix.specs.Parted.{loses_at, IsPart, AreSumsOf}
use Rattle.row_matrix.proofs.Dividing.{OnParts, on_part, coef_at, coef_or}
use Rattle.row_matrix.proofs.There.{held_there}
use Rattle.row_matrix.proofs.Losing.{Laws}

-- ## Slacks are small

greatest_small : (o : Option Bool) (z : ℤ) (n : ℕ) → unsigned_abs z ≤ n → unsigned_abs (greatest o z) ≤ n
greatest_small None z n h = grind (arith, ints)
greatest_small (Some true) z n h = h
greatest_small (Some false) z n h = omega arith

pub small_is : (m : Voyage) (r : Row) → length (variables m) ≤ 200000 → IsShip m.ship → IsCargo m.cargo → HasSmallCoefficients → HasSmallRightSides → has m r ≡ true → IsSmall m r
small_is m r few rules lawful coefs sides there b =
    let right : unsigned_abs ((whole m).rhs r) ≤ 2 ^ 37 = sides m r rules lawful there in
    let top : unsigned_abs (most (whole m) b r) ≤ length (variables m) * 2 ^ 17 = sum_size (length (variables m)) (2 ^ 17) (λ v. greatest (at b v) ((whole m).coef r v)) (λ v lt. greatest_small (at b v) ((whole m).coef r v) (2 ^ 17) (coefs m r (var m v) rules lawful there)) in
    omega (arith, ints)

-- ## No coefficient passes the top

moved_one : (m : Voyage) (b : Bool) (j h : ℕ) (x : Var) → counts m (cond b (sum.LiftedFrom j (half m h)) (sum.PutInto j (half m h))) x ≤ 1
moved_one m true j h x = omega arith
moved_one m false j h x = omega arith

top_parts : (m : Voyage) (r : Row) (x : Var) (heaviest : ℕ) → (kind m x.kind).kg ≤ heaviest → OnParts (λ q. counts m q.sum x ≤ top_by r heaviest) (parts m r)
top_parts m (Flow q i g) x heaviest h = (omega arith, omega arith)
top_parts m (Start q p) x heaviest h = (omega arith, tt)
top_parts m (Cell i k) x heaviest h = (omega arith, tt)
top_parts m (Support i k) x heaviest h = (omega arith, omega arith)
top_parts m (Twenty i k) x heaviest h = (omega arith, omega arith)
top_parts m (Block j k) x heaviest h = (omega arith, omega arith)
top_parts m (Hatch w j k d) x heaviest h = (moved_one m (w == 0) j k x, omega arith)
top_parts m (Weight i k) x heaviest h = (h, tt)
top_parts m (Apart i e p q) x heaviest h = (omega arith, omega arith)
top_parts m (Cross l p c) x heaviest h = tt

signed_size : (s : Sign) (c n : ℕ) → c ≤ n → unsigned_abs (signed s (pos c)) ≤ n
signed_size Plus c n l = l
signed_size Minus c n l = grind (arith, ints)

pub top_is : (m : Voyage) (r : Row) (heaviest v : ℕ) → AreSums → ShareNone → HasParts → ListsVariables → has m r ≡ true → is_base r ≡ true → v < length (variables m) → weight_of m v ≤ heaviest → unsigned_abs ((whole m).coef r v) ≤ top_by r heaviest
top_is m r heaviest v sums share has_parts listed there base lt light = ⊎_elim
    (λ (e : coef m r (var m v) ≡ pos 0). subst (λ (y : ℤ). unsigned_abs y ≤ top_by r heaviest) (sym e) (omega arith))
    (λ (p : (q : Part) × IsPart m r q × (holds m q.sum (var m v) ≡ true)).
    subst (λ (y : ℤ). unsigned_abs y ≤ top_by r heaviest) (sym (coef_at sums share m r (var m v) there (listed m v lt).0 p.0 p.1 p.2))
    (signed_size p.0.sign (counts m p.0.sum (var m v)) (top_by r heaviest) (on_part (λ (q : Part). counts m q.sum (var m v) ≤ top_by r heaviest) m r p.0 (top_parts m r (var m v) heaviest light) p.1)))
    (coef_or sums share m r (var m v) there (listed m v lt).0 has_parts base)

-- ## A row that has no sum with plus

pub none_above : (m : Voyage) (z : Numbering) (r : Row) (v : ℕ) → Laws m z → has m r ≡ true → is_base r ≡ true → AreSumsOf m z false r [] → v < length (variables m) → (whole m).coef r v ≤ℤ pos 0
none_above m z r v laws there base of lt = ⊎_elim
    (λ (e : coef m r (var m v) ≡ pos 0). subst (λ (y : ℤ). y ≤ℤ pos 0) (sym e) (omega (arith, ints)))
    (λ (p : (q : Part) × IsPart m r q × (holds m q.sum (var m v) ≡ true)).
    subst (λ (y : ℤ). y ≤ℤ pos 0) (sym (coef_at laws.are_sums laws.share_none m r (var m v) there (laws.listed m v lt).0 p.0 p.1 p.2)) (by p.0 p.1 p.2 p.0.sign refl))
    (coef_or laws.are_sums laws.share_none m r (var m v) there (laws.listed m v lt).0 laws.has_parts base)
  where
    by : (q : Part) → IsPart m r q → holds m q.sum (var m v) ≡ true → (s : Sign) → q.sign ≡ s → signed q.sign (pos (counts m q.sum (var m v))) ≤ℤ pos 0
    by q i h Plus e =
        let t = held_there m r q (var m v) laws.names laws.rules there (laws.listed m v lt).1 i h in
        absurd (both_ways false refl (of.all q i (ap (λ (s : Sign). loses_at s false) e) t))
    by q i h Minus e = subst (λ (s : Sign). signed s (pos (counts m q.sum (var m v))) ≤ℤ pos 0) (sym e) (omega (arith, ints))

free_none : (n v : ℕ) → v < n → at (replicate n None) v ≡ None
free_none n v l = get_or-replicate n v None None l

sum_zero : (n : ℕ) → sum_to n (λ v. pos 0) ≡ pos 0
sum_zero zero = refl
sum_zero (suc n) = omega (arith, ints, sum_zero n)

greatest_low : (a : ℤ) → a ≤ℤ pos 0 → greatest None a ≡ pos 0
greatest_low a h = grind (arith, ints)

pub least_most : (m : Voyage) (r : Row) → ((v : ℕ) → v < length (variables m) → (whole m).coef r v ≤ℤ pos 0) → most (whole m) (free_box (whole m)) r ≡ pos 0
least_most m r low =
    sum_same (length (variables m)) (λ v. greatest (at (free_box (whole m)) v) ((whole m).coef r v)) (λ v. pos 0) (λ v lt. ap (λ (o : Option Bool). greatest o ((whole m).coef r v)) (free_none (length (variables m)) v lt) ∙ greatest_low ((whole m).coef r v) (low v lt))
    ∙ sum_zero (length (variables m))
