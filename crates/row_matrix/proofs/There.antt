-- The sums of rows are there.
use Rattle.std.proofs.Common.{◌≡◌, ℕ, zero, suc, ◌<◌, ◌≤◌, ◌+◌, ◌*◌, Bool, true, false, cond, ◌&&◌, ◌==◌, List, [], ◌∷◌, length, refl, sym, ap, subst, arith}
use Rattle.std.specs.Prelude.{nat_eq, nat_lt, slice_index_or}
use Rattle.std.specs.Cmp.Lexicographic.{pointwise}
use Rattle.std.proofs.lemmas.Bool.{both_ways, eqb-true, ltb-true}
use Rattle.std.proofs.lemmas.Option.{slice_get-get_or, slice_get_within, get_or_from_slice_get}
use Rattle.stow_data.specs.declared.geometry.Half.{Half}
use Rattle.stow_data.specs.declared.geometry.Stack.{Stack}
use Rattle.stow_data.specs.declared.geometry.Separation.{Separation}
use Rattle.stow_data.specs.Ship.{halves, places}
use Rattle.stow_data.specs.Profile.{IsShip}
use Rattle.stow_data.specs.Plans.{no_half, no_stack}
use Rattle.stow_data.proofs.Listed.{half_from}
use Rattle.zero_one_rows.specs.declared.program.Var.{Var}
use Rattle.zero_one_rows.specs.declared.program.Row.{Row}
use Rattle.zero_one_rows.specs.declared.program.Row.TheVariants.{Flow, Start, Cell, Support, Twenty, Block, Hatch, Weight, Apart, Cross}
use Rattle.zero_one_rows.specs.Listed.{IsNamed}
use Rattle.zero_one_rows.specs.Variables.{Voyage, calls}
use Rattle.zero_one_rows.specs.Ranges.{NamesWhatIsThere}
use Rattle.zero_one_rows.specs.Rows.{has, half, stack, above, below, separation, is_call}
use Rattle.row_sums.specs.declared.sums.Sum.TheVariants as sum
use Rattle.row_sums.specs.declared.sums.Part.{Part}
use Rattle.row_sums.specs.Sums.{parts, holds, class_names, class_number, number_in}
use Rattle.row_sums.proofs.Excluding.{left_true, right_true}
use Rattle.row_sums.proofs.Names.{first_class, second_class, first_named, second_named}
use Rattle.row_sums.specs.Numbers.{IsCell, IsClass, IsThere}
use Rattle.row_matrix.specs.Parted.{IsPart, NamesPlace}
use Rattle.row_matrix.proofs.Dividing.{OnParts, on_part}

-- half-cells are cells of their stacks
cell_of : (m : Voyage) (h : ℕ) → h < length (halves m.ship) → IsCell m (half m h)
cell_of m h l =
    let from = half_from m.ship h (half m h) (slice_get-get_or (halves m.ship) h no_half l) in
    let same : stack m (half m h).stack ≡ from.stack_at = get_or_from_slice_get m.ship.stacks (half m h).stack from.stack_at no_stack from.is_stack in
    record {
      stack_in = slice_get_within m.ship.stacks (half m h).stack from.stack_at from.is_stack;
      tier_in = subst (λ (s : Stack). (half m h).tier < s.tiers) (sym same) from.low;
    }

below_cell : (m : Voyage) (h : Half) → IsCell m h → IsCell m (below h)
below_cell m h c = let t = c.tier_in in record { stack_in = c.stack_in; tier_in = omega (arith, t) }

above_cell : (m : Voyage) (h : Half) → IsCell m h → h.tier + 1 < (stack m h.stack).tiers → IsCell m (above h)
above_cell m h c l = record { stack_in = c.stack_in; tier_in = l }

-- classes are numbered by their first names
names_length : (es : List Separation) → length (class_names es) ≡ 2 * length es
names_length [] = refl
names_length (e ∷ es) = omega (arith, names_length es)

number_low : (xs : List (List ℕ)) (c : List ℕ) (i : ℕ) → i < length xs → slice_index_or xs i [] ≡ c → number_in xs c < length xs
number_low [] c i l e = absurd (omega arith)
number_low (x ∷ xs) c zero l e = first (pointwise nat_eq x c) (subst (λ (y : List ℕ). pointwise nat_eq x y ≡ true) e (itself x))
  where
    itself : (ys : List ℕ) → pointwise nat_eq ys ys ≡ true
    itself [] = refl
    itself (y ∷ ys) = go (nat_eq y y) (grind arith) (itself ys)
      where
        go : (b : Bool) → b ≡ true → pointwise nat_eq ys ys ≡ true → (b && pointwise nat_eq ys ys) ≡ true
        go true e h = h
        go false e h = absurd (both_ways false refl e)

    first : (b : Bool) → b ≡ true → cond b 0 (suc (number_in xs c)) < suc (length xs)
    first true h = omega arith
    first false h = absurd (both_ways false refl h)
number_low (x ∷ xs) c (suc i) l e = later (pointwise nat_eq x c) (number_low xs c i (omega arith) e)
  where
    later : (b : Bool) → number_in xs c < length xs → cond b 0 (suc (number_in xs c)) < suc (length xs)
    later true h = omega arith
    later false h = omega (arith, h)

first_is : (m : Voyage) (e : ℕ) → e < length m.ship.separations → IsClass m (class_number m.ship (separation m e).a)
first_is m e l =
    let f = first_class m.ship.separations e l in
    let low = number_low (class_names m.ship.separations) (separation m e).a f.0 f.1 f.2 in
    record { low = omega (arith, low, names_length m.ship.separations); is_first = ap (class_number m.ship) (first_named m.ship.separations e l) }

second_is : (m : Voyage) (e : ℕ) → e < length m.ship.separations → IsClass m (class_number m.ship (separation m e).b)
second_is m e l =
    let f = second_class m.ship.separations e l in
    let low = number_low (class_names m.ship.separations) (separation m e).b f.0 f.1 f.2 in
    record { low = omega (arith, low, names_length m.ship.separations); is_first = ap (class_number m.ship) (second_named m.ship.separations e l) }

call_in : (m : Voyage) (i : ℕ) → is_call m i ≡ true → i ≤ calls m
call_in m i h = let l = ltb-true i (calls m) (right_true (nat_lt 0 i) (nat_lt i (calls m)) h) in omega (arith, l)

moved_there : (m : Voyage) (b : Bool) (j : ℕ) (h : Half) → j ≤ calls m → IsCell m h → IsThere m (cond b (sum.LiftedFrom j h) (sum.PutInto j h))
moved_there m true j h c k = record { call_in = c; item_in = k }
moved_there m false j h c k = record { call_in = c; item_in = k }

there_by : (m : Voyage) (r : Row) → NamesWhatIsThere → IsShip m.ship → has m r ≡ true → NamesPlace m.ship r → OnParts (λ q. IsThere m q.sum) (parts m r)
there_by m (Flow q i g) names rules h p =
    let c = call_in m i (left_true (is_call m i) _ (right_true (nat_lt q 2) _ h)) in
    let k = names m (Flow q i g) rules h in
    (record { call_in = c; item_in = k }, record { call_in = c; item_in = k })
there_by m (Start q a) names rules h p = (record { call_in = omega arith; item_in = p }, tt)
there_by m (Cell i k) names rules h p =
    let c = call_in m i (left_true (is_call m i) _ h) in
    (record { call_in = c; item_in = cell_of m k (names m (Cell i k) rules h) }, tt)
there_by m (Support i k) names rules h p =
    let c = call_in m i (left_true (is_call m i) _ h) in
    let l = cell_of m k (names m (Support i k) rules h) in
    (record { call_in = c; item_in = below_cell m (half m k) l }, record { call_in = c; item_in = l })
there_by m (Twenty i k) names rules h p =
    let c = call_in m i (left_true (is_call m i) _ h) in
    let l = cell_of m k (names m (Twenty i k) rules h) in
    (record { call_in = c; item_in = below_cell m (half m k) l }, record { call_in = c; item_in = l })
there_by m (Block j k) names rules h p =
    let c = call_in m j (left_true (is_call m j) _ h) in
    let l = cell_of m k (names m (Block j k) rules h) in
    let t = ltb-true ((half m k).tier + 1) (stack m (half m k).stack).tiers (right_true (nat_lt k (length (halves m.ship))) _ (right_true (is_call m j) _ h)) in
    (record { call_in = c; item_in = l }, record { call_in = c; item_in = above_cell m (half m k) l t })
there_by m (Hatch w j k d) names rules h p =
    let c = call_in m j (left_true (is_call m j) _ (right_true (nat_lt w 2) _ h)) in
    let n = names m (Hatch w j k d) rules h in
    (moved_there m (w == 0) j (half m k) c (cell_of m k n.0), record { call_in = c; item_in = cell_of m d n.1 })
there_by m (Weight i k) names rules h p = (record { call_in = call_in m i (left_true (is_call m i) _ h); item_in = names m (Weight i k) rules h }, tt)
there_by m (Apart i e a b) names rules h p =
    let c = call_in m i (left_true (is_call m i) _ h) in
    let n = names m (Apart i e a b) rules h in
    (record { call_in = c; item_in = (n.1, first_is m e n.0) }, record { call_in = c; item_in = (n.2, second_is m e n.0) })
there_by m (Cross l a c) names rules h p = tt

pub there : (m : Voyage) (r : Row) (q : Part) → NamesWhatIsThere → IsShip m.ship → has m r ≡ true → NamesPlace m.ship r → IsPart m r q → IsThere m q.sum
there m r q names rules h p i = on_part (λ (q : Part). IsThere m q.sum) m r q (there_by m r names rules h p) i

-- where one holds a variable, the row's place is the ship's
place_by : (m : Voyage) (r : Row) (x : Var) → IsNamed m x → OnParts (λ q. holds m q.sum x ≡ true → NamesPlace m.ship r) (parts m r)
place_by m (Flow q i g) x n = (λ h. tt, λ h. tt)
place_by m (Start q p) x n = (
  λ h.
      let e : x.place ≡ p = eqb-true x.place p (right_true (x.put == 0) (x.place == p) h) in
      let l = n.place in
      subst (λ (a : ℕ). a < length (places m.ship)) e l,
  tt,
)
place_by m (Cell i k) x n = (λ h. tt, tt)
place_by m (Support i k) x n = (λ h. tt, λ h. tt)
place_by m (Twenty i k) x n = (λ h. tt, λ h. tt)
place_by m (Block j k) x n = (λ h. tt, λ h. tt)
place_by m (Hatch w j k d) x n = (λ h. tt, λ h. tt)
place_by m (Weight i k) x n = (λ h. tt, tt)
place_by m (Apart i e a b) x n = (λ h. tt, λ h. tt)
place_by m (Cross l a c) x n = tt

pub held_there : (m : Voyage) (r : Row) (q : Part) (x : Var) → NamesWhatIsThere → IsShip m.ship → has m r ≡ true → IsNamed m x → IsPart m r q → holds m q.sum x ≡ true → IsThere m q.sum
held_there m r q x names rules h n i held = there m r q names rules h (on_part (λ (q : Part). holds m q.sum x ≡ true → NamesPlace m.ship r) m r q (place_by m r x n) i held) i

-- a row of a place that isn't the ship's has no sum that is there
placed_by : (m : Voyage) (r : Row) → OnParts (λ q. IsThere m q.sum → NamesPlace m.ship r) (parts m r)
placed_by m (Flow q i g) = (λ h. tt, λ h. tt)
placed_by m (Start q p) = (λ h. h.item_in, tt)
placed_by m (Cell i k) = (λ h. tt, tt)
placed_by m (Support i k) = (λ h. tt, λ h. tt)
placed_by m (Twenty i k) = (λ h. tt, λ h. tt)
placed_by m (Block j k) = (λ h. tt, λ h. tt)
placed_by m (Hatch w j k d) = (λ h. tt, λ h. tt)
placed_by m (Weight i k) = (λ h. tt, tt)
placed_by m (Apart i e a b) = (λ h. tt, λ h. tt)
placed_by m (Cross l a c) = tt

pub placed : (m : Voyage) (r : Row) (q : Part) → IsPart m r q → IsThere m q.sum → NamesPlace m.ship r
placed m r q i t = on_part (λ (q : Part). IsThere m q.sum → NamesPlace m.ship r) m r q (placed_by m r) i t
