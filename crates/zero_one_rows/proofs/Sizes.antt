-- Rows that there are: their numbers are in range, and how large their coefficients and right sides are; how much a variable and a voyage cost at most.
use Rattle.std.proofs.Common.{◌≡◌, ℕ, zero, suc, ◌+◌, ◌-◌, ◌*◌, ◌<◌, ◌≤◌, ◌^◌, Bool, true, false, cond, ◌&&◌, List, [], ◌∷◌, Option, None, not, arith, refl, sym, ◌∙◌, ap, subst, length, map, max, sum, ⊎_elim}
use Rattle.std.specs.Prelude.{All, filter, slice_index_or, pos, negsuc, ◌-ℤ◌, unsigned_abs, nat_lt, nat_le}
use Rattle.std.specs.List.{fold, sum_by}
use Rattle.std.proofs.lemmas.Bool.{ltb-true, leb-true, false≢true, cases_lt}
use Rattle.std.proofs.lemmas.List.{get_or_past, map-id}
use Rattle.std.proofs.lemmas.List.Elements.{All-get_or}
use Rattle.std.proofs.lemmas.List.Sums.{count_by-le-length, sum_by-cons, sum_by-le, sum-map}
use Rattle.std.proofs.Math.IntN.{+ℤ_idl}
use Rattle.std.proofs.Math.Nat.{mul-div-le, mul-le-mul, mul-le-mul_left}
use borrow.Author.Differences.{ints}
use Rattle.zero_one_rows.specs.Chains.{rises, is_length, is_chain, pairs_of}
use Rattle.zero_one_rows.specs.Gains.{gain, greatest_to, best_gain}
use Rattle.zero_one_rows.specs.RightSide.{right_side}
use Rattle.zero_one_rows.proofs.Signed.{unsigned_side}
use Rattle.zero_one_rows.proofs.Pairs.{pairs_long}
use Rattle.proof_trees.specs.Program.{where_set}
use Rattle.stow_data.specs.declared.geometry.Length.{Length}
use Rattle.stow_data.specs.declared.geometry.Stack.{Stack}
use Rattle.stow_data.specs.declared.cargoes.Container.{Container}
use Rattle.stow_data.specs.declared.kind_list.Kind.{Kind}
use Rattle.stow_data.specs.Ship.{Ship, halves, places}
use Rattle.stow_data.specs.Profile.{IsShip, IsStack}
use Rattle.stow_data.specs.Shipment.{Cargo, IsCargo, price, most_cost}
use Rattle.stow_data.specs.Plans.{no_stack}
use Rattle.stow_data.specs.Kinds.{rounded, first_ones, of_one_kind, kind_among, kind_number}
use Rattle.stow_data.proofs.KindLemmas.{loads_few}
use Rattle.stow_data.proofs.Prices.{sum_low as tariff_low}
use Rattle.stow_data.proofs.Members.{map_at}
use Rattle.stow_data.proofs.Distinct.{Each, each_at, each_from}
use Rattle.zero_one_rows.specs.declared.program.Var.{Var}
use Rattle.zero_one_rows.specs.declared.program.Row.{Row}
use Rattle.zero_one_rows.specs.declared.program.Row.TheVariants.{Flow, Start, Cell, Support, Twenty, Block, Hatch, Weight, Apart, Cross}
use Rattle.zero_one_rows.specs.Variables.{Voyage, calls, all_kinds, kind, no_kind, is_rehandled, var_cost}
use Rattle.zero_one_rows.specs.Crossing.{columns_in, columns, tiers_for, tallest, length_of, is_length as is_foot, is_of_load, load_of, is_crossing}
use Rattle.zero_one_rows.specs.Rows.{stack, bit, turned, coef, rhs, has, is_filled}
use Rattle.zero_one_rows.specs.Ranges.{InRange}
use Rattle.zero_one_rows.proofs.VariableList.{filter_at, get_member}
use Rattle.zero_one_rows.proofs.FewColumns.{few_tiers, columns_few}

first_true : (a b : Bool) → (a && b) ≡ true → a ≡ true
first_true true b h = refl
first_true false b h = h

second_true : (a b : Bool) → (a && b) ≡ true → b ≡ true
second_true true b h = h
second_true false b h = absurd (false≢true h)

-- ## Ranges

tiers_low : (long : Length) (s : Stack) → IsStack s → tiers_for long s ≤ 39
tiers_low long s is = go (nat_lt 0 (columns_in long s.lengths))
  where
    go : (b : Bool) → cond b s.tiers 0 ≤ 39
    go true = few_tiers s is
    go false = omega arith

fold_low : (long : Length) (a : ℕ) (ss : List Stack) → a ≤ 39 → All IsStack ss → fold (λ t s. max t (tiers_for long s)) a ss ≤ 39
fold_low long a [] l h = l
fold_low long a (s ∷ ss) l h = fold_low long (max a (tiers_for long s)) ss (let t = tiers_low long s (h 0 s (omega arith)) in grind (arith, t, l)) (λ k d lt. h (suc k) d (omega arith))

tallest_low : (ship : Ship) (long : Length) → IsShip ship → tallest ship long ≤ 39
tallest_low ship long rules = fold_low long 0 ship.stacks (omega arith) rules.each_stack

filled_in : (xs : List (Option ℕ)) (p : ℕ) → is_filled (slice_index_or xs p None) ≡ true → p < length xs
filled_in xs p h = ⊎_elim (λ (l : p < length xs). l)
    (λ (l : length xs ≤ p). absurd (false≢true (ap is_filled (sym (get_or_past xs p None l)) ∙ h)))
    (cases_lt p (length xs))

last_two : (a b d e f : Bool) → (a && (b && (d && (e && f)))) ≡ true → (e ≡ true) × (f ≡ true)
last_two true true true e f h = (first_true e f h, second_true e f h)
last_two true true false e f h = absurd (false≢true h)
last_two true false d e f h = absurd (false≢true h)
last_two false b d e f h = absurd (false≢true h)

price_and_chain : (m : Voyage) (l p : ℕ) (c : List ℕ) → is_crossing m l p c ≡ true → (nat_le p (tallest m.ship (length_of l)) ≡ true) × (is_chain (calls m) c ≡ true)
price_and_chain m l p c h = last_two (is_foot l) (nat_lt 0 (columns m.ship (length_of l))) (nat_lt 0 p) (nat_le p (tallest m.ship (length_of l))) (is_chain (calls m) c) h

pub in_range : (m : Voyage) (r : Row) → IsShip m.ship → has m r ≡ true → InRange m r
in_range m (Flow q i g) rules h = ltb-true g (length (all_kinds m)) (first_true _ _ (second_true _ _ (second_true _ _ h)))
in_range m (Start q p) rules h = filled_in m.cargo.arrival p (second_true _ _ h)
in_range m (Cell i k) rules h = ltb-true k (length (halves m.ship)) (second_true _ _ h)
in_range m (Support i k) rules h = ltb-true k (length (halves m.ship)) (first_true _ _ (second_true _ _ h))
in_range m (Twenty i k) rules h = ltb-true k (length (halves m.ship)) (first_true _ _ (second_true _ _ h))
in_range m (Block j k) rules h = ltb-true k (length (halves m.ship)) (first_true _ _ (second_true _ _ h))
in_range m (Hatch w j k d) rules h =
    let a = second_true _ _ (second_true _ _ h) in (ltb-true k (length (halves m.ship)) (first_true _ _ a), ltb-true d (length (halves m.ship)) (first_true _ _ (second_true _ _ a)))
in_range m (Weight i k) rules h = ltb-true k (length m.ship.stacks) (second_true _ _ h)
in_range m (Apart i e p q) rules h =
    let a = second_true _ _ h in
    let b = second_true _ _ a in
    (ltb-true e (length m.ship.separations) (first_true _ _ a), ltb-true p (length (places m.ship)) (first_true _ _ b), ltb-true q (length (places m.ship)) (first_true _ _ (second_true _ _ b)))
in_range m (Cross l p c) rules h =
    let a = (price_and_chain m l p c h).0 in
    let b : p ≤ tallest m.ship (length_of l) = leb-true p (tallest m.ship (length_of l)) a in
    let t = tallest_low m.ship (length_of l) rules in
    omega (arith, b, t)

-- ## Coefficients

small_bits : (a b : Bool) → unsigned_abs (bit a -ℤ bit b) ≤ 2 ^ 17
small_bits true true = omega arith
small_bits true false = omega arith
small_bits false true = omega arith
small_bits false false = omega arith

small_bit : (a : Bool) → unsigned_abs (bit a) ≤ 2 ^ 17
small_bit true = omega arith
small_bit false = omega arith

small_turned : (q : ℕ) (a b : Bool) → unsigned_abs (turned q (bit a -ℤ bit b)) ≤ 2 ^ 17
small_turned zero a b = small_bits a b
small_turned (suc q) true true = omega arith
small_turned (suc q) true false = omega arith
small_turned (suc q) false true = omega arith
small_turned (suc q) false false = omega arith

turned_bit : (q : ℕ) (a : Bool) → unsigned_abs (turned q (bit a)) ≤ 2 ^ 17
turned_bit zero a = small_bit a
turned_bit (suc q) true = omega arith
turned_bit (suc q) false = omega arith

small_less : (a : Bool) → unsigned_abs (pos 0 -ℤ bit a) ≤ 2 ^ 17
small_less true = omega arith
small_less false = omega arith

small_both : (a b : Bool) → unsigned_abs ((pos 0 -ℤ bit a) -ℤ bit b) ≤ 2 ^ 17
small_both true true = omega arith
small_both true false = omega arith
small_both false true = omega arith
small_both false false = omega arith

small_number : (n k : ℕ) → n ≤ k → unsigned_abs (pos 0 -ℤ pos n) ≤ k
small_number zero k l = omega arith
small_number (suc n) k l = let e : pos 0 -ℤ pos (suc n) ≡ negsuc n = +ℤ_idl (negsuc n) in rw e (omega arith)

small_weight : (b : Bool) (n : ℕ) → n ≤ 2 ^ 17 → unsigned_abs (pos 0 -ℤ where_set b (pos n)) ≤ 2 ^ 17
small_weight true n l = small_number n (2 ^ 17) l
small_weight false n l = omega arith

-- the first ones of a list stand in it
firsts_each : {X : Type 0} (P : X → Type 0) (like : X → X → Bool) (xs : List X) → Each P xs → Each P (first_ones like xs)
firsts_each P like [] h = tt
firsts_each {X} P like (x ∷ xs) h = (h.0, each_from P (filter (λ y. not (like x y)) (first_ones like xs)) (λ y n. each_at P (first_ones like xs) y (firsts_each P like xs h.1) (filter_at (λ z. not (like x z)) (first_ones like xs) y n).0))

light : (cs : List Container) → ((k : ℕ) (d : Container) → k < length cs → (slice_index_or cs k d).kg ≤ 99999) → Each (λ (c : Container). c.kg ≤ 99999) cs
light [] h = tt
light (c ∷ cs) h = (h 0 c (omega arith), light cs (λ k d l. h (suc k) d (omega arith)))

rounded_low : (step kg : ℕ) → step ≤ 10000 → kg ≤ 99999 → rounded step kg ≤ 2 ^ 17
rounded_low step kg s k = let d = mul-div-le (kg + step - 1) step in omega (arith, d, s, k)

kg_low : (m : Voyage) → IsShip m.ship → IsCargo m.cargo → (g : ℕ) → (kind m g).kg ≤ 2 ^ 17
kg_low m rules lawful g = ⊎_elim
    (λ (l : g < length (all_kinds m)).
    let a = map_at (kind_among m.ship.weight_step m.cargo.containers) (first_ones (of_one_kind m.ship.weight_step) m.cargo.containers) (kind m g) (get_member (all_kinds m) g no_kind l) in
    let each = firsts_each (λ (c : Container). c.kg ≤ 99999) (of_one_kind m.ship.weight_step) m.cargo.containers (light m.cargo.containers (λ k d lt. (lawful.each_shipped k d lt).kg_to)) in
    let kg : a.0.kg ≤ 99999 = each_at (λ (c : Container). c.kg ≤ 99999) _ a.0 each a.1 in
    subst (λ (k : Kind). k.kg ≤ 2 ^ 17) (sym a.2) (rounded_low m.ship.weight_step a.0.kg rules.step_to kg))
    (λ (l : length (all_kinds m) ≤ g). subst (λ (k : Kind). k.kg ≤ 2 ^ 17) (sym (get_or_past (all_kinds m) g no_kind l)) (let z : 0 ≤ 2 ^ 17 = omega arith in z))
    (cases_lt g (length (all_kinds m)))

pub coefficient_small : (m : Voyage) (r : Row) (x : Var) → IsShip m.ship → IsCargo m.cargo → has m r ≡ true → unsigned_abs (coef m r x) ≤ 2 ^ 17
coefficient_small m (Flow q i g) x rules lawful h = small_turned q _ _
coefficient_small m (Start q p) x rules lawful h = turned_bit q _
coefficient_small m (Cell i k) x rules lawful h = small_less _
coefficient_small m (Support i k) x rules lawful h = small_bits _ _
coefficient_small m (Twenty i k) x rules lawful h = small_bits _ _
coefficient_small m (Block j k) x rules lawful h = small_both _ _
coefficient_small m (Hatch w j k d) x rules lawful h = small_both _ _
coefficient_small m (Weight i k) x rules lawful h = small_weight _ (kind m x.kind).kg (kg_low m rules lawful x.kind)
coefficient_small m (Apart i e p q) x rules lawful h = small_both _ _
coefficient_small m (Cross l p c) x rules lawful h = small_bit _

-- ## Right sides

turned_number : (q n : ℕ) → n < 2 ^ 32 → unsigned_abs (turned q (pos n)) ≤ 2 ^ 37
turned_number zero n l = omega arith
turned_number (suc q) n l = small_number n (2 ^ 37) (omega arith)

rises_long : (low end : ℕ) (c : List ℕ) → rises low end c ≡ true → length c ≤ end - low
rises_long low end [] h = omega arith
rises_long low end (x ∷ xs) h =
    let a = leb-true low x (first_true _ _ h) in
    let b = ltb-true x end (first_true _ _ (second_true _ _ h)) in
    let rest = rises_long (suc x) end xs (second_true _ _ (second_true _ _ h)) in
    omega (arith, a, b, rest)

gain_low : (n height price load : ℕ) → greatest_to n (gain height price load) ≤ load
gain_low zero height price load = grind arith
gain_low (suc n) height price load = let r = gain_low n height price load in let g : gain height price load (suc n) ≤ load = grind arith in grind (arith, r, g)

sum_is : (ts : List ℕ) → sum ts ≡ sum_by (λ t. t) ts
sum_is ts = ap sum (sym (map-id ts)) ∙ sum-map (λ (t : ℕ). t) ts

gains_by : (n height price : ℕ) (ts : List ℕ) → sum_by (best_gain n height price) ts ≤ sum_by (λ t. t) ts
gains_by n height price [] = omega arith
gains_by n height price (t ∷ ts) = omega (arith, gains_by n height price ts, gain_low n height price t, sum_by-cons (best_gain n height price) t ts, sum_by-cons (λ (k : ℕ). k) t ts)

gains_low : (n height price : ℕ) (ts : List ℕ) → sum_by (best_gain n height price) ts ≤ sum ts
gains_low n height price ts = omega (arith, gains_by n height price ts, sum_is ts)

sum_low : (f : ℕ × ℕ → ℕ) (most : ℕ) (ps : List (ℕ × ℕ)) → ((p : ℕ × ℕ) → f p ≤ most) → sum (map f ps) ≤ length ps * most
sum_low f most ps h = omega (arith, sum-map f ps, sum_by-le f most ps (λ k d l. h (slice_index_or ps k d)))

difference_low : (a b k : ℕ) → a ≤ k → b ≤ k → unsigned_abs (pos a -ℤ pos b) ≤ k
difference_low a b k l m = grind (arith, ints)

cross_small : (loads : List ℕ) (n height price : ℕ) → sum loads ≤ 2 ^ 35 → n ≤ 3000 → price ≤ 39 → unsigned_abs (right_side loads n height price) ≤ 2 ^ 37
cross_small loads n height price s c p =
    let cost : price * n ≤ 39 * 3000 = mul-le-mul p c in
    let kept = gains_low n height price loads in
    let low = difference_low (sum loads) (price * n + sum_by (best_gain n height price) loads) (2 ^ 37) (omega (arith, s)) (omega (arith, cost, kept, s)) in
    rw (unsigned_side loads n height price) low

pub right_small : (m : Voyage) (r : Row) → IsShip m.ship → IsCargo m.cargo → has m r ≡ true → unsigned_abs (rhs m r) ≤ 2 ^ 37
right_small m (Flow q i g) rules lawful h = turned_number q _ (let few = loads_few i g m.cargo.containers (map (kind_number m.ship.weight_step m.cargo.containers) m.cargo.containers) in omega (arith, few, lawful.few_containers))
right_small m (Start q p) rules lawful h = turned_number q 1 (omega arith)
right_small m (Cell i k) rules lawful h = omega arith
right_small m (Support i k) rules lawful h = omega arith
right_small m (Twenty i k) rules lawful h = omega arith
right_small m (Block j k) rules lawful h = omega arith
right_small m (Hatch w j k d) rules lawful h = omega arith
right_small m (Weight i k) rules lawful h =
    let l : k < length m.ship.stacks = ltb-true k (length m.ship.stacks) (second_true _ _ h) in
    let most = (rules.each_stack k no_stack l).limit_to in
    small_number (stack m k).limit_kg (2 ^ 37) (omega (arith, most))
right_small m (Apart i e p q) rules lawful h = omega arith
right_small m (Cross l p c) rules lawful h =
    let chain = (price_and_chain m l p c h).1 in
    let long : length c ≤ calls m + 1 - 0 = rises_long 0 (calls m + 1) c (first_true (rises 0 (calls m + 1) c) (is_length (length c)) chain) in
    let few : length (pairs_of c) ≤ 6 = omega (arith, long, pairs_long c, lawful.calls_to) in
    let each : (p : ℕ × ℕ) → load_of m (length_of l) p.0 p.1 ≤ 2 ^ 32 = λ p. let n = count_by-le-length (is_of_load (length_of l) p.0 p.1) m.cargo.containers in omega (arith, n, lawful.few_containers) in
    let total = sum_low (λ p. load_of m (length_of l) p.0 p.1) (2 ^ 32) (pairs_of c) each in
    let pairs : length (pairs_of c) * 2 ^ 32 ≤ 6 * 2 ^ 32 = omega (arith, few) in
    cross_small (map (λ p. load_of m (length_of l) p.0 p.1) (pairs_of c)) (columns m.ship (length_of l)) (tallest m.ship (length_of l)) p (omega (arith, total, pairs)) (columns_few m.ship (length_of l) rules) (in_range m (Cross l p c) rules h)

price_small : (cargo : Cargo) (call : ℕ) → IsCargo cargo → price cargo call ≤ 1000
price_small cargo zero lawful = omega arith
price_small cargo (suc i) lawful = ⊎_elim
    (λ (l : i < length cargo.tariff). All-get_or (λ (p : ℕ). p ≤ 1000) cargo.tariff i 0 l lawful.prices_to)
    (λ (l : length cargo.tariff ≤ i). subst (λ (p : ℕ). p ≤ 1000) (sym (get_or_past cargo.tariff i 0 l)) (omega arith))
    (cases_lt i (length cargo.tariff))

cond_small : (b : Bool) (n k : ℕ) → n ≤ k → cond b n 0 ≤ k
cond_small true n k h = h
cond_small false n k h = omega arith

pub cost_small : (m : Voyage) (x : Var) → IsCargo m.cargo → var_cost m x ≤ 1000
cost_small m x lawful = cond_small (is_rehandled m x) (price m.cargo x.lifted) 1000 (price_small m.cargo x.lifted lawful)

pub most_cost_low : (cargo : Cargo) → IsCargo cargo → most_cost cargo < 2 ^ 34
most_cost_low cargo lawful = omega (arith, mul-le-mul_left (length cargo.containers) (tariff_low cargo lawful), lawful.few_containers)
