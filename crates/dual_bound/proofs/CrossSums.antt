-- The gain of a crossing row is the sum over the pairs of its chain, less the price of all columns.
use Rattle.std.proofs.Common.{◌≡◌, ℕ, zero, suc, ◌+◌, ◌*◌, ◌<◌, ◌≤◌, ◌/◌, ◌%◌, Bool, true, false, ◌&&◌, ◌||◌, List, [], ◌∷◌, length, map, take, drop, ltb, leb, ℤ, pos, ◌+ℤ◌, ◌-ℤ◌, ◌*ℤ◌, arith, refl, ◌∙◌, get_or, sum}
use Rattle.std.specs.Prelude.{◌==◌}
use Rattle.std.specs.List.{list_any, zip}
use borrow.Author.Differences.{ints}
use Rattle.std.proofs.lemmas.Bool.{and_parts, ltb-true, leb-true, eqb-true}
use Rattle.std.proofs.lemmas.Bool.Decides.{nat_tests}
use Rattle.std.proofs.lemmas.List.Sums.{sum_by-cons}
use Rattle.proof_trees.specs.Program.{sum_to}
use Rattle.proof_trees.specs.Boxes.{Box, at}
use Rattle.zero_one_rows.specs.Chains.{rises, is_length, is_chain, pairs_of}
use Rattle.zero_one_rows.specs.RightSide.{right_side, all_kept_out, kept_out}
use Rattle.stow_data.specs.Ship.{same_length}
use Rattle.zero_one_rows.specs.declared.program.Row.TheVariants.{Cross}
use Rattle.zero_one_rows.specs.Variables.{Voyage, calls, kind, variables, var, is_rehandled}
use Rattle.zero_one_rows.specs.Crossing.{columns, tallest, length_of, load_of, crosses, crossing_side}
use Rattle.zero_one_rows.specs.Rows.{bit}
use Rattle.crossing_pricing.specs.Gaps.{number_at, gap}
use Rattle.dual_bound.specs.Costs.{gaps_of}
use Rattle.crossing_pricing.specs.Pairs.{price_of_all}
use Rattle.crossing_pricing.specs.Climbs.{over_pairs, Climb}
use Rattle.dual_bound.specs.CrossGains.{gain_of, pair_gain}
use Rattle.dual_bound.proofs.Summing.{sum_same, sum_more}
use Rattle.dual_bound.proofs.Pricing.{gap_none}

-- ## The pairs of a chain climb

abbrev Rise : ℕ → ℕ → List ℕ → Type 0
Rise low end [] = Unit {0}
Rise low end (x ∷ xs) = (low ≤ x) × (x < end) × Rise (suc x) end xs

rise_of : (low end : ℕ) (xs : List ℕ) → rises low end xs ≡ true → Rise low end xs
rise_of low end [] h = tt
rise_of low end (x ∷ xs) h =
    let p = and_parts (leb low x) (ltb x end && rises (suc x) end xs) h in
    let q = and_parts (ltb x end) (rises (suc x) end xs) p.1 in
    (leb-true _ _ p.0, ltb-true _ _ q.0, rise_of (suc x) end xs q.1)

-- a rising row cut in two: the first part is below the second one's first number
cut : (low end : ℕ) (xs : List ℕ) (k : ℕ) → Rise low end xs → k < length xs → (low ≤ get_or xs k 0) × Rise low (get_or xs k 0) (take k xs) × Rise (get_or xs k 0) end (drop k xs)
cut low end [] k h lt = absurd (omega arith)
cut low end (x ∷ xs) zero h lt = (h.0, tt, (omega arith, h.1, h.2))
cut low end (x ∷ xs) (suc k) h lt =
    let r = cut (suc x) end xs k h.2 (omega arith) in
    (omega (arith, h.0, r.0), (h.0, omega (arith, r.0), r.1), r.2)

climb_zip : (last floor load dest : ℕ) (xs ys : List ℕ) → Rise load floor xs → Rise dest (last + 1) ys → Climb last floor load dest (zip xs ys)
climb_zip last floor load dest [] ys h k = tt
climb_zip last floor load dest (x ∷ xs) [] h k = tt
climb_zip last floor load dest (x ∷ xs) (y ∷ ys) h k = (h.0, h.1, k.0, omega (arith, k.1), climb_zip last floor (suc x) (suc y) xs ys h.2 k.2)

zip_long : (xs ys : List ℕ) (n : ℕ) → n ≤ length xs → n ≤ length ys → n ≤ length (zip xs ys)
zip_long [] ys n h k = h
zip_long (x ∷ xs) [] n h k = k
zip_long (x ∷ xs) (y ∷ ys) zero h k = omega arith
zip_long (x ∷ xs) (y ∷ ys) (suc n) h k = let r = zip_long xs ys n (omega arith) (omega arith) in omega (arith, r)

take_long : (xs : List ℕ) (n : ℕ) → n ≤ length xs → n ≤ length (take n xs)
take_long xs zero h = omega arith
take_long [] (suc n) h = h
take_long (x ∷ xs) (suc n) h = let r = take_long xs n (omega arith) in omega (arith, r)

drop_long : (xs : List ℕ) (k n : ℕ) → k + n ≤ length xs → n ≤ length (drop k xs)
drop_long xs zero n h = omega (arith, h)
drop_long [] (suc k) n h = omega (arith, h)
drop_long (x ∷ xs) (suc k) n h = drop_long xs k n (omega arith)

-- the least destination of a chain
abbrev pub floor_of : List ℕ → ℕ
floor_of c = get_or c (length c / 2) 0

pub record AreClimbing (last : ℕ) (c : List ℕ) : Type 0 where
  pub climb : Climb last (floor_of c) 0 (floor_of c) (pairs_of c)
  pub floor : floor_of c ≤ last
  pub two : 2 ≤ length (pairs_of c)

floor_low : (low end : ℕ) (xs : List ℕ) (k : ℕ) → Rise low end xs → k < length xs → get_or xs k 0 < end
floor_low low end [] k h lt = absurd (omega arith)
floor_low low end (x ∷ xs) zero h lt = h.1
floor_low low end (x ∷ xs) (suc k) h lt = floor_low (suc x) end xs k h.2 (omega arith)

pub chain_climbs : (last : ℕ) (c : List ℕ) → is_chain last c ≡ true → AreClimbing last c
chain_climbs last c h =
    let p = and_parts (rises 0 (last + 1) c) (is_length (length c)) h in
    let q = and_parts (length c % 2 == 0) (leb 4 (length c)) p.1 in
    let even : length c % 2 ≡ 0 = eqb-true _ _ q.0 in
    let long : 4 ≤ length c = leb-true _ _ q.1 in
    let r = rise_of 0 (last + 1) c p.0 in
    let s = cut 0 (last + 1) c (length c / 2) r (omega arith) in
    record {
      climb = climb_zip last (floor_of c) 0 (floor_of c) (take (length c / 2) c) (drop (length c / 2) c) s.1 s.2;
      floor = omega (arith, floor_low 0 (last + 1) c (length c / 2) r (omega arith));
      two = zip_long (take (length c / 2) c) (drop (length c / 2) c) 2 (omega (arith, take_long c (length c / 2) (omega arith))) (drop_long c (length c / 2) 2 (omega arith));
    }

-- ## Sums over pairs

pub pairs_same : (f g : ℕ → ℕ → ℤ) (qs : List (ℕ × ℕ)) → ((i d : ℕ) → f i d ≡ g i d) → over_pairs f qs ≡ over_pairs g qs
pairs_same f g [] h = refl
pairs_same f g (q ∷ qs) h = omega (arith, ints, h q.0 q.1, pairs_same f g qs h)

pairs_more : (f g : ℕ → ℕ → ℤ) (qs : List (ℕ × ℕ)) → over_pairs (λ i d. f i d +ℤ g i d) qs ≡ over_pairs f qs +ℤ over_pairs g qs
pairs_more f g [] = refl
pairs_more f g (q ∷ qs) = omega (arith, ints, pairs_more f g qs)

sum_none : (n : ℕ) → sum_to n (λ v. pos 0) ≡ pos 0
sum_none zero = refl
sum_none (suc n) = omega (arith, ints, sum_none n)

-- first over variables, or first over pairs
exchanged : (n : ℕ) (f : ℕ → ℕ → ℕ → ℤ) (qs : List (ℕ × ℕ)) → sum_to n (λ v. over_pairs (λ i d. f i d v) qs) ≡ over_pairs (λ i d. sum_to n (λ v. f i d v)) qs
exchanged n f [] = sum_none n
exchanged n f (q ∷ qs) =
    let s = sum_more n (λ v. f q.0 q.1 v) (λ v. over_pairs (λ i d. f i d v) qs) (λ v. f q.0 q.1 v +ℤ over_pairs (λ i d. f i d v) qs) (λ v lt. refl) in
    omega (arith, ints, s, exchanged n f qs)

-- ## A variable is of one pair of a chain at most

module _ (h : Bool → ℤ) (none : h false ≡ pos 0) (s r : Bool) (load dest : ℕ) where
  abbrev is_of : ℕ × ℕ → Bool
  is_of p = (p.0 == load) && (p.1 == dest)

  unset : (s' : Bool) → h (s' && (false && r)) ≡ pos 0
  unset true = none
  unset false = none

  -- the pairs behind have later calls
  others : (last floor i d : ℕ) (qs : List (ℕ × ℕ)) → Climb last floor i d qs → load < i → over_pairs (λ x y. h (s && (list_any is_of ((x, y) ∷ []) && r))) qs ≡ pos 0
  others last floor i d [] c lt = refl
  others last floor i d (q ∷ qs) c lt =
      let e : (q.0 == load) ≡ false = grind (arith, nat_tests) in
      let z : h (s && (list_any is_of ((q.0, q.1) ∷ []) && r)) ≡ pos 0 = rw e (unset s) in
      omega (arith, ints, z, others last floor (suc q.0) (suc q.1) qs c.4 (omega arith))

  of_pairs : (last floor i d : ℕ) (qs : List (ℕ × ℕ)) → Climb last floor i d qs → h (s && (list_any is_of qs && r)) ≡ over_pairs (λ x y. h (s && (list_any is_of ((x, y) ∷ []) && r))) qs
  of_pairs last floor i d [] c = unset s
  of_pairs last floor i d (q ∷ qs) c = by (is_of q) refl (of_pairs last floor (suc q.0) (suc q.1) qs c.4)
    where
      by : (b : Bool) → is_of q ≡ b → h (s && (list_any is_of qs && r)) ≡ over_pairs (λ x y. h (s && (list_any is_of ((x, y) ∷ []) && r))) qs
          → h (s && ((b || list_any is_of qs) && r)) ≡ h (s && ((b || false) && r)) +ℤ over_pairs (λ x y. h (s && (list_any is_of ((x, y) ∷ []) && r))) qs
      by false e rest = omega (arith, ints, unset s, rest)
      by true e rest =
          let t = and_parts (q.0 == load) (q.1 == dest) e in
          let same : q.0 ≡ load = eqb-true _ _ t.0 in
          omega (arith, ints, others last floor (suc q.0) (suc q.1) qs c.4 (omega arith))

-- ## Right sides

one_more_side : (s s' t t' k a p o : ℤ) → s' ≡ t +ℤ s → t' ≡ t → (s -ℤ p) -ℤ a ≡ o -ℤ p → (s' -ℤ p) -ℤ (k +ℤ a) ≡ ((((t' -ℤ p) -ℤ (k +ℤ pos 0)) +ℤ p) +ℤ o) -ℤ p
one_more_side s s' t t' k a p o e f h = omega (arith, ints)

sum_of_more : (x : ℕ) (xs : List ℕ) → pos (sum (x ∷ xs)) ≡ pos x +ℤ pos (sum xs)
sum_of_more x xs = let e : sum (x ∷ xs) ≡ x + sum xs = sum_by-cons (λ (y : ℕ). y) x xs in omega (arith, ints, e)

sum_of_one : (x : ℕ) → pos (sum (x ∷ [])) ≡ pos x
sum_of_one x = let e : sum (x ∷ []) ≡ x + 0 = sum_by-cons (λ (y : ℕ). y) x [] in omega (arith, ints, e)

sides : (load : ℕ × ℕ → ℕ) (many height price : ℕ) (qs : List (ℕ × ℕ)) → right_side (map load qs) many height price
    ≡ over_pairs (λ i d. right_side (load (i, d) ∷ []) many height price +ℤ pos (price * many)) qs -ℤ pos (price * many)
sides load many height price [] = omega (arith, ints)
sides load many height price (q ∷ qs) =
    one_more_side (pos (sum (map load qs))) (pos (sum (load q ∷ map load qs))) (pos (load q)) (pos (sum (load q ∷ []))) (kept_out many height price (load q)) (all_kept_out many height price (map load qs)) (pos (price * many))
    (over_pairs (λ i d. right_side (load (i, d) ∷ []) many height price +ℤ pos (price * many)) qs)
    (sum_of_more (load q) (map load qs)) (sum_of_one (load q)) (sides load many height price qs)

-- ## The gain of a crossing row

module _ (m : Voyage) (b : Box) (ds : List ℤ) (l price : ℕ) where
  abbrev gap_in : List ℕ → ℕ → ℤ
  gap_in c v = gap (at b v) (number_at ds v) (pos 1 *ℤ bit (crosses m l c (var m v)))

  gaps_are : (c : List ℕ) → AreClimbing (calls m) c → gaps_of m b ds (Cross l price c) (pos 1) ≡ over_pairs (λ i d. gaps_of m b ds (Cross l price (i ∷ d ∷ [])) (pos 1)) (pairs_of c)
  gaps_are c are =
      sum_same (length (variables m)) (λ v. gap_in c v) (λ v. over_pairs (λ i d. gap_in (i ∷ d ∷ []) v) (pairs_of c))
      (λ v lt. of_pairs (λ s. gap (at b v) (number_at ds v) (pos 1 *ℤ bit s)) (gap_none (at b v) (number_at ds v) (pos 0) refl)
      (same_length (length_of l) (kind m (var m v).kind).long) (is_rehandled m (var m v)) (var m v).put (kind m (var m v).kind).dest (calls m) (floor_of c) 0 (floor_of c) (pairs_of c) are.climb)
      ∙ exchanged (length (variables m)) (λ i d v. gap_in (i ∷ d ∷ []) v) (pairs_of c)

  sides_are : (c : List ℕ) → crossing_side m l price c ≡ over_pairs (λ i d. crossing_side m l price (i ∷ d ∷ []) +ℤ price_of_all m l price) (pairs_of c) -ℤ price_of_all m l price
  sides_are c = sides (λ p. load_of m (length_of l) p.0 p.1) (columns m.ship (length_of l)) (tallest m.ship (length_of l)) price (pairs_of c)

  pub gain_by_pairs : (c : List ℕ) → AreClimbing (calls m) c → gain_of m b ds (Cross l price c) ≡ over_pairs (pair_gain m b ds l price) (pairs_of c) -ℤ price_of_all m l price
  gain_by_pairs c are =
      let side : ℕ → ℕ → ℤ = λ i d. crossing_side m l price (i ∷ d ∷ []) +ℤ price_of_all m l price in
      let gaps : ℕ → ℕ → ℤ = λ i d. gaps_of m b ds (Cross l price (i ∷ d ∷ [])) (pos 1) in
      let both : over_pairs (pair_gain m b ds l price) (pairs_of c) ≡ over_pairs (λ i d. side i d +ℤ gaps i d) (pairs_of c) = pairs_same (pair_gain m b ds l price) (λ i d. side i d +ℤ gaps i d) (pairs_of c) (λ i d. turned (crossing_side m l price (i ∷ d ∷ [])) (gaps i d) (price_of_all m l price)) in
      omega (arith, ints, both, pairs_more side gaps (pairs_of c), sides_are c, gaps_are c are)
    where
      turned : (x y z : ℤ) → (x +ℤ y) +ℤ z ≡ (x +ℤ z) +ℤ y
      turned x y z = omega (arith, ints)
