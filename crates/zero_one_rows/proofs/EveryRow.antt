-- The list of rows has the rows of the program, and no others.
use Rattle.std.proofs.Common.{◌≡◌, ℕ, zero, suc, ◌<◌, ◌≤◌, ◌+◌, ◌-◌, Bool, true, false, ◌&&◌, ◌||◌, ◌==◌, max, List, [], ◌∷◌, ◌++◌, Option, None, arith, refl, sym, ◌∙◌, ap, inl, inr, ◌⊎◌, ⊎_elim, length, subst, Contains, ◌↔◌}
use Rattle.std.specs.Prelude.{filter, map, nat_lt, nat_le, slice_index_or}
use Rattle.std.specs.List.{range_with_len, fold, sum_by}
use Rattle.std.proofs.lemmas.Bool.{lt-ltb, ltb-true, le-leb, leb-true, eqb-true, false≢true, cases_lt}
use Rattle.std.proofs.lemmas.List.{get_or_past}
use Rattle.std.proofs.lemmas.List.Sums.{sum_by-cons}
use Rattle.stow_data.specs.declared.geometry.Length.{Length}
use Rattle.stow_data.specs.declared.geometry.Stack.{Stack}
use Rattle.stow_data.specs.Ship.{Ship, halves, places}
use Rattle.stow_data.proofs.Members.{Member, member_left, member_right, flat_at, flat_from, map_at, map_from, range_at, range_from}
use Rattle.stow_data.proofs.Distinct.{Each, each_at, each_from}
use Rattle.zero_one_rows.specs.declared.program.Row.{Row}
use Rattle.zero_one_rows.specs.declared.program.Row.TheVariants.{Flow, Start, Cell, Support, Twenty, Block, Hatch, Weight, Apart, Cross}
use Rattle.zero_one_rows.specs.Variables.{Voyage, calls, all_kinds}
use Rattle.zero_one_rows.specs.Crossing.{columns, columns_in, tallest, tiers_for, length_of, is_crossing, is_length}
use Rattle.zero_one_rows.specs.Rows.{has, is_base, is_call, is_half, is_place, is_filled}
use Rattle.zero_one_rows.proofs.VariableList.{filter_at, filter_from, get_member, member_get}
use Rattle.zero_one_rows.specs.Chains.{is_chain}
use Rattle.zero_one_rows.specs.Counted.{runs, has_below, has_above, stands_at, is_hatch, is_near_by, pairs_at, hatches_of, near_to, near_by, all_chains, row_lists, per_call, flow_of, hatch_of, apart_of, flow_rows, start_rows, cell_rows, support_rows, twenty_rows, block_rows, hatch_rows, weight_rows, apart_rows, cross_rows, from_weights, from_hatches, from_blocks, from_twenties, from_supports, from_cells, from_starts, base_in, rows_in, base_rows, all_rows}
use Rattle.zero_one_rows.specs.declared.row_lists.Pair.{Pair}
use Rattle.zero_one_rows.specs.declared.row_lists.HatchPair.{HatchPair}
use Rattle.zero_one_rows.specs.declared.row_lists.NearPair.{NearPair}
use Rattle.zero_one_rows.specs.declared.row_lists.RowLists.{RowLists}
use Rattle.zero_one_rows.proofs.EveryChain.{chain_at, chain_from, test_chain, chain_by_test}

pub both : (a b : Bool) → a ≡ true → b ≡ true → (a && b) ≡ true
both true true e f = refl
both true false e f = f
both false b e f = e

pub left_of : (a b : Bool) → (a && b) ≡ true → a ≡ true
left_of true b h = refl
left_of false b h = h

pub right_of : (a b : Bool) → (a && b) ≡ true → b ≡ true
right_of true b h = h
right_of false b h = absurd (false≢true h)

pub each_append : {X : Type 0} (P : X → Type 0) (xs ys : List X) → Each P xs → Each P ys → Each P (xs ++ ys)
each_append P [] ys a b = b
each_append P (x ∷ xs) ys a b = (a.0, each_append P xs ys a.1 b)

pub each_mapped : {X Y : Type 0} (P : Y → Type 0) (f : X → Y) (xs : List X) → ((x : X) → Member x xs → P (f x)) → Each P (map f xs)
each_mapped P f xs h = each_from P (map f xs) (λ y m. let a = map_at f xs y m in subst P (sym a.2) (h a.0 a.1))

-- the rows of calls
pub each_call : {X : Type 0} (P : Row → Type 0) (f : ℕ → X → Row) (n : ℕ) (ks : List X) → ((i : ℕ) (x : X) → 1 ≤ i → i < 1 + n → Member x ks → P (f i x)) → Each P (per_call f n ks)
each_call {X} P f n ks h = each_from P (per_call f n ks) (λ r m.
    let a = flat_at (λ i. map (f i) ks) (range_with_len 1 n) r m in
    let q = range_at 1 n a.0 a.1 in
    let b = map_at (f a.0) ks r a.2 in
    subst P (sym b.2) (h a.0 b.0 q.0 q.1 b.1))

pub call_member : {X : Type 0} (f : ℕ → X → Row) (n : ℕ) (ks : List X) (i : ℕ) (x : X) → 1 ≤ i → i < 1 + n → Member x ks → Member (f i x) (per_call f n ks)
call_member f n ks i x l k m = flat_from (λ i. map (f i) ks) (range_with_len 1 n) i (f i x) (range_from 1 n i l k) (map_from (f i) ks x m)

filled_in : (xs : List (Option ℕ)) (p : ℕ) → is_filled (slice_index_or xs p None) ≡ true → p < length xs
filled_in xs p h = ⊎_elim (λ (l : p < length xs). l)
    (λ (l : length xs ≤ p). absurd (false≢true (ap is_filled (sym (get_or_past xs p None l)) ∙ h)))
    (cases_lt p (length xs))

-- a ship without a column of a length has no tier for it
sum_none : (long : Length) (ss : List Stack) → sum_by (λ s. columns_in long s.lengths) ss ≡ 0 → (a : ℕ) → fold (λ t s. max t (tiers_for long s)) a ss ≡ a
sum_none long [] h a = refl
sum_none long (s ∷ ss) h a =
    let e = sum_by-cons (λ (s : Stack). columns_in long s.lengths) s ss in
    let here : columns_in long s.lengths ≡ 0 = omega (arith, e, h) in
    let rest : sum_by (λ s. columns_in long s.lengths) ss ≡ 0 = omega (arith, e, h) in
    let none : tiers_for long s ≡ 0 = rw here refl in
    let same : max a (tiers_for long s) ≡ a = rw none (grind arith) in
    ap (λ (z : ℕ). fold (λ t s. max t (tiers_for long s)) z ss) same ∙ sum_none long ss rest a

has_column : (ship : Ship) (long : Length) (p : ℕ) → 0 < p → p ≤ tallest ship long → 0 < columns ship long
has_column ship long p l k = ⊎_elim (λ (h : 0 < columns ship long). h)
    (λ (h : columns ship long ≤ 0). let z : columns ship long ≡ 0 = omega (arith, h) in let e : tallest ship long ≡ 0 = sum_none long ship.stacks z 0 in absurd (omega (arith, e, l, k)))
    (cases_lt 0 (columns ship long))

module _ (m : Voyage) where
  abbrev l : RowLists
  l = row_lists m

  abbrev n : ℕ
  n = calls m - 1

  abbrev Has : Row → Type 0
  Has r = has m r ≡ true

  -- ## Each row of the list is one of the program

  call_from : (i : ℕ) → 1 ≤ i → i < 1 + n → is_call m i ≡ true
  call_from i a b = both (nat_lt 0 i) (nat_lt i (calls m)) (lt-ltb 0 i (omega arith)) (lt-ltb i (calls m) (omega (arith, a, b)))

  half_from : (h : ℕ) → Member h (range_with_len 0 (length (halves m.ship))) → is_half m h ≡ true
  half_from h k = let q = range_at 0 (length (halves m.ship)) h k in lt-ltb h (length (halves m.ship)) (omega (arith, q.1))

  place_from : (p : ℕ) → Member p (range_with_len 0 (length (places m.ship))) → is_place m p ≡ true
  place_from p k = let q = range_at 0 (length (places m.ship)) p k in lt-ltb p (length (places m.ship)) (omega (arith, q.1))

  flow_has : (q : ℕ) → nat_lt q 2 ≡ true → (p : Pair) → Member p l.pairs → Has (flow_of q p)
  flow_has q two p k =
      let a = flat_at (pairs_at m) (range_with_len 1 n) p k in
      let i = range_at 1 n a.0 a.1 in
      let b = map_at (λ (g : ℕ). record { call = a.0; kind = g }) (filter (runs m a.0) (range_with_len 0 (length (all_kinds m)))) p a.2 in
      let c = filter_at (runs m a.0) (range_with_len 0 (length (all_kinds m))) b.0 b.1 in
      let g = range_at 0 (length (all_kinds m)) b.0 c.0 in
      subst (λ (z : Pair). Has (flow_of q z)) (sym b.2) (both (nat_lt q 2) _ two (both (is_call m a.0) _ (call_from a.0 i.0 i.1) (both (nat_lt b.0 (length (all_kinds m))) _ (lt-ltb b.0 (length (all_kinds m)) (omega (arith, g.1))) c.1)))

  start_has : (q : ℕ) → nat_lt q 2 ≡ true → (p : ℕ) → Member p l.filled → Has (Start q p)
  start_has q two p k = both (nat_lt q 2) _ two (filter_at (stands_at m) (range_with_len 0 (length m.cargo.arrival)) p k).1

  hatch_has : (w j : ℕ) → nat_lt w 2 ≡ true → 1 ≤ j → j < 1 + n → (p : HatchPair) → Member p l.hatches → Has (hatch_of w j p)
  hatch_has w j two lo hi p k =
      let a = flat_at (hatches_of m) (range_with_len 0 (length (halves m.ship))) p k in
      let b = map_at (λ (d : ℕ). record { half = a.0; lowest = d }) (filter (is_hatch m a.0) (range_with_len 0 (length (halves m.ship)))) p a.2 in
      let c = filter_at (is_hatch m a.0) (range_with_len 0 (length (halves m.ship))) b.0 b.1 in
      subst (λ (z : HatchPair). Has (hatch_of w j z)) (sym b.2) (both (nat_lt w 2) _ two (both (is_call m j) _ (call_from j lo hi) (both (is_half m a.0) _ (half_from a.0 a.1) (both (is_half m b.0) _ (half_from b.0 c.0) c.1))))

  apart_has : (i : ℕ) → 1 ≤ i → i < 1 + n → (p : NearPair) → Member p l.near → Has (apart_of i p)
  apart_has i lo hi p k =
      let a = flat_at (near_by m) (range_with_len 0 (length m.ship.separations)) p k in
      let e = range_at 0 (length m.ship.separations) a.0 a.1 in
      let b = flat_at (near_to m a.0) (range_with_len 0 (length (places m.ship))) p a.2 in
      let c = map_at (λ (q : ℕ). record { index = a.0; first = b.0; second = q }) (filter (is_near_by m a.0 b.0) (range_with_len 0 (length (places m.ship)))) p b.2 in
      let d = filter_at (is_near_by m a.0 b.0) (range_with_len 0 (length (places m.ship))) c.0 c.1 in
      subst (λ (z : NearPair). Has (apart_of i z)) (sym c.2) (both (is_call m i) _ (call_from i lo hi) (both (nat_lt a.0 (length m.ship.separations)) _ (lt-ltb a.0 (length m.ship.separations) (omega (arith, e.1))) (both (is_place m b.0) _ (place_from b.0 b.1) (both (is_place m c.0) _ (place_from c.0 d.0) d.1))))

  cross_has : (foot p : ℕ) (c : List ℕ) → is_length foot ≡ true → 1 ≤ p → p < 1 + tallest m.ship (length_of foot) → Member c (all_chains (calls m)) → Has (Cross foot p c)
  cross_has foot p c f lo hi k =
      both (is_length foot) _ f (both (nat_lt 0 (columns m.ship (length_of foot))) _ (lt-ltb 0 (columns m.ship (length_of foot)) (has_column m.ship (length_of foot) p (omega (arith, lo)) (omega (arith, hi))))
      (both (nat_lt 0 p) _ (lt-ltb 0 p (omega (arith, lo))) (both (nat_le p (tallest m.ship (length_of foot))) (is_chain (calls m) c) (le-leb p (tallest m.ship (length_of foot)) (omega (arith, hi))) (test_chain (calls m) c (chain_at (calls m) c k)))))

  cross_have : Each Has (cross_rows l)
  cross_have = each_append Has (per_call (λ p c. Cross 20 p c) l.short_tiers l.chains) (per_call (λ p c. Cross 40 p c) l.long_tiers l.chains)
      (each_call Has (λ p c. Cross 20 p c) l.short_tiers l.chains (λ p c lo hi k. cross_has 20 p c refl lo hi k))
      (each_call Has (λ p c. Cross 40 p c) l.long_tiers l.chains (λ p c lo hi k. cross_has 40 p c refl lo hi k))

  abbrev pub HasBase : Row → Type 0
  HasBase r = (is_base r && has m r) ≡ true

  pub base_have : Each HasBase (base_rows m)
  unfolding base_in
  base_have =
      each_append HasBase (flow_rows l) (from_starts l)
      (each_append HasBase (map (flow_of 0) l.pairs) (map (flow_of 1) l.pairs) (each_mapped HasBase (flow_of 0) l.pairs (λ p k. flow_has 0 refl p k)) (each_mapped HasBase (flow_of 1) l.pairs (λ p k. flow_has 1 refl p k)))
      (each_append HasBase (start_rows l) (from_cells l)
      (each_append HasBase (map (λ p. Start 0 p) l.filled) (map (λ p. Start 1 p) l.filled) (each_mapped HasBase (λ p. Start 0 p) l.filled (λ p k. start_has 0 refl p k)) (each_mapped HasBase (λ p. Start 1 p) l.filled (λ p k. start_has 1 refl p k)))
      (each_append HasBase (cell_rows l) (from_supports l)
      (each_call HasBase (λ i h. Cell i h) n (range_with_len 0 l.halves) (λ i h lo hi k. both (is_call m i) _ (call_from i lo hi) (half_from h k)))
      (each_append HasBase (support_rows l) (from_twenties l)
      (each_call HasBase (λ i h. Support i h) n l.uppers (λ i h lo hi k. let c = filter_at (has_below m) (range_with_len 0 (length (halves m.ship))) h k in both (is_call m i) _ (call_from i lo hi) (both (is_half m h) _ (half_from h c.0) c.1)))
      (each_append HasBase (twenty_rows l) (from_blocks l)
      (each_call HasBase (λ i h. Twenty i h) n l.uppers (λ i h lo hi k. let c = filter_at (has_below m) (range_with_len 0 (length (halves m.ship))) h k in both (is_call m i) _ (call_from i lo hi) (both (is_half m h) _ (half_from h c.0) c.1)))
      (each_append HasBase (block_rows l) (from_hatches l)
      (each_call HasBase (λ i h. Block i h) n l.lowers (λ i h lo hi k. let c = filter_at (has_above m) (range_with_len 0 (length (halves m.ship))) h k in both (is_call m i) _ (call_from i lo hi) (both (is_half m h) _ (half_from h c.0) c.1)))
      (each_append HasBase (hatch_rows l) (from_weights l)
      (each_append HasBase (per_call (hatch_of 0) n l.hatches) (per_call (hatch_of 1) n l.hatches)
      (each_call HasBase (hatch_of 0) n l.hatches (λ j p lo hi k. hatch_has 0 j refl lo hi p k))
      (each_call HasBase (hatch_of 1) n l.hatches (λ j p lo hi k. hatch_has 1 j refl lo hi p k)))
      (each_append HasBase (weight_rows l) (apart_rows l)
      (each_call HasBase (λ i k. Weight i k) n (range_with_len 0 l.stacks) (λ i s lo hi k. let q = range_at 0 (length m.ship.stacks) s k in both (is_call m i) _ (call_from i lo hi) (lt-ltb s (length m.ship.stacks) (omega (arith, q.1)))))
      (each_call HasBase apart_of n l.near (λ i p lo hi k. apart_has i lo hi p k)))))))))

  -- ## Each row of the program is in the list

  call_at : (i : ℕ) → is_call m i ≡ true → (1 ≤ i) × (i < 1 + n)
  call_at i h = let a = ltb-true 0 i (left_of (nat_lt 0 i) _ h) in let b = ltb-true i (calls m) (right_of (nat_lt 0 i) _ h) in (omega (arith, a), omega (arith, b))

  range_of : (h k : ℕ) → nat_lt h k ≡ true → Member h (range_with_len 0 k)
  range_of h k e = let a = ltb-true h k e in range_from 0 k h (omega arith) (omega (arith, a))

  q_of : (q : ℕ) → nat_lt q 2 ≡ true → (q ≡ 0) ⊎ (q ≡ 1)
  q_of zero e = inl refl
  q_of (suc zero) e = inr refl
  q_of (suc (suc q)) e = let a = ltb-true (suc (suc q)) 2 e in absurd (omega (arith, a))

  -- one of two lists
  two_members : {X : Type 0} (f : ℕ → X → Row) (xs : List X) (q : ℕ) (x : X) → nat_lt q 2 ≡ true → Member x xs → Member (f q x) (map (f 0) xs ++ map (f 1) xs)
  two_members {X} f xs q x e k = ⊎_elim
      (λ (a : q ≡ 0). rw a (member_left (f 0 x) (map (f 0) xs) (map (f 1) xs) (map_from (f 0) xs x k)))
      (λ (a : q ≡ 1). rw a (member_right (f 1 x) (map (f 0) xs) (map (f 1) xs) (map_from (f 1) xs x k)))
      (q_of q e)

  pair_in : (i g : ℕ) → is_call m i ≡ true → (nat_lt g (length (all_kinds m)) && runs m i g) ≡ true → Member (record { call = i; kind = g }) l.pairs
  pair_in i g c h =
      let r = call_at i c in
      flat_from (pairs_at m) (range_with_len 1 n) i (record { call = i; kind = g }) (range_from 1 n i r.0 r.1)
      (map_from (λ (g : ℕ). record { call = i; kind = g }) (filter (runs m i) (range_with_len 0 (length (all_kinds m)))) g (filter_from (runs m i) (range_with_len 0 (length (all_kinds m))) g (range_of g (length (all_kinds m)) (left_of _ _ h)) (right_of _ _ h)))

  hatch_in : (h d : ℕ) → (is_half m h && (is_half m d && is_hatch m h d)) ≡ true → Member (record { half = h; lowest = d }) l.hatches
  hatch_in h d e =
      let f = right_of (is_half m h) _ e in
      flat_from (hatches_of m) (range_with_len 0 (length (halves m.ship))) h (record { half = h; lowest = d }) (range_of h (length (halves m.ship)) (left_of (is_half m h) _ e))
      (map_from (λ (d : ℕ). record { half = h; lowest = d }) (filter (is_hatch m h) (range_with_len 0 (length (halves m.ship)))) d (filter_from (is_hatch m h) (range_with_len 0 (length (halves m.ship))) d (range_of d (length (halves m.ship)) (left_of (is_half m d) _ f)) (right_of (is_half m d) _ f)))

  near_in : (e p q : ℕ) → (nat_lt e (length m.ship.separations) && (is_place m p && (is_place m q && is_near_by m e p q))) ≡ true → Member (record { index = e; first = p; second = q }) l.near
  near_in e p q h =
      let f = right_of (nat_lt e (length m.ship.separations)) _ h in
      let g = right_of (is_place m p) _ f in
      flat_from (near_by m) (range_with_len 0 (length m.ship.separations)) e (record { index = e; first = p; second = q }) (range_of e (length m.ship.separations) (left_of (nat_lt e (length m.ship.separations)) _ h))
      (flat_from (near_to m e) (range_with_len 0 (length (places m.ship))) p (record { index = e; first = p; second = q }) (range_of p (length (places m.ship)) (left_of (is_place m p) _ f))
      (map_from (λ (q : ℕ). record { index = e; first = p; second = q }) (filter (is_near_by m e p) (range_with_len 0 (length (places m.ship)))) q (filter_from (is_near_by m e p) (range_with_len 0 (length (places m.ship))) q (range_of q (length (places m.ship)) (left_of (is_place m q) _ g)) (right_of (is_place m q) _ g))))

  upper_in : (h : ℕ) → (is_half m h && has_below m h) ≡ true → Member h l.uppers
  upper_in h e = filter_from (has_below m) (range_with_len 0 (length (halves m.ship))) h (range_of h (length (halves m.ship)) (left_of _ _ e)) (right_of _ _ e)

  lower_in : (h : ℕ) → (is_half m h && has_above m h) ≡ true → Member h l.lowers
  lower_in h e = filter_from (has_above m) (range_with_len 0 (length (halves m.ship))) h (range_of h (length (halves m.ship)) (left_of _ _ e)) (right_of _ _ e)

  call_row : {X : Type 0} (f : ℕ → X → Row) (ks : List X) (i : ℕ) (x : X) → is_call m i ≡ true → Member x ks → Member (f i x) (per_call f n ks)
  call_row f ks i x c k = let r = call_at i c in call_member f n ks i x r.0 r.1 k

  hatch_row : (w j : ℕ) (p : HatchPair) → nat_lt w 2 ≡ true → is_call m j ≡ true → Member p l.hatches → Member (hatch_of w j p) (hatch_rows l)
  hatch_row w j p e c k = ⊎_elim
      (λ (a : w ≡ 0). rw a (member_left (hatch_of 0 j p) (per_call (hatch_of 0) n l.hatches) (per_call (hatch_of 1) n l.hatches) (call_row (hatch_of 0) l.hatches j p c k)))
      (λ (a : w ≡ 1). rw a (member_right (hatch_of 1 j p) (per_call (hatch_of 0) n l.hatches) (per_call (hatch_of 1) n l.hatches) (call_row (hatch_of 1) l.hatches j p c k)))
      (q_of w e)

  past_starts : (r : Row) → Member r (from_cells l) → Member r (from_starts l)
  past_starts r k = member_right r (start_rows l) (from_cells l) k

  past_cells : (r : Row) → Member r (from_supports l) → Member r (from_starts l)
  past_cells r k = past_starts r (member_right r (cell_rows l) (from_supports l) k)

  past_supports : (r : Row) → Member r (from_twenties l) → Member r (from_starts l)
  past_supports r k = past_cells r (member_right r (support_rows l) (from_twenties l) k)

  past_twenties : (r : Row) → Member r (from_blocks l) → Member r (from_starts l)
  past_twenties r k = past_supports r (member_right r (twenty_rows l) (from_blocks l) k)

  past_blocks : (r : Row) → Member r (from_hatches l) → Member r (from_starts l)
  past_blocks r k = past_twenties r (member_right r (block_rows l) (from_hatches l) k)

  past_hatches : (r : Row) → Member r (from_weights l) → Member r (from_starts l)
  past_hatches r k = past_blocks r (member_right r (hatch_rows l) (from_weights l) k)

  first_rows : (r : Row) → Member r (flow_rows l) → Member r (base_rows m)
  unfolding base_in
  first_rows r k = member_left r (flow_rows l) (from_starts l) k

  past_flows : (r : Row) → Member r (from_starts l) → Member r (base_rows m)
  unfolding base_in
  past_flows r k = member_right r (flow_rows l) (from_starts l) k

  pub base_listed : (r : Row) → is_base r ≡ true → has m r ≡ true → Member r (base_rows m)
  base_listed (Flow q i g) b h = first_rows (Flow q i g) (let a = right_of (nat_lt q 2) _ h in two_members flow_of l.pairs q (record { call = i; kind = g }) (left_of (nat_lt q 2) _ h) (pair_in i g (left_of (is_call m i) _ a) (right_of (is_call m i) _ a)))
  base_listed (Start q p) b h = past_flows (Start q p) (member_left (Start q p) (start_rows l) (from_cells l) (two_members (λ q p. Start q p) l.filled q p (left_of (nat_lt q 2) _ h)
      (let f = right_of (nat_lt q 2) _ h in filter_from (stands_at m) (range_with_len 0 (length m.cargo.arrival)) p (let lt = filled_in m.cargo.arrival p f in range_from 0 (length m.cargo.arrival) p (omega arith) (omega (arith, lt))) f)))
  base_listed (Cell i k) b h = past_flows (Cell i k) (past_starts (Cell i k) (member_left (Cell i k) (cell_rows l) (from_supports l) (call_row (λ i h. Cell i h) (range_with_len 0 l.halves) i k (left_of (is_call m i) _ h) (range_of k (length (halves m.ship)) (right_of (is_call m i) _ h)))))
  base_listed (Support i k) b h = past_flows (Support i k) (past_cells (Support i k) (member_left (Support i k) (support_rows l) (from_twenties l) (call_row (λ i h. Support i h) l.uppers i k (left_of (is_call m i) _ h) (upper_in k (right_of (is_call m i) _ h)))))
  base_listed (Twenty i k) b h = past_flows (Twenty i k) (past_supports (Twenty i k) (member_left (Twenty i k) (twenty_rows l) (from_blocks l) (call_row (λ i h. Twenty i h) l.uppers i k (left_of (is_call m i) _ h) (upper_in k (right_of (is_call m i) _ h)))))
  base_listed (Block i k) b h = past_flows (Block i k) (past_twenties (Block i k) (member_left (Block i k) (block_rows l) (from_hatches l) (call_row (λ i h. Block i h) l.lowers i k (left_of (is_call m i) _ h) (lower_in k (right_of (is_call m i) _ h)))))
  base_listed (Hatch w j k d) b h = past_flows (Hatch w j k d) (past_blocks (Hatch w j k d) (member_left (Hatch w j k d) (hatch_rows l) (from_weights l) (let a = right_of (nat_lt w 2) _ h in hatch_row w j (record { half = k; lowest = d }) (left_of (nat_lt w 2) _ h) (left_of (is_call m j) _ a) (hatch_in k d (right_of (is_call m j) _ a)))))
  base_listed (Weight i k) b h = past_flows (Weight i k) (past_hatches (Weight i k) (member_left (Weight i k) (weight_rows l) (apart_rows l) (call_row (λ i k. Weight i k) (range_with_len 0 l.stacks) i k (left_of (is_call m i) _ h) (range_of k (length m.ship.stacks) (right_of (is_call m i) _ h)))))
  base_listed (Apart i e p q) b h = past_flows (Apart i e p q) (past_hatches (Apart i e p q) (member_right (Apart i e p q) (weight_rows l) (apart_rows l) (call_row apart_of l.near i (record { index = e; first = p; second = q }) (left_of (is_call m i) _ h) (near_in e p q (right_of (is_call m i) _ h)))))
  base_listed (Cross f p c) b h = absurd (false≢true b)

  foot_of : (f : ℕ) → is_length f ≡ true → (f ≡ 20) ⊎ (f ≡ 40)
  foot_of f h = go (f == 20) refl
    where
      go : (b : Bool) → (f == 20) ≡ b → (f ≡ 20) ⊎ (f ≡ 40)
      go true e = inl (eqb-true f 20 e)
      go false e = inr (eqb-true f 40 (subst (λ (b : Bool). (b || (f == 40)) ≡ true) e h))

  cross_row : (f tiers p : ℕ) (c : List ℕ) → 1 ≤ p → p ≤ tiers → is_chain (calls m) c ≡ true → Member (Cross f p c) (per_call (λ p c. Cross f p c) tiers l.chains)
  cross_row f tiers p c lo hi h = call_member (λ p c. Cross f p c) tiers l.chains p c lo (omega (arith, hi)) (chain_from (calls m) c (chain_by_test (calls m) c h))

  crossing_listed : (f p : ℕ) (c : List ℕ) → is_crossing m f p c ≡ true → Member (Cross f p c) (cross_rows l)
  crossing_listed f p c h =
      let a = right_of (is_length f) _ h in
      let b = right_of (nat_lt 0 (columns m.ship (length_of f))) _ a in
      let lo = ltb-true 0 p (left_of (nat_lt 0 p) _ b) in
      let d = right_of (nat_lt 0 p) _ b in
      let hi : p ≤ tallest m.ship (length_of f) = leb-true p (tallest m.ship (length_of f)) (left_of (nat_le p (tallest m.ship (length_of f))) _ d) in
      let chain = right_of (nat_le p (tallest m.ship (length_of f))) (is_chain (calls m) c) d in
      ⊎_elim
      (λ (e : f ≡ 20). let up : p ≤ l.short_tiers = subst (λ (z : ℕ). p ≤ tallest m.ship (length_of z)) e hi in rw e (member_left (Cross 20 p c) (per_call (λ p c. Cross 20 p c) l.short_tiers l.chains) (per_call (λ p c. Cross 40 p c) l.long_tiers l.chains) (cross_row 20 l.short_tiers p c (omega (arith, lo)) up chain)))
      (λ (e : f ≡ 40). let up : p ≤ l.long_tiers = subst (λ (z : ℕ). p ≤ tallest m.ship (length_of z)) e hi in rw e (member_right (Cross 40 p c) (per_call (λ p c. Cross 20 p c) l.short_tiers l.chains) (per_call (λ p c. Cross 40 p c) l.long_tiers l.chains) (cross_row 40 l.long_tiers p c (omega (arith, lo)) up chain)))
      (foot_of f (left_of (is_length f) _ h))

  in_base : (r : Row) → Member r (base_rows m) → Member r (all_rows m)
  unfolding rows_in
  in_base r k = member_left r (base_rows m) (cross_rows l) k

  in_cross : (r : Row) → Member r (cross_rows l) → Member r (all_rows m)
  unfolding rows_in
  in_cross r k = member_right r (base_rows m) (cross_rows l) k

  pub row_listed : (r : Row) → has m r ≡ true → Member r (all_rows m)
  row_listed (Cross f p c) h = in_cross (Cross f p c) (crossing_listed f p c h)
  row_listed (Flow q i g) h = in_base (Flow q i g) (base_listed (Flow q i g) refl h)
  row_listed (Start q p) h = in_base (Start q p) (base_listed (Start q p) refl h)
  row_listed (Cell i k) h = in_base (Cell i k) (base_listed (Cell i k) refl h)
  row_listed (Support i k) h = in_base (Support i k) (base_listed (Support i k) refl h)
  row_listed (Twenty i k) h = in_base (Twenty i k) (base_listed (Twenty i k) refl h)
  row_listed (Block i k) h = in_base (Block i k) (base_listed (Block i k) refl h)
  row_listed (Hatch w j k d) h = in_base (Hatch w j k d) (base_listed (Hatch w j k d) refl h)
  row_listed (Weight i k) h = in_base (Weight i k) (base_listed (Weight i k) refl h)
  row_listed (Apart i e p q) h = in_base (Apart i e p q) (base_listed (Apart i e p q) refl h)

  all_have : Each Has (all_rows m)
  unfolding rows_in
  all_have = each_append Has (base_rows m) (cross_rows l) (each_from Has (base_rows m) (λ r k. right_of (is_base r) (has m r) (each_at HasBase (base_rows m) r base_have k))) cross_have

  pub listed_has : (r : Row) → Member r (all_rows m) → has m r ≡ true
  listed_has r k = each_at Has (all_rows m) r all_have k

  contains_from : (xs : List Row) (r : Row) → Member r xs → Contains xs r
  contains_from xs r h = member_get xs r r h

  contains_at : (xs : List Row) (r : Row) → Contains xs r → Member r xs
  contains_at xs r h = subst (λ y. Member y xs) h.2 (get_member xs h.0 r h.1)

  pub lists_rows : (r : Row) → Contains (all_rows m) r ↔ (has m r ≡ true)
  lists_rows r = ((λ k. listed_has r (contains_at (all_rows m) r k)), (λ h. contains_from (all_rows m) r (row_listed r h)))

  pub lists_base_rows : (r : Row) → Contains (base_rows m) r ↔ ((is_base r && has m r) ≡ true)
  lists_base_rows r = ((λ k. each_at HasBase (base_rows m) r base_have (contains_at (base_rows m) r k)), (λ h. contains_from (base_rows m) r (base_listed r (left_of (is_base r) (has m r) h) (right_of (is_base r) (has m r) h))))
