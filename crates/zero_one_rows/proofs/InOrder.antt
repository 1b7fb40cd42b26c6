-- The list of rows rises.
use Rattle.std.proofs.Common.{◌≡◌, ℕ, suc, ◌<◌, ◌≤◌, ◌-◌, List, ◌++◌, arith, refl, sym, ◌∙◌, ap, inl, inr, ◌⊎◌, length, AllPairs}
use Rattle.std.specs.Prelude.{filter, map}
use Rattle.std.specs.List.{range_with_len}
use Rattle.std.proofs.lemmas.Bool.{false≢true}
use Rattle.zero_one_rows.specs.Chains.{IsBefore}
use Rattle.stow_data.specs.Ship.{halves, places}
use Rattle.stow_data.proofs.Members.{Member, flat_at, map_at}
use Rattle.stow_data.proofs.Distinct.{Each, each_at, each_from}
use Rattle.zero_one_rows.specs.declared.program.Row.{Row}
use Rattle.zero_one_rows.specs.declared.program.Row.TheVariants.{Flow, Start, Cell, Support, Twenty, Block, Hatch, Weight, Apart, Cross}
use Rattle.zero_one_rows.specs.Variables.{Voyage, calls, all_kinds}
use Rattle.zero_one_rows.specs.Counted.{runs, has_below, has_above, stands_at, is_hatch, is_near_by, pairs_at, hatches_of, near_to, near_by, row_lists, per_call, flow_of, hatch_of, apart_of, flow_rows, start_rows, cell_rows, support_rows, twenty_rows, block_rows, hatch_rows, weight_rows, apart_rows, cross_rows, from_weights, from_hatches, from_blocks, from_twenties, from_supports, from_cells, from_starts, base_in, rows_in, base_rows, all_rows}
use Rattle.zero_one_rows.specs.Ordered.{family, Precedes}
use Rattle.zero_one_rows.specs.declared.row_lists.Pair.{Pair}
use Rattle.zero_one_rows.specs.declared.row_lists.HatchPair.{HatchPair}
use Rattle.zero_one_rows.specs.declared.row_lists.NearPair.{NearPair}
use Rattle.zero_one_rows.specs.declared.row_lists.RowLists.{RowLists}
use Rattle.zero_one_rows.proofs.Rising.{Rising, rising_append, rising_flat, rising_map, rising_range, rising_filter, rising_pairs}
use Rattle.zero_one_rows.proofs.EveryChain.{chains_rise}
use Rattle.zero_one_rows.proofs.EveryRow.{each_append, each_mapped, each_call, HasBase, base_have}

abbrev Less : ℕ → ℕ → Type 0
Less x y = x < y

-- rows of calls rise where their items do
rise_calls : {X : Type 0} (S : X → X → Type 0) (f : ℕ → X → Row) (n : ℕ) (ks : List X) → Rising S ks → ((i j : ℕ) (x y : X) → i < j → Precedes (f i x) (f j y)) → ((i : ℕ) (x y : X) → S x y → Precedes (f i x) (f i y)) → Rising Precedes (per_call f n ks)
rise_calls S f n ks up across within = rising_flat Precedes Less (λ i. map (f i) ks) (range_with_len 1 n) (rising_range 1 n)
    (λ i j l y w p q. let a = map_at (f i) ks y p in let b = map_at (f j) ks w q in rw (a.2, b.2) (across i j a.0 b.0 l))
    (λ i. rising_map Precedes S (f i) ks up (λ x z s. within i x z s))

-- a part of the list that begins with a family
record IsFrom (k : ℕ) (xs : List Row) : Type 0 where
  rises : Rising Precedes xs
  later : Each (λ r. k ≤ family r) xs

joined : (k : ℕ) (xs ys : List Row) → Rising Precedes xs → Each (λ r. family r ≡ k) xs → IsFrom (suc k) ys → IsFrom k (xs ++ ys)
joined k xs ys up of rest = record {
  rises = rising_append Precedes xs ys up rest.rises (λ x y p q. inl (let a : family x ≡ k = each_at (λ r. family r ≡ k) xs x of p in let b : suc k ≤ family y = each_at (λ r. suc k ≤ family r) ys y rest.later q in omega (arith, a, b)));
  later = each_append (λ r. k ≤ family r) xs ys (each_from (λ r. k ≤ family r) xs (λ x p. let a : family x ≡ k = each_at (λ r. family r ≡ k) xs x of p in omega (arith, a))) (each_from (λ r. k ≤ family r) ys (λ y q. let b : suc k ≤ family y = each_at (λ r. suc k ≤ family r) ys y rest.later q in omega (arith, b)));
}

alone : (k : ℕ) (xs : List Row) → Rising Precedes xs → Each (λ r. family r ≡ k) xs → IsFrom k xs
alone k xs up of = record { rises = up; later = each_from (λ r. k ≤ family r) xs (λ x p. let a : family x ≡ k = each_at (λ r. family r ≡ k) xs x of p in omega (arith, a)) }

-- ## Items

abbrev PairBefore : Pair → Pair → Type 0
PairBefore a b = (a.call < b.call) ⊎ ((a.call ≡ b.call) × (a.kind < b.kind))

abbrev HatchBefore : HatchPair → HatchPair → Type 0
HatchBefore a b = (a.half < b.half) ⊎ ((a.half ≡ b.half) × (a.lowest < b.lowest))

abbrev NearBefore : NearPair → NearPair → Type 0
NearBefore a b = (a.index < b.index) ⊎ ((a.index ≡ b.index) × ((a.first < b.first) ⊎ ((a.first ≡ b.first) × (a.second < b.second))))

module _ (m : Voyage) where
  abbrev l : RowLists
  l = row_lists m

  abbrev n : ℕ
  n = calls m - 1

  pairs_up : Rising PairBefore l.pairs
  pairs_up = rising_flat PairBefore Less (pairs_at m) (range_with_len 1 n) (rising_range 1 n)
      (λ i j lt y w p q. let a = map_at (λ (g : ℕ). record { call = i; kind = g }) (filter (runs m i) (range_with_len 0 (length (all_kinds m)))) y p in let b = map_at (λ (g : ℕ). record { call = j; kind = g }) (filter (runs m j) (range_with_len 0 (length (all_kinds m)))) w q in rw (a.2, b.2) (inl lt))
      (λ i. rising_map PairBefore Less (λ (g : ℕ). record { call = i; kind = g }) (filter (runs m i) (range_with_len 0 (length (all_kinds m)))) (rising_filter Less (runs m i) (range_with_len 0 (length (all_kinds m))) (rising_range 0 (length (all_kinds m)))) (λ x z lt. inr (refl, lt)))

  hatches_up : Rising HatchBefore l.hatches
  hatches_up = rising_flat HatchBefore Less (hatches_of m) (range_with_len 0 (length (halves m.ship))) (rising_range 0 (length (halves m.ship)))
      (λ h k lt y w p q. let a = map_at (λ (d : ℕ). record { half = h; lowest = d }) (filter (is_hatch m h) (range_with_len 0 (length (halves m.ship)))) y p in let b = map_at (λ (d : ℕ). record { half = k; lowest = d }) (filter (is_hatch m k) (range_with_len 0 (length (halves m.ship)))) w q in rw (a.2, b.2) (inl lt))
      (λ h. rising_map HatchBefore Less (λ (d : ℕ). record { half = h; lowest = d }) (filter (is_hatch m h) (range_with_len 0 (length (halves m.ship)))) (rising_filter Less (is_hatch m h) (range_with_len 0 (length (halves m.ship))) (rising_range 0 (length (halves m.ship)))) (λ x z lt. inr (refl, lt)))

  near_at : (e p : ℕ) (y : NearPair) → Member y (near_to m e p) → (y.index ≡ e) × (y.first ≡ p)
  near_at e p y k = let a = map_at (λ (q : ℕ). record { index = e; first = p; second = q }) (filter (is_near_by m e p) (range_with_len 0 (length (places m.ship)))) y k in (ap (λ (z : NearPair). z.index) a.2, ap (λ (z : NearPair). z.first) a.2)

  near_up : Rising NearBefore l.near
  near_up = rising_flat NearBefore Less (near_by m) (range_with_len 0 (length m.ship.separations)) (rising_range 0 (length m.ship.separations))
      (λ e f lt y w p q.
      let a = flat_at (near_to m e) (range_with_len 0 (length (places m.ship))) y p in
      let b = flat_at (near_to m f) (range_with_len 0 (length (places m.ship))) w q in
      let c = near_at e a.0 y a.2 in
      let d = near_at f b.0 w b.2 in
      inl (omega (arith, c.0, d.0, lt)))
      (λ e. rising_flat NearBefore Less (near_to m e) (range_with_len 0 (length (places m.ship))) (rising_range 0 (length (places m.ship)))
      (λ s t lt y w p q. let c = near_at e s y p in let d = near_at e t w q in inr (c.0 ∙ sym d.0, inl (omega (arith, c.1, d.1, lt))))
      (λ s. rising_map NearBefore Less (λ (q : ℕ). record { index = e; first = s; second = q }) (filter (is_near_by m e s) (range_with_len 0 (length (places m.ship)))) (rising_filter Less (is_near_by m e s) (range_with_len 0 (length (places m.ship))) (rising_range 0 (length (places m.ship)))) (λ x z lt. inr (refl, inr (refl, lt)))))

  filtered_up : (t : ℕ → _) (k : ℕ) → Rising Less (filter t (range_with_len 0 k))
  filtered_up t k = rising_filter Less t (range_with_len 0 k) (rising_range 0 k)

  -- ## Families

  flows_up : Rising Precedes (flow_rows l)
  flows_up = rising_append Precedes (map (flow_of 0) l.pairs) (map (flow_of 1) l.pairs) (each 0) (each 1)
      (λ x y p q. let a = map_at (flow_of 0) l.pairs x p in let b = map_at (flow_of 1) l.pairs y q in rw (a.2, b.2) (inr (refl, inl (omega arith))))
    where
      step : (q : ℕ) (x z : Pair) → PairBefore x z → Precedes (flow_of q x) (flow_of q z)
      step q x z (inl lt) = inr (refl, inr (refl, inl lt))
      step q x z (inr e) = inr (refl, inr (refl, inr (e.0, inl e.1)))

      each : (q : ℕ) → Rising Precedes (map (flow_of q) l.pairs)
      each q = rising_map Precedes PairBefore (flow_of q) l.pairs pairs_up (step q)

  starts_up : Rising Precedes (start_rows l)
  starts_up = rising_append Precedes (map (λ p. Start 0 p) l.filled) (map (λ p. Start 1 p) l.filled) (each 0) (each 1)
      (λ x y p q. let a = map_at (λ p. Start 0 p) l.filled x p in let b = map_at (λ p. Start 1 p) l.filled y q in rw (a.2, b.2) (inr (refl, inl (omega arith))))
    where
      each : (q : ℕ) → Rising Precedes (map (λ p. Start q p) l.filled)
      each q = rising_map Precedes Less (λ p. Start q p) l.filled (filtered_up (stands_at m) (length m.cargo.arrival)) (λ x z lt. inr (refl, inr (refl, inl lt)))

  hatch_rise : (w : ℕ) → Rising Precedes (per_call (hatch_of w) n l.hatches)
  hatch_rise w = rise_calls HatchBefore (hatch_of w) n l.hatches hatches_up (λ i j x y lt. inr (refl, inr (refl, inl lt))) step
    where
      step : (i : ℕ) (x y : HatchPair) → HatchBefore x y → Precedes (hatch_of w i x) (hatch_of w i y)
      step i x y (inl lt) = inr (refl, inr (refl, inr (refl, inl lt)))
      step i x y (inr e) = inr (refl, inr (refl, inr (refl, inr (e.0, inl e.1))))

  hatch_first : (w : ℕ) → Each (λ (r : Row). (hd : HatchPair) × (j : ℕ) × (r ≡ hatch_of w j hd)) (per_call (hatch_of w) n l.hatches)
  hatch_first w = each_call (λ (r : Row). (hd : HatchPair) × (j : ℕ) × (r ≡ hatch_of w j hd)) (hatch_of w) n l.hatches (λ j p lo hi k. (p, j, refl))

  hatches_rise : Rising Precedes (hatch_rows l)
  hatches_rise = rising_append Precedes (per_call (hatch_of 0) n l.hatches) (per_call (hatch_of 1) n l.hatches) (hatch_rise 0) (hatch_rise 1)
      (λ x y p q.
      let a = each_at (λ (r : Row). (hd : HatchPair) × (j : ℕ) × (r ≡ hatch_of 0 j hd)) (per_call (hatch_of 0) n l.hatches) x (hatch_first 0) p in
      let b = each_at (λ (r : Row). (hd : HatchPair) × (j : ℕ) × (r ≡ hatch_of 1 j hd)) (per_call (hatch_of 1) n l.hatches) y (hatch_first 1) q in
      rw (a.2, b.2) (inr (refl, inl (omega arith))))

  number_rise : (f : ℕ → ℕ → Row) (ks : List ℕ) → Rising Less ks → ((i j x y : ℕ) → i < j → Precedes (f i x) (f j y)) → ((i x y : ℕ) → x < y → Precedes (f i x) (f i y)) → Rising Precedes (per_call f n ks)
  number_rise f ks up across within = rise_calls Less f n ks up across within

  aparts_up : Rising Precedes (apart_rows l)
  aparts_up = rise_calls NearBefore apart_of n l.near near_up (λ i j x y lt. inr (refl, inl lt)) step
    where
      step : (i : ℕ) (x y : NearPair) → NearBefore x y → Precedes (apart_of i x) (apart_of i y)
      step i x y (inl lt) = inr (refl, inr (refl, inl lt))
      step i x y (inr (e, inl lt)) = inr (refl, inr (refl, inr (e, inl lt)))
      step i x y (inr (e, inr d)) = inr (refl, inr (refl, inr (e, inr (d.0, inl d.1))))

  cross_rise : (f t : ℕ) → Rising Precedes (per_call (λ p c. Cross f p c) t l.chains)
  cross_rise f t = rise_calls IsBefore (λ p c. Cross f p c) t l.chains (chains_rise (calls m)) (λ i j x y lt. inr (refl, inr (refl, inl lt))) (λ i x y b. inr (refl, inr (refl, inr (refl, b))))

  cross_first : (f t : ℕ) → Each (λ (r : Row). (p : ℕ) × (c : List ℕ) × (r ≡ Cross f p c)) (per_call (λ p c. Cross f p c) t l.chains)
  cross_first f t = each_call (λ (r : Row). (p : ℕ) × (c : List ℕ) × (r ≡ Cross f p c)) (λ p c. Cross f p c) t l.chains (λ p c lo hi k. (p, c, refl))

  crosses_up : Rising Precedes (cross_rows l)
  crosses_up = rising_append Precedes (per_call (λ p c. Cross 20 p c) l.short_tiers l.chains) (per_call (λ p c. Cross 40 p c) l.long_tiers l.chains) (cross_rise 20 l.short_tiers) (cross_rise 40 l.long_tiers)
      (λ x y p q.
      let a = each_at (λ (r : Row). (p : ℕ) × (c : List ℕ) × (r ≡ Cross 20 p c)) (per_call (λ p c. Cross 20 p c) l.short_tiers l.chains) x (cross_first 20 l.short_tiers) p in
      let b = each_at (λ (r : Row). (p : ℕ) × (c : List ℕ) × (r ≡ Cross 40 p c)) (per_call (λ p c. Cross 40 p c) l.long_tiers l.chains) y (cross_first 40 l.long_tiers) q in
      rw (a.2, b.2) (inr (refl, inl (omega arith))))

  crosses_last : IsFrom 9 (cross_rows l)
  crosses_last = alone 9 (cross_rows l) crosses_up (each_append (λ r. family r ≡ 9) (per_call (λ p c. Cross 20 p c) l.short_tiers l.chains) (per_call (λ p c. Cross 40 p c) l.long_tiers l.chains)
      (each_call (λ r. family r ≡ 9) (λ p c. Cross 20 p c) l.short_tiers l.chains (λ p c lo hi k. refl)) (each_call (λ r. family r ≡ 9) (λ p c. Cross 40 p c) l.long_tiers l.chains (λ p c lo hi k. refl)))

  aparts_from : IsFrom 8 (apart_rows l)
  aparts_from = alone 8 (apart_rows l) aparts_up (each_call (λ r. family r ≡ 8) apart_of n l.near (λ i p lo hi k. refl))

  weights_from : IsFrom 7 (from_weights l)
  weights_from = joined 7 (weight_rows l) (apart_rows l) (number_rise (λ i k. Weight i k) (range_with_len 0 l.stacks) (rising_range 0 l.stacks) (λ i j x y lt. inr (refl, inl lt)) (λ i x y lt. inr (refl, inr (refl, inl lt))))
      (each_call (λ r. family r ≡ 7) (λ i k. Weight i k) n (range_with_len 0 l.stacks) (λ i p lo hi k. refl)) aparts_from

  hatches_from : IsFrom 6 (from_hatches l)
  hatches_from = joined 6 (hatch_rows l) (from_weights l) hatches_rise (each_append (λ r. family r ≡ 6) (per_call (hatch_of 0) n l.hatches) (per_call (hatch_of 1) n l.hatches) (each_call (λ r. family r ≡ 6) (hatch_of 0) n l.hatches (λ i p lo hi k. refl)) (each_call (λ r. family r ≡ 6) (hatch_of 1) n l.hatches (λ i p lo hi k. refl))) weights_from

  blocks_from : IsFrom 5 (from_blocks l)
  blocks_from = joined 5 (block_rows l) (from_hatches l) (number_rise (λ i h. Block i h) l.lowers (filtered_up (has_above m) (length (halves m.ship))) (λ i j x y lt. inr (refl, inl lt)) (λ i x y lt. inr (refl, inr (refl, inl lt))))
      (each_call (λ r. family r ≡ 5) (λ i h. Block i h) n l.lowers (λ i p lo hi k. refl)) hatches_from

  twenties_from : IsFrom 4 (from_twenties l)
  twenties_from = joined 4 (twenty_rows l) (from_blocks l) (number_rise (λ i h. Twenty i h) l.uppers (filtered_up (has_below m) (length (halves m.ship))) (λ i j x y lt. inr (refl, inl lt)) (λ i x y lt. inr (refl, inr (refl, inl lt))))
      (each_call (λ r. family r ≡ 4) (λ i h. Twenty i h) n l.uppers (λ i p lo hi k. refl)) blocks_from

  supports_from : IsFrom 3 (from_supports l)
  supports_from = joined 3 (support_rows l) (from_twenties l) (number_rise (λ i h. Support i h) l.uppers (filtered_up (has_below m) (length (halves m.ship))) (λ i j x y lt. inr (refl, inl lt)) (λ i x y lt. inr (refl, inr (refl, inl lt))))
      (each_call (λ r. family r ≡ 3) (λ i h. Support i h) n l.uppers (λ i p lo hi k. refl)) twenties_from

  cells_from : IsFrom 2 (from_cells l)
  cells_from = joined 2 (cell_rows l) (from_supports l) (number_rise (λ i h. Cell i h) (range_with_len 0 l.halves) (rising_range 0 l.halves) (λ i j x y lt. inr (refl, inl lt)) (λ i x y lt. inr (refl, inr (refl, inl lt))))
      (each_call (λ r. family r ≡ 2) (λ i h. Cell i h) n (range_with_len 0 l.halves) (λ i p lo hi k. refl)) supports_from

  starts_from : IsFrom 1 (from_starts l)
  starts_from = joined 1 (start_rows l) (from_cells l) starts_up (each_append (λ r. family r ≡ 1) (map (λ p. Start 0 p) l.filled) (map (λ p. Start 1 p) l.filled) (each_mapped (λ r. family r ≡ 1) (λ p. Start 0 p) l.filled (λ p k. refl)) (each_mapped (λ r. family r ≡ 1) (λ p. Start 1 p) l.filled (λ p k. refl))) cells_from

  base_from : IsFrom 0 (base_rows m)
  unfolding base_in
  base_from = joined 0 (flow_rows l) (from_starts l) flows_up (each_append (λ r. family r ≡ 0) (map (flow_of 0) l.pairs) (map (flow_of 1) l.pairs) (each_mapped (λ r. family r ≡ 0) (flow_of 0) l.pairs (λ p k. refl)) (each_mapped (λ r. family r ≡ 0) (flow_of 1) l.pairs (λ p k. refl))) starts_from

  -- base rows are of the first nine families
  base_low : Each (λ r. family r ≤ 8) (base_rows m)
  base_low = each_from (λ r. family r ≤ 8) (base_rows m) (λ r k. low r (each_at (HasBase m) (base_rows m) r (base_have m) k))
    where
      low : (r : Row) → HasBase m r → family r ≤ 8
      low (Flow q i g) h = omega arith
      low (Start q p) h = omega arith
      low (Cell i k) h = omega arith
      low (Support i k) h = omega arith
      low (Twenty i k) h = omega arith
      low (Block j k) h = omega arith
      low (Hatch w j k d) h = omega arith
      low (Weight i k) h = omega arith
      low (Apart i e p q) h = omega arith
      low (Cross f p c) h = absurd (false≢true h)

  pub all_rise : Rising Precedes (all_rows m)
  unfolding rows_in
  all_rise = rising_append Precedes (base_rows m) (cross_rows l) base_from.rises crosses_up
      (λ x y p q. inl (let a : family x ≤ 8 = each_at (λ r. family r ≤ 8) (base_rows m) x base_low p in let b : 9 ≤ family y = each_at (λ r. 9 ≤ family r) (cross_rows l) y crosses_last.later q in omega (arith, a, b)))

  pub rows_rise : AllPairs Precedes (all_rows m)
  rows_rise = rising_pairs Precedes (all_rows m) all_rise
