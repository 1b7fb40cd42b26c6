-- How long each family's part of the list of rows is.
use Rattle.std.proofs.Common.{◌≡◌, ℕ, ◌<◌, ◌≤◌, ◌-◌, ◌*◌, List, arith, sym, ◌∙◌, ap, length, Some}
use Rattle.std.specs.Prelude.{slice_get}
use Rattle.zero_one_rows.specs.declared.program.Row.{Row}
use Rattle.zero_one_rows.specs.declared.program.Row.TheVariants.{Start, Cell, Support, Twenty, Block, Weight, Cross}
use Rattle.zero_one_rows.specs.Counted.{per_call, flow_of, hatch_of, apart_of, flow_rows, start_rows, cell_rows, support_rows, twenty_rows, block_rows, hatch_rows, weight_rows, apart_rows, cross_rows, from_starts, base_in, rows_in}
use Rattle.zero_one_rows.specs.declared.row_lists.RowLists.{RowLists}
use Rattle.zero_one_rows.proofs.Numbered.{length_calls, length_first, two_long, two_calls_long, in_rest, rest_inside, first_few, rest_few}
use Rattle.stow_data.proofs.InOrder.{get_left}

module _ (r : RowLists) where
  pub flows_long : (u : ℕ) → u ≡ length r.pairs → 2 * u ≡ length (flow_rows r)
  flows_long u e = let a = two_long (flow_of 0) (flow_of 1) r.pairs in omega (arith, a, e)

  pub starts_long : (u : ℕ) → u ≡ length r.filled → 2 * u ≡ length (start_rows r)
  starts_long u e = let a = two_long (λ (p : ℕ). Start 0 p) (λ (p : ℕ). Start 1 p) r.filled in omega (arith, a, e)

  pub cells_long : r.calls * r.halves ≡ length (cell_rows r)
  cells_long = sym (length_first (λ i h. Cell i h) r.halves r.calls)

  pub supports_long : (u : ℕ) → u ≡ length r.uppers → r.calls * u ≡ length (support_rows r)
  supports_long u e = ap (λ (z : ℕ). r.calls * z) e ∙ sym (length_calls (λ (i h : ℕ). Support i h) r.uppers r.calls)

  pub twenties_long : (u : ℕ) → u ≡ length r.uppers → r.calls * u ≡ length (twenty_rows r)
  twenties_long u e = ap (λ (z : ℕ). r.calls * z) e ∙ sym (length_calls (λ (i h : ℕ). Twenty i h) r.uppers r.calls)

  pub blocks_long : (u : ℕ) → u ≡ length r.lowers → r.calls * u ≡ length (block_rows r)
  blocks_long u e = ap (λ (z : ℕ). r.calls * z) e ∙ sym (length_calls (λ (i h : ℕ). Block i h) r.lowers r.calls)

  pub hatches_long : (u : ℕ) → u ≡ length r.hatches → 2 * (r.calls * u) ≡ length (hatch_rows r)
  hatches_long u e = let a = two_calls_long (hatch_of 0) (hatch_of 1) r.calls r.hatches in let b = ap (λ (z : ℕ). r.calls * z) e in omega (arith, a, b)

  pub weights_long : r.calls * r.stacks ≡ length (weight_rows r)
  weights_long = sym (length_first (λ i k. Weight i k) r.stacks r.calls)

  pub aparts_long : r.calls * length r.near ≡ length (apart_rows r)
  aparts_long = sym (length_calls apart_of r.near r.calls)

  pub shorts_long : (u : ℕ) → u ≡ length r.chains → r.short_tiers * u ≡ length (per_call (λ p c. Cross 20 p c) r.short_tiers r.chains)
  shorts_long u e = ap (λ (z : ℕ). r.short_tiers * z) e ∙ sym (length_calls (λ (p : ℕ) (c : List ℕ). Cross 20 p c) r.chains r.short_tiers)

  pub longs_long : r.long_tiers * length r.chains ≡ length (per_call (λ p c. Cross 40 p c) r.long_tiers r.chains)
  longs_long = sym (length_calls (λ (p : ℕ) (c : List ℕ). Cross 40 p c) r.chains r.long_tiers)

  -- the first family, and the rest of the base rows
  pub flows_few : length (base_in r) ≤ 2000000 → length (flow_rows r) ≤ 2000000
  unfolding base_in
  flows_few h = first_few (flow_rows r) (from_starts r) 2000000 h

  pub past_flows_few : length (base_in r) ≤ 2000000 → length (from_starts r) ≤ 2000000
  unfolding base_in
  past_flows_few h = rest_few (flow_rows r) (from_starts r) 2000000 h

  pub in_flows : (k : ℕ) (x : Row) → slice_get (flow_rows r) k ≡ Some x → slice_get (base_in r) k ≡ Some x
  unfolding base_in
  in_flows k x h = get_left (flow_rows r) (from_starts r) k x h

  pub past_flows : (n k : ℕ) (x : Row) → n ≡ length (flow_rows r) → n ≤ k → slice_get (from_starts r) (k - n) ≡ Some x → slice_get (base_in r) k ≡ Some x
  unfolding base_in
  past_flows n k x e l h = in_rest (flow_rows r) (from_starts r) n k x e l h

  pub past_flows_inside : (n k : ℕ) → n ≡ length (flow_rows r) → n ≤ k → k < length (base_in r) → k - n < length (from_starts r)
  unfolding base_in
  past_flows_inside n k e l h = rest_inside (flow_rows r) (from_starts r) n k e l h

  -- base rows and crossing rows
  pub base_few : length (rows_in r) ≤ 2000000 → length (base_in r) ≤ 2000000
  unfolding rows_in
  base_few h = first_few (base_in r) (cross_rows r) 2000000 h

  pub crosses_few : length (rows_in r) ≤ 2000000 → length (cross_rows r) ≤ 2000000
  unfolding rows_in
  crosses_few h = rest_few (base_in r) (cross_rows r) 2000000 h

  pub in_base : (k : ℕ) (x : Row) → slice_get (base_in r) k ≡ Some x → slice_get (rows_in r) k ≡ Some x
  unfolding rows_in
  in_base k x h = get_left (base_in r) (cross_rows r) k x h

  pub past_base : (n k : ℕ) (x : Row) → n ≡ length (base_in r) → n ≤ k → slice_get (cross_rows r) (k - n) ≡ Some x → slice_get (rows_in r) k ≡ Some x
  unfolding rows_in
  past_base n k x e l h = in_rest (base_in r) (cross_rows r) n k x e l h

  pub past_base_inside : (n k : ℕ) → n ≡ length (base_in r) → n ≤ k → k < length (rows_in r) → k - n < length (cross_rows r)
  unfolding rows_in
  past_base_inside n k e l h = rest_inside (base_in r) (cross_rows r) n k e l h
