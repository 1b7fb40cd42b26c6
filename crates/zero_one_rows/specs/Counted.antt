-- The rows of the program in their order, family by family: for what each family has a row, and the rows.
use Rattle.std.specs.Prelude.{◌≡◌, ℕ, ◌+◌, ◌-◌, ◌^◌, ◌<◌, Bool, ◌⊎◌, ◌&&◌, ◌==◌, nat_lt, nat_le, List, ◌++◌, length, map, flat_map, filter, slice_index_or, Option, None, Some, false}
use Rattle.std.specs.List.{range_with_len}
use Rattle.zero_one_rows.specs.ToCome.{chains_of}
use Rattle.stow_data.specs.declared.geometry.Length.TheVariants.{Twenty as Short, Forty}
use Rattle.stow_data.specs.Ship.{halves, places}
use Rattle.stow_data.specs.Near.{near}
use Rattle.zero_one_rows.specs.declared.program.Row.{Row}
use Rattle.zero_one_rows.specs.declared.program.Row.TheVariants.{Flow, Start, Cell, Support, Twenty, Block, Hatch, Weight, Apart, Cross}
use Rattle.zero_one_rows.specs.Variables.{Voyage, calls, kind, place, all_kinds}
use Rattle.zero_one_rows.specs.Crossing.{tallest}
use Rattle.zero_one_rows.specs.Rows.{half, stack, separation, cover_joins, is_filled}
use Rattle.zero_one_rows.specs.declared.row_lists.Pair.{Pair}
use Rattle.zero_one_rows.specs.declared.row_lists.HatchPair.{HatchPair}
use Rattle.zero_one_rows.specs.declared.row_lists.NearPair.{NearPair}
use Rattle.zero_one_rows.specs.declared.row_lists.RowLists.{RowLists}

-- every chain of the calls 0 to n, in lexical order, a prefix first
abbrev pub all_chains : ℕ → List (List ℕ)
all_chains n = chains_of (n + 1) (2 ^ (n + 1)) 0

-- both are there, and the same
abbrev pub is_one : Option ℕ → Option ℕ → Bool
is_one None o = false
is_one (Some c) None = false
is_one (Some c) (Some d) = c == d

module _ (m : Voyage) where
  -- containers of kind g are on their way after call i
  abbrev pub runs : ℕ → ℕ → Bool
  runs i g = nat_le (kind m g).first i && nat_lt i (kind m g).dest

  abbrev pub has_below : ℕ → Bool
  has_below h = nat_lt 0 (half m h).tier

  abbrev pub has_above : ℕ → Bool
  has_above h = nat_lt ((half m h).tier + 1) (stack m (half m h).stack).tiers

  abbrev pub stands_at : ℕ → Bool
  stands_at p = is_filled (slice_index_or m.cargo.arrival p None)

  -- h lies under a cover on which d is the lowest half-cell of its column
  abbrev pub is_hatch : ℕ → ℕ → Bool
  is_hatch h d = ((half m d).tier == 0) && cover_joins m.ship.covers (half m h).stack (half m d).stack

  abbrev pub is_near_by : ℕ → ℕ → ℕ → Bool
  is_near_by e p q = near m.ship (separation m e).level (place m p) (place m q)

  -- call and kind; half-cell and lowest half-cell; separation and places
  abbrev pub pairs_at : ℕ → List Pair
  pairs_at i = map (λ g. record { call = i; kind = g }) (filter (runs i) (range_with_len 0 (length (all_kinds m))))

  abbrev pub hatches_of : ℕ → List HatchPair
  hatches_of h = map (λ d. record { half = h; lowest = d }) (filter (is_hatch h) (range_with_len 0 (length (halves m.ship))))

  abbrev pub near_to : ℕ → ℕ → List NearPair
  near_to e p = map (λ q. record { index = e; first = p; second = q }) (filter (is_near_by e p) (range_with_len 0 (length (places m.ship))))

  abbrev pub near_by : ℕ → List NearPair
  near_by e = flat_map (near_to e) (range_with_len 0 (length (places m.ship)))

  -- the lists of a voyage
  abbrev pub row_lists : RowLists
  row_lists = record {
    calls = calls m - 1;
    halves = length (halves m.ship);
    stacks = length m.ship.stacks;
    short_tiers = tallest m.ship Short;
    long_tiers = tallest m.ship Forty;
    pairs = flat_map pairs_at (range_with_len 1 (calls m - 1));
    filled = filter stands_at (range_with_len 0 (length m.cargo.arrival));
    uppers = filter has_below (range_with_len 0 (length (halves m.ship)));
    lowers = filter has_above (range_with_len 0 (length (halves m.ship)));
    hatches = flat_map hatches_of (range_with_len 0 (length (halves m.ship)));
    near = flat_map near_by (range_with_len 0 (length m.ship.separations));
    chains = all_chains (calls m);
  }

-- for each of the numbers 1 to n (calls, or prices) a row for each of these items
abbrev pub per_call : {X : Type 0} → (ℕ → X → Row) → ℕ → List X → List Row
per_call f n xs = flat_map (λ i. map (f i) xs) (range_with_len 1 n)

abbrev pub flow_of : ℕ → Pair → Row
flow_of q p = Flow q p.call p.kind

abbrev pub hatch_of : ℕ → ℕ → HatchPair → Row
hatch_of w j p = Hatch w j p.half p.lowest

abbrev pub apart_of : ℕ → NearPair → Row
apart_of i p = Apart i p.index p.first p.second

-- the rows by family, and then by their numbers
module _ (r : RowLists) where
  abbrev pub flow_rows : List Row
  flow_rows = map (flow_of 0) r.pairs ++ map (flow_of 1) r.pairs

  abbrev pub start_rows : List Row
  start_rows = map (λ p. Start 0 p) r.filled ++ map (λ p. Start 1 p) r.filled

  abbrev pub cell_rows : List Row
  cell_rows = per_call (λ i h. Cell i h) r.calls (range_with_len 0 r.halves)

  abbrev pub support_rows : List Row
  support_rows = per_call (λ i h. Support i h) r.calls r.uppers

  abbrev pub twenty_rows : List Row
  twenty_rows = per_call (λ i h. Twenty i h) r.calls r.uppers

  abbrev pub block_rows : List Row
  block_rows = per_call (λ j h. Block j h) r.calls r.lowers

  abbrev pub hatch_rows : List Row
  hatch_rows = per_call (hatch_of 0) r.calls r.hatches ++ per_call (hatch_of 1) r.calls r.hatches

  abbrev pub weight_rows : List Row
  weight_rows = per_call (λ i k. Weight i k) r.calls (range_with_len 0 r.stacks)

  abbrev pub apart_rows : List Row
  apart_rows = per_call apart_of r.calls r.near

  abbrev pub cross_rows : List Row
  cross_rows = per_call (λ p c. Cross 20 p c) r.short_tiers r.chains ++ per_call (λ p c. Cross 40 p c) r.long_tiers r.chains

  -- base rows from a family on
  abbrev pub from_weights : List Row
  from_weights = weight_rows ++ apart_rows

  abbrev pub from_hatches : List Row
  from_hatches = hatch_rows ++ from_weights

  abbrev pub from_blocks : List Row
  from_blocks = block_rows ++ from_hatches

  abbrev pub from_twenties : List Row
  from_twenties = twenty_rows ++ from_blocks

  abbrev pub from_supports : List Row
  from_supports = support_rows ++ from_twenties

  abbrev pub from_cells : List Row
  from_cells = cell_rows ++ from_supports

  abbrev pub from_starts : List Row
  from_starts = start_rows ++ from_cells

  unfoldable pub base_in : List Row
  base_in = flow_rows ++ from_starts

  unfoldable pub rows_in : List Row
  rows_in = base_in ++ cross_rows

-- how many base rows stand for one call
abbrev pub rows_a_call : RowLists → ℕ
rows_a_call r = r.halves + length r.uppers + length r.uppers + length r.lowers + length r.hatches + length r.hatches + r.stacks + length r.near

-- item k of two lists of n items, one behind the other, is item j of list q
pub record IsOfTwo (n k q j : ℕ) : Type 0 where
  pub which : ((q ≡ 0) × (k ≡ j)) ⊎ ((q ≡ 1) × (k ≡ n + j))
  pub inside : j < n

-- the base rows of the program in their order; all its rows, the base rows first
abbrev pub base_rows : Voyage → List Row
base_rows m = base_in (row_lists m)

abbrev pub all_rows : Voyage → List Row
all_rows m = rows_in (row_lists m)
