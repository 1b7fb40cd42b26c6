-- The rows of a variable, run by run: a run has the rows that differ in their call alone, or, of crossing rows, in their price.
use Rattle.std.specs.Prelude.{ℕ, ◌+◌, ◌-◌, ◌*◌, ◌==◌, ◌&&◌, Bool, true, false, cond, List, [], ◌∷◌, ◌++◌, length, map, slice_index_or}
use Rattle.std.specs.List.{range_with_len}
use Rattle.stow_data.specs.Ship.{Ship}
use Rattle.zero_one_rows.specs.declared.program.Var.{Var}
use Rattle.zero_one_rows.specs.declared.program.Row.{Row}
use Rattle.zero_one_rows.specs.declared.program.Row.TheVariants.{Flow, Start, Cell, Support, Twenty, Block, Hatch, Weight, Apart, Cross}
use Rattle.zero_one_rows.specs.Variables.{Voyage, calls, place}
use Rattle.zero_one_rows.specs.Crossing.{tallest, length_of}
use Rattle.zero_one_rows.specs.Rows.{has}
use Rattle.zero_one_rows.specs.Counted.{base_rows, all_chains}
use Rattle.zero_one_rows.specs.Grouping.{IsGrouped}
use Rattle.zero_one_model.specs.Indexed.{stands, half_key, place_key, below_key, above_key}
use Rattle.zero_one_model.specs.declared.filing.RowFiles.{RowFiles}

-- the row at this call, or price; an arrival row has neither
abbrev pub at_call : Row → ℕ → Row
at_call (Flow q i g) n = Flow q n g
at_call (Start q p) n = Start q p
at_call (Cell i h) n = Cell n h
at_call (Support i h) n = Support n h
at_call (Twenty i h) n = Twenty n h
at_call (Block j h) n = Block n h
at_call (Hatch w j h d) n = Hatch w n h d
at_call (Weight i k) n = Weight n k
at_call (Apart i e p q) n = Apart n e p q
at_call (Cross l p c) n = Cross l n c

abbrev pub call_of : Row → ℕ
call_of (Flow q i g) = i
call_of (Start q p) = 1
call_of (Cell i h) = i
call_of (Support i h) = i
call_of (Twenty i h) = i
call_of (Block j h) = j
call_of (Hatch w j h d) = j
call_of (Weight i k) = i
call_of (Apart i e p q) = i
call_of (Cross l p c) = p

-- the row that stands for its run
abbrev pub lead : Row → Row
lead r = at_call r 1

-- of a family whose rows are filed by the tiers of one or two half-cells or places
abbrev pub is_shelved : Row → Bool
is_shelved (Flow q i g) = false
is_shelved (Start q p) = false
is_shelved (Cell i h) = true
is_shelved (Support i h) = true
is_shelved (Twenty i h) = true
is_shelved (Block j h) = true
is_shelved (Hatch w j h d) = true
is_shelved (Weight i k) = false
is_shelved (Apart i e p q) = true
is_shelved (Cross l p c) = false

abbrev pub leads : Row → Bool
leads r = is_shelved r && (call_of r == 1)

module _ (ship : Ship) where
  -- the tier of the first half-cell or place of such a row, and that of the second, or the first again
  abbrev pub first_shelf : Row → ℕ
  first_shelf (Flow q i g) = 0
  first_shelf (Start q p) = 0
  first_shelf (Cell i h) = half_key ship h
  first_shelf (Support i h) = half_key ship h
  first_shelf (Twenty i h) = half_key ship h
  first_shelf (Block j h) = half_key ship h
  first_shelf (Hatch w j h d) = half_key ship h
  first_shelf (Weight i k) = 0
  first_shelf (Apart i e p q) = place_key ship p
  first_shelf (Cross l p c) = 0

  abbrev pub second_shelf : Row → ℕ
  second_shelf (Flow q i g) = 0
  second_shelf (Start q p) = 0
  second_shelf (Cell i h) = half_key ship h
  second_shelf (Support i h) = below_key ship h
  second_shelf (Twenty i h) = below_key ship h
  second_shelf (Block j h) = above_key ship h
  second_shelf (Hatch w j h d) = half_key ship d
  second_shelf (Weight i k) = 0
  second_shelf (Apart i e p q) = place_key ship q
  second_shelf (Cross l p c) = 0

  -- a number that no tier has
  abbrev pub no_shelf : ℕ
  no_shelf = length ship.stacks * 40

  -- where the row is filed; it is filed by its second tier only where that is another
  abbrev pub first_file : Row → ℕ
  first_file r = cond (leads r) (first_shelf r) no_shelf

  abbrev pub second_file : Row → ℕ
  second_file r = cond (second_shelf r == first_shelf r) no_shelf (cond (leads r) (second_shelf r) no_shelf)

-- the numbers of those of these rows that lead a run, by their first tier and by their second
pub record AreFiled (ship : Ship) (rows : List Row) (f : RowFiles) : Type 0 where
  pub by_first : IsGrouped (map (first_file ship) rows) (no_shelf ship) f.by_first
  pub by_second : IsGrouped (map (second_file ship) rows) (no_shelf ship) f.by_second

abbrev pub IsFiled : Voyage → RowFiles → Type 0
IsFiled m f = AreFiled m.ship (base_rows m) f

abbrev pub no_row : Row
no_row = Start 0 0

module _ (m : Voyage) where
  abbrev pub base_row : ℕ → Row
  base_row k = slice_index_or (base_rows m) k no_row

  -- the calls of a run in which a variable may stand: from its put to its lifting
  abbrev pub calls_for : Var → Row → List ℕ
  calls_for x (Flow q i g) = range_with_len x.put (x.lifted - x.put + 1)
  calls_for x (Start q p) = range_with_len 1 1
  calls_for x (Cell i h) = range_with_len x.put (x.lifted - x.put + 1)
  calls_for x (Support i h) = range_with_len x.put (x.lifted - x.put + 1)
  calls_for x (Twenty i h) = range_with_len x.put (x.lifted - x.put + 1)
  calls_for x (Block j h) = range_with_len x.put (x.lifted - x.put + 1)
  calls_for x (Hatch w j h d) = range_with_len x.put (x.lifted - x.put + 1)
  calls_for x (Weight i k) = range_with_len x.put (x.lifted - x.put + 1)
  calls_for x (Apart i e p q) = range_with_len x.put (x.lifted - x.put + 1)
  calls_for x (Cross l p c) = range_with_len 1 (tallest m.ship (length_of l))

  abbrev pub run_of : Var → Row → List Row
  run_of x r = map (at_call r) (calls_for x r)

  -- the program has the row, and the variable stands in it
  abbrev pub meets : ℕ → Row → Bool
  meets x r = has m r && stands m r x

  -- the runs that the numbers of a variable name, and the crossing runs of a length
  abbrev pub named_runs : Var → List Row
  named_runs x = Flow 0 1 x.kind ∷ Flow 1 1 x.kind ∷ Start 0 x.place ∷ Start 1 x.place ∷ Weight 1 (place m x.place).stack ∷ []

  abbrev pub chain_runs : ℕ → List Row
  chain_runs l = map (λ c. Cross l 1 c) (all_chains (calls m))

  -- all runs in which a variable may stand, where these are the filed ones
  abbrev pub runs_for : Var → List ℕ → List ℕ → List Row
  runs_for x first second = named_runs x ++ (map base_row first ++ (map base_row second ++ (chain_runs 20 ++ chain_runs 40)))
