-- The table of the places' numbers.
use Rattle.std.specs.Prelude.{◌≡◌, ℕ, ◌+◌, ◌*◌, ◌≤◌, List, Some, MatchOption, slice_get}
use Rattle.std.specs.declared.cmp.Ordering.{Ordering}
use Rattle.std.specs.Ordering.{nat_cmp, ordering_then}
use Rattle.std.specs.BTreeMap.{BTreeMap, get}
use Rattle.stow_data.specs.declared.geometry.Stack.{Stack}
use Rattle.stow_data.specs.declared.geometry.Place.{Place}
use Rattle.stow_data.specs.declared.cells.CellNumber.{CellNumber}
use Rattle.stow_data.specs.Ship.{bay_of}

-- by bay, then row, then tier
abbrev pub cell_order : CellNumber → CellNumber → Ordering
cell_order a b = ordering_then (nat_cmp a.bay b.bay) (ordering_then (nat_cmp a.row b.row) (nat_cmp a.tier b.tier))

-- the number of a place in its stack
abbrev pub cell_number : Stack → Place → CellNumber
cell_number stack place = record { bay = bay_of stack.bay place.span; row = stack.row; tier = stack.lowest + 2 * place.tier }

-- what bounds the number of a place
pub record IsBounded (stack : Stack) (place : Place) : Type 0 where
  pub bay_from : 2 ≤ stack.bay
  pub bay_to : stack.bay ≤ 998
  pub tier_to : stack.lowest + 2 * place.tier ≤ 98

-- place p of the list has this number
pub record HasCell (stacks : List Stack) (places : List Place) (p : ℕ) (number : CellNumber) : Type 0 where
  pub place : Place
  pub is_place : slice_get places p ≡ Some place
  pub stack : Stack
  pub is_stack : slice_get stacks place.stack ≡ Some stack
  pub is_number : cell_number stack place ≡ number

-- each place stands on a stack that bounds its number
abbrev pub EachBounded : List Stack → List Place → Type 0
EachBounded stacks places = (p : ℕ) (place : Place) → slice_get places p ≡ Some place → (stack : Stack) × (slice_get stacks place.stack ≡ Some stack) × IsBounded stack place

-- the table leads from each number to a place that has it
pub record IsCellTable (stacks : List Stack) (places : List Place) (table : BTreeMap CellNumber ℕ) : Type 0 where
  pub leads : (number : CellNumber) → MatchOption (get cell_order table number) ((p : ℕ) → HasCell stacks places p number → ⊥) (λ p. HasCell stacks places p number)
