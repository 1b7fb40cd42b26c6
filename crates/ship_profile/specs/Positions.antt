-- Where stacks and half-cells stand, and what is found there.
use Rattle.std.specs.Prelude.{◌≡◌, ℕ, Bool, true, false, ℤ, pos, List, [], unwrap_or}
use Rattle.std.specs.List.{list_any}
use Rattle.std.specs.declared.cmp.Ordering.{Ordering}
use Rattle.std.specs.Ordering.{nat_cmp, int_cmp, bool_cmp, ordering_then}
use Rattle.std.specs.BTreeMap.{BTreeMap, get}
use Rattle.std.specs.BTreeSet.{BTreeSet, contains}
use Rattle.stow_data.specs.declared.geometry.Stack.{Stack}
use Rattle.ship_profile.specs.declared.position.Position.{Position}
use Rattle.ship_profile.specs.declared.covers.Part.{Part}
use Rattle.ship_profile.specs.declared.covers.Part.TheVariants.{Hold, Deck}
use Rattle.ship_profile.specs.Stacks.{has_cell_of, is_among, is_on_deck}
use Rattle.ship_profile.specs.Covers.{stacks_at}

-- by bay, then row, then the hold before the deck
abbrev pub position_order : Position → Position → Ordering
position_order p q = ordering_then (int_cmp p.bay q.bay) (ordering_then (int_cmp p.row q.row) (bool_cmp p.on_deck q.on_deck))

-- a stack's row and part of the ship, in this bay
abbrev pub position_in : ℕ → Stack → Position
position_in bay stack = record { bay = pos bay; row = pos stack.row; on_deck = is_on_deck stack }

abbrev pub is_deck : Part → Bool
is_deck Hold = false
is_deck Deck = true

-- a bay and row in a part of the ship
abbrev pub position_of : Part → ℤ × ℤ → Position
position_of part pair = record { bay = pair.0; row = pair.1; on_deck = is_deck part }

-- a look-up finds the half-cells of these stacks, and no others
pub record AreCells (cells : BTreeSet Position) (stacks : List Stack) : Type 0 where
  pub same : (s : Stack) (odd : ℕ) → contains position_order cells (position_in odd s) ≡ list_any (has_cell_of s odd) stacks

-- the stacks that a table leads to from a position
abbrev pub listed_at : BTreeMap Position (List ℕ) → Position → List ℕ
listed_at table position = unwrap_or (get position_order table position) []

-- the table leads to all stacks at a position
pub record IsStackTable (table : BTreeMap Position (List ℕ)) (stacks : List Stack) : Type 0 where
  pub same : (part : Part) (pair : ℤ × ℤ) → listed_at table (position_of part pair) ≡ stacks_at part stacks pair

-- the set has these numbers, and no others
pub record HasNumbers (set : BTreeSet ℕ) (numbers : List ℕ) : Type 0 where
  pub same : (n : ℕ) → contains nat_cmp set n ≡ is_among numbers n
