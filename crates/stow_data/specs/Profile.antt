-- The rules that a ship's profile obeys.
use Rattle.std.specs.Prelude.{◌≡◌, ◌≢◌, ◌⊎◌, ℕ, ◌+◌, ◌-◌, ◌*◌, ◌%◌, ◌^◌, ◌<◌, ◌≤◌, Bool, true, false, ◌&&◌, ◌||◌, ◌==◌, nat_le, List, ◌++◌, length, flat_map, slice_get, Some, Contains, IsTrue, All, AllPairs}
use Rattle.std.specs.List.{list_all}
use Rattle.stow_data.specs.declared.geometry.Stack.{Stack}
use Rattle.stow_data.specs.declared.geometry.Cover.{Cover}
use Rattle.stow_data.specs.declared.geometry.Separation.{Separation}
use Rattle.stow_data.specs.Ship.{Ship, places, sides}

-- A to Z, 0 to 9, space, comma, dash, dot and slash
abbrev pub is_name_byte : ℕ → Bool
is_name_byte b = (nat_le 65 b && nat_le b 90) || ((nat_le 44 b && nat_le b 57) || (b == 32))

-- a text of 1 to 35 such bytes
abbrev pub is_name : List ℕ → Bool
is_name s = (nat_le 1 (length s) && nat_le (length s) 35) && list_all is_name_byte s

-- A to Z, 0 to 9 and dot
abbrev pub is_class_byte : ℕ → Bool
is_class_byte b = (nat_le 65 b && nat_le b 90) || ((nat_le 48 b && nat_le b 57) || (b == 46))

-- a text of 1 to 8 such bytes
abbrev pub is_class : List ℕ → Bool
is_class s = (nat_le 1 (length s) && nat_le (length s) 8) && list_all is_class_byte s

-- the tier number of the highest cell
abbrev pub highest : Stack → ℕ
highest s = s.lowest + 2 * (s.tiers - 1)

-- a stack is in the hold, with tiers 02 to 78, or on deck, with tiers 80 to 98
abbrev pub IsInHold : Stack → Type 0
IsInHold s = (2 ≤ s.lowest) × (highest s ≤ 78)

abbrev pub IsOnDeck : Stack → Type 0
IsOnDeck s = (80 ≤ s.lowest) × (highest s ≤ 98)

pub record IsStack (s : Stack) : Type 0 where
  pub bay_even : s.bay % 2 ≡ 0
  pub bay_from : 2 ≤ s.bay
  pub bay_to : s.bay ≤ 998
  pub row_to : s.row ≤ 99
  pub has_tiers : 1 ≤ s.tiers
  pub tiers_even : s.lowest % 2 ≡ 0
  pub part : IsInHold s ⊎ IsOnDeck s
  pub limit_from : 1 ≤ s.limit_kg
  pub limit_to : s.limit_kg ≤ 1000000
  pub plug_each : length s.plugs ≡ s.tiers

-- the odd bays of its half-cells: fore is bay - 1, aft is bay + 1
abbrev pub HasOddBay : Stack → ℕ → Type 0
HasOddBay s odd = ((odd + 1 ≡ s.bay) × Contains (sides s.lengths) false) ⊎ ((odd ≡ s.bay + 1) × Contains (sides s.lengths) true)

-- two stacks share a cell where they have an odd bay in common, in one row and in one part of the ship
pub record SharesCell (s t : Stack) : Type 0 where
  pub odd : ℕ
  pub in_first : HasOddBay s odd
  pub in_second : HasOddBay t odd
  pub same_row : s.row ≡ t.row
  pub same_part : (IsInHold s × IsInHold t) ⊎ (IsOnDeck s × IsOnDeck t)

-- the stacks that the covers name, one after the other
abbrev pub stacks_named : List Cover → List ℕ
stacks_named covers = flat_map (λ c. c.under) covers ++ flat_map (λ c. c.on) covers

pub record IsCover (ship : Ship) (c : Cover) : Type 0 where
  pub under : (s : ℕ) → Contains c.under s → (stack : Stack) × (slice_get ship.stacks s ≡ Some stack) × IsInHold stack
  pub on : (s : ℕ) → Contains c.on s → (stack : Stack) × (slice_get ship.stacks s ≡ Some stack) × IsOnDeck stack

pub record IsSeparation (e : Separation) : Type 0 where
  pub first : IsTrue (is_class e.a)
  pub second : IsTrue (is_class e.b)
  pub level_from : 1 ≤ e.level
  pub level_to : e.level ≤ 3

-- the same pair of classes, in either order
abbrev pub SamePair : Separation → Separation → Type 0
SamePair d e = ((d.a ≡ e.a) × (d.b ≡ e.b)) ⊎ ((d.a ≡ e.b) × (d.b ≡ e.a))

-- what every ship obeys
pub record IsShip (ship : Ship) : Type 0 where
  pub named : IsTrue (is_name ship.name)
  pub step_from : 1 ≤ ship.weight_step
  pub step_to : ship.weight_step ≤ 10000
  pub has_stacks : 1 ≤ length ship.stacks
  pub each_stack : All IsStack ship.stacks
  pub apart : AllPairs (λ s t. SharesCell s t → ⊥) ship.stacks
  pub each_cover : All (IsCover ship) ship.covers
  pub named_once : AllPairs (λ s t. s ≢ t) (stacks_named ship.covers)
  pub each_separation : All IsSeparation ship.separations
  pub pairs_once : AllPairs (λ d e. SamePair d e → ⊥) ship.separations
  pub few_places : length (places ship) ≤ 3000
  pub few_stacks : length ship.stacks < 2 ^ 32
  pub few_covers : length ship.covers < 2 ^ 32
  pub few_separations : length ship.separations < 2 ^ 32
