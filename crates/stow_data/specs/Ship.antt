-- A ship: stacks, half-cells, places, columns and covers (ISO 9711).
use Rattle.std.specs.Prelude.{◌≡◌, ℕ, ◌+◌, ◌-◌, ◌*◌, Bool, true, false, not, ◌&&◌, ◌||◌, List, [], ◌∷◌, Some, slice_get, slice_index_or, flat_map, map, Contains, IsTrue}
use Rattle.std.specs.List.{enumerate_from, range_with_len}
use Rattle.stow_data.specs.declared.geometry.Stack.{Stack}
use Rattle.stow_data.specs.declared.geometry.Cover.{Cover}
use Rattle.stow_data.specs.declared.geometry.Separation.{Separation}
use Rattle.stow_data.specs.declared.geometry.Half.{Half}
use Rattle.stow_data.specs.declared.geometry.Place.{Place}
use Rattle.stow_data.specs.declared.geometry.Length.{Length}
use Rattle.stow_data.specs.declared.geometry.Length.TheVariants as length_of
use Rattle.stow_data.specs.declared.geometry.Span.{Span}
use Rattle.stow_data.specs.declared.geometry.Span.TheVariants.{Fore, Aft, Both}
use Rattle.stow_data.specs.declared.geometry.Lengths.{Lengths}
use Rattle.stow_data.specs.declared.geometry.Lengths.TheVariants.{Forty, Twenty, Mixed, ForeOnly, AftOnly}

-- what contracts see of a ship
pub record Ship : Type 0 where
  pub name : List ℕ
  pub weight_step : ℕ
  pub stacks : List Stack
  pub covers : List Cover
  pub separations : List Separation

-- what a stack offers in each of its tiers
abbrev pub spans : Lengths → List Span
spans Forty = Both ∷ []
spans Twenty = Fore ∷ Aft ∷ []
spans Mixed = Fore ∷ Aft ∷ Both ∷ []
spans ForeOnly = Fore ∷ []
spans AftOnly = Aft ∷ []

-- the sides of its half-cells: fore is false, aft is true
abbrev pub sides : Lengths → List Bool
sides ForeOnly = false ∷ []
sides AftOnly = true ∷ []
sides Forty = false ∷ true ∷ []
sides Twenty = false ∷ true ∷ []
sides Mixed = false ∷ true ∷ []

-- the places of a tier, and of a stack: tier from the bottom, then Fore, Aft, Both
abbrev pub tier_places : ℕ → Stack → ℕ → List Place
tier_places number stack tier = map (λ span. record { stack = number; tier = tier; span = span; plug = slice_index_or stack.plugs tier false }) (spans stack.lengths)

abbrev pub stack_places : ℕ × Stack → List Place
stack_places s = flat_map (tier_places s.0 s.1) (range_with_len 0 s.1.tiers)

-- by stack, then tier from the bottom, then Fore, Aft, Both
unfoldable pub places : Ship → List Place
places ship = flat_map stack_places (enumerate_from 0 ship.stacks)

-- the half-cells of a tier, and of a stack: tier from the bottom, then fore before aft
abbrev pub tier_halves : ℕ → Stack → ℕ → List Half
tier_halves number stack tier = map (λ side. record { stack = number; tier = tier; aft = side }) (sides stack.lengths)

abbrev pub stack_halves : ℕ × Stack → List Half
stack_halves s = flat_map (tier_halves s.0 s.1) (range_with_len 0 s.1.tiers)

-- by stack, then tier from the bottom, then fore before aft
unfoldable pub halves : Ship → List Half
halves ship = flat_map stack_halves (enumerate_from 0 ship.stacks)

-- the sides that a span takes
abbrev pub TakesSide : Span → Bool → Type 0
TakesSide Fore side = side ≡ false
TakesSide Aft side = side ≡ true
TakesSide Both side = Unit {0}

-- the half-cell is one of the place's
pub record HasHalf (p : Place) (h : Half) : Type 0 where
  pub same_stack : h.stack ≡ p.stack
  pub same_tier : h.tier ≡ p.tier
  pub side : TakesSide p.span h.aft

-- the half-cell of a place on one side
abbrev pub half_at : Place → Bool → Half
half_at p side = record { stack = p.stack; tier = p.tier; aft = side }

-- directly above: in one column, in the next tier
abbrev pub half_over : Place → Bool → Half
half_over p side = record { stack = p.stack; tier = p.tier + 1; aft = side }

pub record IsDirectlyAbove (upper lower : Half) : Type 0 where
  pub same_stack : upper.stack ≡ lower.stack
  pub same_side : upper.aft ≡ lower.aft
  pub next_tier : upper.tier ≡ lower.tier + 1

-- half-cell u is directly above half-cell h
pub record IsAbove (ship : Ship) (u h : ℕ) : Type 0 where
  pub upper : Half
  pub is_upper : slice_get (halves ship) u ≡ Some upper
  pub lower : Half
  pub is_lower : slice_get (halves ship) h ≡ Some lower
  pub directly : IsDirectlyAbove upper lower

-- the length of what stands in a span: 40 foot in both half-cells of a cell, 20 foot in one of them
abbrev pub length_in : Span → Length
length_in Both = length_of.Forty
length_in Fore = length_of.Twenty
length_in Aft = length_of.Twenty

-- the length fits the place; each crate that looks at lengths and places asks this, or what fits
abbrev pub Takes : Place → Length → Type 0
Takes p long = long ≡ length_in p.span

-- a container of this length, a reefer or not, fits the place
pub record Fits (p : Place) (long : Length) (reefer : Bool) : Type 0 where
  pub length_fits : Takes p long
  pub has_plug : IsTrue reefer → IsTrue p.plug

-- the same as truth values
abbrev pub same_length : Length → Length → Bool
same_length length_of.Twenty length_of.Twenty = true
same_length length_of.Forty length_of.Forty = true
same_length length_of.Twenty length_of.Forty = false
same_length length_of.Forty length_of.Twenty = false

abbrev pub takes_length : Place → Length → Bool
takes_length p long = same_length long (length_in p.span)

abbrev pub fits : Place → Length → Bool → Bool
fits p long reefer = takes_length p long && (not reefer || p.plug)

-- stack s lies under cover k, or stands on it
pub record LiesUnder (ship : Ship) (s k : ℕ) : Type 0 where
  pub cover : Cover
  pub is_cover : slice_get ship.covers k ≡ Some cover
  pub named : Contains cover.under s

pub record StandsOn (ship : Ship) (s k : ℕ) : Type 0 where
  pub cover : Cover
  pub is_cover : slice_get ship.covers k ≡ Some cover
  pub named : Contains cover.on s

-- the bay number of a span of a stack: odd for 20 foot, the even number between for 40 foot
abbrev pub bay_of : ℕ → Span → ℕ
bay_of bay Fore = bay - 1
bay_of bay Aft = bay + 1
bay_of bay Both = bay

-- bay, row and tier number of a place in its stack
abbrev pub number_in : Stack → Place → ℕ × ℕ × ℕ
number_in stack p = (bay_of stack.bay p.span, stack.row, stack.lowest + 2 * p.tier)

-- place p has this bay, row and tier number
pub record HasNumber (ship : Ship) (p : ℕ) (number : ℕ × ℕ × ℕ) : Type 0 where
  pub place : Place
  pub is_place : slice_get (places ship) p ≡ Some place
  pub stack : Stack
  pub is_stack : slice_get ship.stacks place.stack ≡ Some stack
  pub is_number : number_in stack place ≡ number

-- a container of this length, a reefer or not, fits place p
pub record FitsAt (ship : Ship) (p : ℕ) (long : Length) (reefer : Bool) : Type 0 where
  pub place : Place
  pub is_place : slice_get (places ship) p ≡ Some place
  pub fits : Fits place long reefer
