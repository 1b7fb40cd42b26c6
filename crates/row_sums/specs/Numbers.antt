-- The numbers of sums: by family, then by call, then by item.
use Rattle.std.specs.Prelude.{◌≡◌, ℕ, ◌+◌, ◌*◌, ◌^◌, ◌<◌, ◌≤◌, cond, length}
use Rattle.stow_data.specs.declared.geometry.Half.{Half}
use Rattle.stow_data.specs.Ship.{places}
use Rattle.zero_one_rows.specs.Variables.{Voyage, calls, all_kinds}
use Rattle.zero_one_rows.specs.Rows.{stack}
use Rattle.row_sums.specs.declared.sums.Sum.{Sum}
use Rattle.row_sums.specs.declared.sums.Sum.TheVariants.{Put, Lifted, Start, Occupied, OccupiedByTwenty, OccupiedByClass, Staying, LiftedFrom, PutInto, Weight}
use Rattle.row_sums.specs.Sums.{class_named, class_number}
use Rattle.row_sums.specs.declared.numbering.Numbering.{Numbering}

-- nine families, and one more for each class
abbrev pub family : Sum → ℕ
family (Put i g) = 0
family (Lifted i g) = 1
family (Start p) = 2
family (Occupied i h) = 3
family (OccupiedByTwenty i h) = 4
family (Staying j h) = 5
family (LiftedFrom j h) = 6
family (PutInto j h) = 7
family (Weight i k) = 8
family (OccupiedByClass i p c) = 9 + c

abbrev pub call_of : Sum → ℕ
call_of (Put i g) = i
call_of (Lifted i g) = i
call_of (Start p) = 0
call_of (Occupied i h) = i
call_of (OccupiedByTwenty i h) = i
call_of (Staying j h) = j
call_of (LiftedFrom j h) = j
call_of (PutInto j h) = j
call_of (Weight i k) = i
call_of (OccupiedByClass i p c) = i

-- half-cells by stack, tier and side
abbrev pub half_item : Numbering → Half → ℕ
half_item z h = (h.stack * z.tiers + h.tier) * 2 + cond h.aft 1 0

-- the kind, place, stack or half-cell
abbrev pub item : Numbering → Sum → ℕ
item z (Put i g) = g
item z (Lifted i g) = g
item z (Start p) = p
item z (Occupied i h) = half_item z h
item z (OccupiedByTwenty i h) = half_item z h
item z (Staying j h) = half_item z h
item z (LiftedFrom j h) = half_item z h
item z (PutInto j h) = half_item z h
item z (Weight i k) = k
item z (OccupiedByClass i p c) = p

abbrev pub number : Numbering → Sum → ℕ
number z s = (family s * z.calls + call_of s) * z.width + item z s

-- all numbers are below this
abbrev pub numbers : Numbering → ℕ
numbers z = z.width * (z.calls * z.families)

-- there is room for the family, the call and the item of a sum
pub record IsLow (z : Numbering) (s : Sum) : Type 0 where
  pub family_low : family s < z.families
  pub call_low : call_of s < z.calls
  pub item_low : item z s < z.width

-- room for the sums of a voyage
pub record IsNumbering (m : Voyage) (z : Numbering) : Type 0 where
  pub families : z.families ≡ 9 + 2 * length m.ship.separations
  pub calls : z.calls ≡ calls m + 1
  pub tiers : (k : ℕ) → (stack m k).tiers ≤ z.tiers
  pub cells : length m.ship.stacks * z.tiers * 2 ≤ z.width
  pub kinds : length (all_kinds m) ≤ z.width
  pub places : length (places m.ship) ≤ z.width
  pub stacks : length m.ship.stacks ≤ z.width
  pub calls_fit : z.calls * z.families < 2 ^ 64
  pub fits : numbers z < 2 ^ 64

module _ (m : Voyage) where
  -- a tier of a stack of the ship
  pub record IsCell (h : Half) : Type 0 where
    pub stack_in : h.stack < length m.ship.stacks
    pub tier_in : h.tier < (stack m h.stack).tiers

  -- a class by the number of its name
  pub record IsClass (c : ℕ) : Type 0 where
    pub low : c < 2 * length m.ship.separations
    pub is_first : class_number m.ship (class_named m.ship c) ≡ c

  -- what a sum names is there
  abbrev pub NamesItem : Sum → Type 0
  NamesItem (Put i g) = g < length (all_kinds m)
  NamesItem (Lifted i g) = g < length (all_kinds m)
  NamesItem (Start p) = p < length (places m.ship)
  NamesItem (Occupied i h) = IsCell h
  NamesItem (OccupiedByTwenty i h) = IsCell h
  NamesItem (Staying j h) = IsCell h
  NamesItem (LiftedFrom j h) = IsCell h
  NamesItem (PutInto j h) = IsCell h
  NamesItem (Weight i k) = k < length m.ship.stacks
  NamesItem (OccupiedByClass i p c) = (p < length (places m.ship)) × IsClass c

  pub record IsThere (s : Sum) : Type 0 where
    pub call_in : call_of s ≤ calls m
    pub item_in : NamesItem s

-- there is room for each sum that there is
abbrev pub HasRoom : Type 0
HasRoom = (m : Voyage) (z : Numbering) (s : Sum) → IsNumbering m z → IsThere m s → IsLow z s

-- two sums that there are don't have one number
abbrev pub NumbersTellSums : Type 0
NumbersTellSums = (m : Voyage) (z : Numbering) (s t : Sum) → IsNumbering m z → IsThere m s → IsThere m t → number z s ≡ number z t → s ≡ t
