-- The variables by what they touch: by kind, tier, stack and lot.
use Rattle.std.specs.Prelude.{◌≡◌, ◌≢◌, ℕ, ◌+◌, ◌*◌, ◌<◌, ◌==◌, Bool, true, false, not, cond, List, [], length, map, pos, All, Contains, slice_index_or}
use Rattle.std.specs.List.{AllPairs}
use Rattle.std.specs.Ordering.{int_eq}
use Rattle.stow_data.specs.declared.geometry.Place.{Place}
use Rattle.stow_data.specs.declared.geometry.Half.{Half}
use Rattle.stow_data.specs.Ship.{Ship, places, halves}
use Rattle.zero_one_rows.specs.declared.program.Var.{Var}
use Rattle.zero_one_rows.specs.declared.program.Row.{Row}
use Rattle.zero_one_rows.specs.declared.program.Row.TheVariants.{Flow, Start, Cell, Support, Twenty, Block, Hatch, Weight, Apart, Cross}
use Rattle.zero_one_rows.specs.Variables.{Voyage, calls, all_kinds, variables, var}
use Rattle.stow_data.specs.Plans.{no_place, no_half}
use Rattle.zero_one_rows.specs.Rows.{coef, whole, below, above}
use Rattle.zero_one_rows.specs.Grouping.{IsGrouped, with_key}
use Rattle.zero_one_model.specs.declared.index.Index.{Index}

-- the number of a tier of a stack, of which no stack has more than 40
abbrev pub shelf : ℕ → ℕ → ℕ
shelf stack tier = stack * 40 + tier

abbrev pub place_shelf : Place → ℕ
place_shelf p = shelf p.stack p.tier

abbrev pub half_shelf : Half → ℕ
half_shelf h = shelf h.stack h.tier

-- the number of a lot, which is what of a kind is put at a call
abbrev pub lot : ℕ → ℕ → ℕ → ℕ
lot kinds put kind = put * kinds + kind

-- these variables by kind, by the tier and the stack at which they stand, and by lot
pub record IsIndexOf (ship : Ship) (calls kinds : ℕ) (vars : List Var) (x : Index) : Type 0 where
  pub by_kind : IsGrouped (map (λ v. v.kind) vars) kinds x.by_kind
  pub by_shelf : IsGrouped (map (λ v. place_shelf (slice_index_or (places ship) v.place no_place)) vars) (length ship.stacks * 40) x.by_shelf
  pub by_stack : IsGrouped (map (λ v. (slice_index_or (places ship) v.place no_place).stack) vars) (length ship.stacks) x.by_stack
  pub by_lot : IsGrouped (map (λ v. lot kinds v.put v.kind) vars) (calls * kinds) x.by_lot

abbrev pub IsIndex : Voyage → Index → Type 0
IsIndex m x = IsIndexOf m.ship (calls m) (length (all_kinds m)) (variables m) x

-- the variables of a lot, rising
abbrev pub lot_of : Voyage → ℕ → ℕ → List ℕ
lot_of m put kind = with_key (map (λ v. lot (length (all_kinds m)) v.put v.kind) (variables m)) (lot (length (all_kinds m)) put kind)

-- a row of the program in which a variable stands with a coefficient other than 0
pub record Touches (m : Voyage) (r : Row) (x : ℕ) : Type 0 where
  pub has : (whole m).has r ≡ true
  pub inside : x < length (variables m)
  pub other : (whole m).coef r x ≢ pos 0

-- of a family whose variables are found by one or two keys: all but the crossing rows
abbrev pub is_keyed : Row → Bool
is_keyed (Flow q i g) = true
is_keyed (Start q p) = true
is_keyed (Cell i h) = true
is_keyed (Support i h) = true
is_keyed (Twenty i h) = true
is_keyed (Block j h) = true
is_keyed (Hatch w j h d) = true
is_keyed (Weight i k) = true
is_keyed (Apart i e p q) = true
is_keyed (Cross l p c) = false

-- the half-cells and places of a row are there
abbrev pub NamesCells : Ship → Row → Type 0
NamesCells ship (Flow q i g) = Unit {0}
NamesCells ship (Start q p) = p < length (places ship)
NamesCells ship (Cell i h) = h < length (halves ship)
NamesCells ship (Support i h) = h < length (halves ship)
NamesCells ship (Twenty i h) = h < length (halves ship)
NamesCells ship (Block j h) = h < length (halves ship)
NamesCells ship (Hatch w j h d) = (h < length (halves ship)) × (d < length (halves ship))
NamesCells ship (Weight i k) = Unit {0}
NamesCells ship (Apart i e p q) = (p < length (places ship)) × (q < length (places ship))
NamesCells ship (Cross l p c) = Unit {0}

-- the coefficient isn't 0
abbrev pub stands : Voyage → Row → ℕ → Bool
stands m r v = not (int_eq (coef m r (var m v)) (pos 0))

-- each variable that touches the row stands once among these
pub record IsCandidates (m : Voyage) (r : Row) (xs : List ℕ) : Type 0 where
  pub inside : All (λ v. v < length (variables m)) xs
  pub each : (v : ℕ) → Touches m r v → Contains xs v
  pub once : AllPairs (λ v w. v ≢ w) xs

module _ (ship : Ship) where
  abbrev pub half_key : ℕ → ℕ
  half_key h = half_shelf (slice_index_or (halves ship) h no_half)

  abbrev pub place_key : ℕ → ℕ
  place_key p = place_shelf (slice_index_or (places ship) p no_place)

  abbrev pub below_key : ℕ → ℕ
  below_key h = half_shelf (below (slice_index_or (halves ship) h no_half))

  abbrev pub above_key : ℕ → ℕ
  above_key h = half_shelf (above (slice_index_or (halves ship) h no_half))

-- the group of a second key, unless it is the first
abbrev pub other_of : List (List ℕ) → ℕ → ℕ → List ℕ
other_of groups first second = cond (second == first) [] (slice_index_or groups second [])

-- the variables of the row's kind or stack, or of the tier of its first half-cell or place
abbrev pub first_of : Ship → Index → Row → List ℕ
first_of ship x (Flow q i g) = slice_index_or x.by_kind g []
first_of ship x (Start q p) = slice_index_or x.by_shelf (place_key ship p) []
first_of ship x (Cell i h) = slice_index_or x.by_shelf (half_key ship h) []
first_of ship x (Support i h) = slice_index_or x.by_shelf (half_key ship h) []
first_of ship x (Twenty i h) = slice_index_or x.by_shelf (half_key ship h) []
first_of ship x (Block j h) = slice_index_or x.by_shelf (half_key ship h) []
first_of ship x (Hatch w j h d) = slice_index_or x.by_shelf (half_key ship h) []
first_of ship x (Weight i k) = slice_index_or x.by_stack k []
first_of ship x (Apart i e p q) = slice_index_or x.by_shelf (place_key ship p) []
first_of ship x (Cross l p c) = []

-- those of the tier of the second half-cell or place, where the row speaks of two
abbrev pub second_of : Ship → Index → Row → List ℕ
second_of ship x (Flow q i g) = []
second_of ship x (Start q p) = []
second_of ship x (Cell i h) = []
second_of ship x (Support i h) = other_of x.by_shelf (half_key ship h) (below_key ship h)
second_of ship x (Twenty i h) = other_of x.by_shelf (half_key ship h) (below_key ship h)
second_of ship x (Block j h) = other_of x.by_shelf (half_key ship h) (above_key ship h)
second_of ship x (Hatch w j h d) = other_of x.by_shelf (half_key ship h) (half_key ship d)
second_of ship x (Weight i k) = []
second_of ship x (Apart i e p q) = other_of x.by_shelf (place_key ship p) (place_key ship q)
second_of ship x (Cross l p c) = []
