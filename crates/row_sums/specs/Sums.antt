-- The sums that base rows share, and the one or two signed sums of each base row.
use Rattle.std.specs.Prelude.{ℕ, zero, suc, Bool, cond, ◌==◌, ◌&&◌, nat_eq, List, [], ◌∷◌, Option, Some, None, slice_index_or, ℤ, pos, ◌-ℤ◌}
use Rattle.std.specs.Cmp.Lexicographic.{pointwise}
use Rattle.stow_data.specs.declared.geometry.Separation.{Separation}
use Rattle.stow_data.specs.Ship.{Ship}
use Rattle.proof_trees.specs.Program.{where_set}
use Rattle.zero_one_rows.specs.declared.program.Var.{Var}
use Rattle.zero_one_rows.specs.declared.program.Row.{Row}
use Rattle.zero_one_rows.specs.declared.program.Row.TheVariants.{Flow, Start, Cell, Support, Twenty, Block, Hatch, Weight, Apart, Cross}
use Rattle.zero_one_rows.specs.Variables.{Voyage, kind, place}
use Rattle.zero_one_rows.specs.Rows.{active, below, above, half, separation, occ, occ20, stay, out, into, occ_class}
use Rattle.row_sums.specs.declared.sums.Sum.{Sum}
use Rattle.row_sums.specs.declared.sums.Sum.TheVariants as sum
use Rattle.row_sums.specs.declared.sums.Sign.{Sign}
use Rattle.row_sums.specs.declared.sums.Sign.TheVariants.{Plus, Minus}
use Rattle.row_sums.specs.declared.sums.Part.{Part}
use Rattle.row_sums.specs.declared.sums.Parts.{Parts}

-- the two classes of each separation, in their order
abbrev pub class_names : List Separation → List (List ℕ)
class_names [] = []
class_names (e ∷ es) = e.a ∷ e.b ∷ class_names es

-- where a name stands first
abbrev pub number_in : List (List ℕ) → List ℕ → ℕ
number_in [] c = 0
number_in (x ∷ xs) c = cond (pointwise nat_eq x c) 0 (suc (number_in xs c))

-- a class by its number, and its number: separations of one class have one number for it
abbrev pub class_named : Ship → ℕ → List ℕ
class_named ship c = slice_index_or (class_names ship.separations) c []

abbrev pub class_number : Ship → List ℕ → ℕ
class_number ship name = number_in (class_names ship.separations) name

-- the other sign; the sign of a row of an equality
abbrev pub opposite : Sign → Sign
opposite Plus = Minus
opposite Minus = Plus

abbrev pub turned_sign : ℕ → Sign → Sign
turned_sign zero s = s
turned_sign (suc q) s = opposite s

abbrev pub signed : Sign → ℤ → ℤ
signed Plus z = z
signed Minus z = pos 0 -ℤ z

abbrev pub one : Sign → Sum → Parts
one s a = record { first = record { sign = s; sum = a }; second = None }

abbrev pub two : Sign → Sum → Sign → Sum → Parts
two s a t b = record { first = record { sign = s; sum = a }; second = Some (record { sign = t; sum = b }) }

module _ (m : Voyage) where
  -- the variables of a sum
  abbrev pub holds : Sum → Var → Bool
  holds (sum.Put i g) x = (x.put == i) && (x.kind == g)
  holds (sum.Lifted i g) x = (x.lifted == i) && (x.kind == g)
  holds (sum.Start p) x = (x.put == 0) && (x.place == p)
  holds (sum.Occupied i h) x = occ m i h x
  holds (sum.OccupiedByTwenty i h) x = occ20 m i h x
  holds (sum.OccupiedByClass i p c) x = occ_class m i p (class_named m.ship c) x
  holds (sum.Staying j h) x = stay m j h x
  holds (sum.LiftedFrom j h) x = out m j h x
  holds (sum.PutInto j h) x = into m j h x
  holds (sum.Weight i k) x = ((place m x.place).stack == k) && active i x

  -- what each of its variables counts: its kind's rounded weight, or 1
  abbrev pub counts : Sum → Var → ℕ
  counts (sum.Put i g) x = 1
  counts (sum.Lifted i g) x = 1
  counts (sum.Start p) x = 1
  counts (sum.Occupied i h) x = 1
  counts (sum.OccupiedByTwenty i h) x = 1
  counts (sum.OccupiedByClass i p c) x = 1
  counts (sum.Staying j h) x = 1
  counts (sum.LiftedFrom j h) x = 1
  counts (sum.PutInto j h) x = 1
  counts (sum.Weight i k) x = (kind m x.kind).kg

  -- the coefficient of a variable in a sum
  abbrev pub in_sum : Sum → Var → ℤ
  in_sum a x = where_set (holds a x) (pos (counts a x))

  abbrev pub in_part : Part → Var → ℤ
  in_part p x = signed p.sign (in_sum p.sum x)

  -- lifted from, or put into, a half-cell
  abbrev pub moved_sum : ℕ → ℕ → ℕ → Sum
  moved_sum w j h = cond (w == 0) (sum.LiftedFrom j (half m h)) (sum.PutInto j (half m h))

  abbrev pub class_sum : ℕ → ℕ → List ℕ → Sum
  class_sum i p name = sum.OccupiedByClass i p (class_number m.ship name)

  -- the signed sums of a base row; a crossing row is none
  abbrev pub parts : Row → Option Parts
  parts (Flow q i g) = Some (two (turned_sign q Plus) (sum.Put i g) (turned_sign q Minus) (sum.Lifted i g))
  parts (Start q p) = Some (one (turned_sign q Plus) (sum.Start p))
  parts (Cell i h) = Some (one Minus (sum.Occupied i (half m h)))
  parts (Support i h) = Some (two Plus (sum.Occupied i (below (half m h))) Minus (sum.Occupied i (half m h)))
  parts (Twenty i h) = Some (two Plus (sum.OccupiedByTwenty i (below (half m h))) Minus (sum.OccupiedByTwenty i (half m h)))
  parts (Block j h) = Some (two Minus (sum.LiftedFrom j (half m h)) Minus (sum.Staying j (above (half m h))))
  parts (Hatch w j h d) = Some (two Minus (moved_sum w j h) Minus (sum.Staying j (half m d)))
  parts (Weight i k) = Some (one Minus (sum.Weight i k))
  parts (Apart i e p q) = Some (two Minus (class_sum i p (separation m e).a) Minus (class_sum i q (separation m e).b))
  parts (Cross l p c) = None
