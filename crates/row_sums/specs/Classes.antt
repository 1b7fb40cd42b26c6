-- The class of each kind, by number.
use Rattle.std.specs.Prelude.{ℕ, ◌*◌, List, Option, Some, None, length, map}
use Rattle.stow_data.specs.declared.kind_list.Kind.{Kind}
use Rattle.stow_data.specs.Ship.{Ship}
use Rattle.zero_one_rows.specs.Variables.{Voyage, all_kinds}
use Rattle.row_sums.specs.Sums.{class_number}

-- past the numbers of classes for none
abbrev pub class_or_past : Ship → Option (List ℕ) → ℕ
class_or_past ship None = 2 * length ship.separations
class_or_past ship (Some name) = class_number ship name

abbrev pub classes_of : Voyage → List ℕ
classes_of m = map (λ (k : Kind). class_or_past m.ship k.class) (all_kinds m)
