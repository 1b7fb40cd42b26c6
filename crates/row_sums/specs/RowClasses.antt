-- The numbers of the classes of each separation.
use Rattle.std.specs.Prelude.{List, map}
use Rattle.stow_data.specs.declared.geometry.Separation.{Separation}
use Rattle.stow_data.specs.Ship.{Ship}
use Rattle.row_sums.specs.declared.classes.ClassPair.{ClassPair}
use Rattle.row_sums.specs.Sums.{class_number}

abbrev pub pair_of : Ship → Separation → ClassPair
pair_of ship e = record { a = class_number ship e.a; b = class_number ship e.b }

abbrev pub class_table : Ship → List ClassPair
class_table ship = map (pair_of ship) ship.separations
