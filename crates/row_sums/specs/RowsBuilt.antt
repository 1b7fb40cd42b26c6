-- What the fields of a voyage's sums mean.
use Rattle.std.specs.Prelude.{◌≡◌}
use Rattle.stow_data.specs.Kinds.{AreKinds}
use Rattle.zero_one_rows.specs.Variables.{Voyage}
use Rattle.row_sums.specs.declared.rows.RowSums.TheInside.{Inside}
use Rattle.row_sums.specs.RowClasses.{class_table}

abbrev pub voyage_of : Inside → Voyage
voyage_of a = record { ship = a.ship.now; cargo = a.cargo.now }

pub record IsBuilt (a : Inside) : Type 0 where
  pub kinds : AreKinds a.ship.now.weight_step a.cargo.now.containers a.kinds
  pub classes : a.classes ≡ class_table a.ship.now
