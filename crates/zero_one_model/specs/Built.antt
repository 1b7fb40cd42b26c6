-- What the fields of a built model mean.
use Rattle.std.specs.Prelude.{◌≡◌, length}
use Rattle.stow_data.specs.Kinds.{AreKinds}
use Rattle.stow_data.specs.Ship.{places}
use Rattle.zero_one_rows.specs.Variables.{Voyage, variables}
use Rattle.zero_one_model.specs.declared.model.Model.TheInside.{Inside}
use Rattle.zero_one_model.specs.Building.{IsWithin}
use Rattle.zero_one_model.specs.Indexed.{IsIndex}
use Rattle.zero_one_model.specs.Runs.{IsFiled}
use Rattle.zero_one_rows.specs.Counted.{row_lists, base_rows, all_rows}

abbrev pub voyage_of : Inside → Voyage
voyage_of a = record { ship = a.ship.now; cargo = a.cargo.now }

pub record IsBuilt (a : Inside) : Type 0 where
  pub arrival : length a.cargo.now.arrival ≡ length (places a.ship.now)
  pub kinds : AreKinds a.ship.now.weight_step a.cargo.now.containers a.kinds
  pub vars : a.vars ≡ variables (voyage_of a)
  pub lists : a.lists ≡ row_lists (voyage_of a)
  pub base : a.base ≡ length (base_rows (voyage_of a))
  pub rows : a.rows ≡ length (all_rows (voyage_of a))
  pub index : IsIndex (voyage_of a) a.index
  pub files : IsFiled (voyage_of a) a.files
  pub within : IsWithin (voyage_of a)
