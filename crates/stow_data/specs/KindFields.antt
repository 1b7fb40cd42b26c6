-- What the fields of the kinds of a cargo mean.
use Rattle.std.specs.Prelude.{◌<◌, ◌≡◌, ◌^◌, length, All}
use Rattle.stow_data.specs.declared.kind_list.Kinds.TheInside.{Inside}
use Rattle.stow_data.specs.Kinds.{KindTable}

abbrev pub table_of : Inside → KindTable
table_of a = record { list = a.list; each = a.each; loads = a.loads }

-- each container is of one of the kinds, and each call has a count for each kind
pub record IsInRange (a : Inside) : Type 0 where
  pub few : length a.list < 2 ^ 32
  pub each : All (λ g. g < length a.list) a.each
  pub loads : All (λ row. length row ≡ length a.list) a.loads
