-- What the fields of a loose box mean.
use Rattle.row_matrix.specs.declared.loose.LooseBox.TheInside.{Inside}
use Rattle.row_matrix.specs.Loose.{Loose}
use Rattle.row_matrix.specs.Following.{Holds}

abbrev pub loose_of : Inside → Loose
loose_of a = record { voyage = a.matrix.now; known = a.b }

pub record IsLoose (a : Inside) : Type 0 where
  pub holds : Holds a.matrix.now a.b a.slacks
