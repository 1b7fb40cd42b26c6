-- What the fields of a program's tables mean.
use Rattle.std.specs.Prelude.{◌≡◌}
use Rattle.zero_one_rows.specs.Variables.{Voyage}
use Rattle.node_work.specs.declared.tables.Tables.TheInside.{Inside}

abbrev pub voyage_of : Inside → Voyage
voyage_of a = a.matrix.now

-- the rows are those of the matrix
abbrev pub AreTables : Inside → Type 0
AreTables a = a.rows ≡ a.matrix.now
