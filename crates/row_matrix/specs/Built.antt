-- What the fields of a built matrix mean.
use Rattle.std.specs.Prelude.{ℕ, ◌<◌, [], IfSome, length, slice_index_or}
use Rattle.zero_one_rows.specs.Variables.{Voyage, variables}
use Rattle.row_sums.specs.Numbers.{IsNumbering}
use Rattle.row_matrix.specs.declared.matrix.BaseMatrix.TheInside.{Inside}
use Rattle.row_matrix.specs.Terms.{count}
use Rattle.row_matrix.specs.Counted.{AreEntries, AreShares}
use Rattle.row_matrix.specs.Margins.{AreMargins}
use Rattle.row_matrix.specs.Signed.{AreSigned}
use Rattle.row_matrix.specs.Written.{AreWritten}

abbrev pub voyage_of : Inside → Voyage
voyage_of a = a.model.now

pub record IsBuilt (a : Inside) : Type 0 where
  pub numbering : IsNumbering a.model.now a.numbering
  pub entries : AreEntries a.model.now a.numbering a.entries
  pub shares : (v : ℕ) → v < length (variables a.model.now) → AreShares a.model.now a.numbering v (slice_index_or a.shares v [])
  pub signed : AreSigned a.model.now a.numbering a.rows
  pub written : IfSome a.written (AreWritten a.model.now)
  pub margins : AreMargins a.model.now a.margins (count a.model.now)
