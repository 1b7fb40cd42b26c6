-- What contracts see of a matrix.
use Rattle.zero_one_rows.specs.Variables.{Voyage}
use Rattle.row_sums.specs.declared.numbering.Numbering.{Numbering}

pub record Matrix : Type 0 where
  pub voyage : Voyage
  pub numbering : Numbering
