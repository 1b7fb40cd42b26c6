-- The sums of each base row by sign, and the rows of each sum.
use Rattle.std.specs.Prelude.{false, true}
use Rattle.row_sums.specs.Transposed.{IsTransposed}
use Rattle.zero_one_rows.specs.Variables.{Voyage}
use Rattle.row_sums.specs.declared.numbering.Numbering.{Numbering}
use Rattle.row_sums.specs.Numbers.{numbers}
use Rattle.row_matrix.specs.declared.signed.SignedRows.{SignedRows}
use Rattle.row_matrix.specs.Terms.{count}
use Rattle.row_matrix.specs.Parted.{AreRowSums}

pub record AreSigned (m : Voyage) (z : Numbering) (r : SignedRows) : Type 0 where
  pub plus : AreRowSums m z false r.plus (count m)
  pub minus : AreRowSums m z true r.minus (count m)
  pub plus_rows : IsTransposed r.plus (numbers z) r.plus_rows
  pub minus_rows : IsTransposed r.minus (numbers z) r.minus_rows
