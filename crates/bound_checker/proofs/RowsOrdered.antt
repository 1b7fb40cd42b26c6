-- The order of rows finds the rows equal that the test finds alike.
use Rattle.std.proofs.Common.{◌≡◌, sym, ◌∙◌}
use Rattle.std.specs.Ordering.{is_eq}
use Rattle.zero_one_rows.specs.declared.program.Row.{Row}
use Rattle.zero_one_rows.specs.contracts.program.RowOrd.TheImpl as order
use Rattle.zero_one_rows.specs.contracts.program.RowOrd.TheImpl.Laws.{matches_eq-law}
use Rattle.certificate.specs.Entries.{same_row}
use Rattle.certificate.proofs.RowsTold.{equal_same}

pub order_same : (r s : Row) → is_eq (order.ghosts.cmp r s) ≡ same_row r s
order_same r s = sym (matches_eq-law r s) ∙ equal_same r s
