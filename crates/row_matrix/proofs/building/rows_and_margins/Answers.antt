use Rattle.std.proofs.Common.{subst}
use Rattle.zero_one_rows.specs.Variables.{Voyage}
use Rattle.row_sums.specs.declared.numbering.Numbering.{Numbering}
use Rattle.row_sums.specs.Numbers.{IsNumbering}
use Rattle.row_matrix.proofs.Losing.{Laws}
use Rattle.row_matrix.proofs.PlusRows.{none_plus}
use Rattle.row_matrix.proofs.building.rows_and_margins.Goals as goal

pub margins_of-requires-clause-low : goal.margins_of-requires-clause-low
margins_of-requires-clause-low c =
    let m = c.args.model.now in
    let z : Numbering = c.args.matrix.now.numbering in
    let room : IsNumbering m z = subst (λ (w : Voyage). IsNumbering w z) c.requires.voyage c.is_numbered.ensures in
    let laws : Laws m z = record { has_parts = c.rows_obey_laws.ensures.parts; are_sums = c.rows_obey_laws.ensures.coefficients; share_none = c.rows_obey_laws.ensures.apart; names = c.rows_obey_laws.ensures.names; listed = c.rows_obey_laws.ensures.variables; rules = c.rows_obey_laws.ensures.ship; numbering = room } in
    none_plus m z laws c.rows_obey_laws.ensures.rows c.in_ok-rows.rows.plus c.in_ok-rows.ensures.plus
