use Rattle.std.proofs.Common.{false, true, arith, ◌∙◌}
use Rattle.row_matrix.specs.Written.{Flattens}
use Rattle.row_matrix.proofs.Losing.{Laws}
use Rattle.row_matrix.proofs.MatrixLaws.{row_losses}
use Rattle.row_matrix.proofs.written.written_of.Goals as goal

pub returns-in-Some : goal.returns-in-Some
returns-in-Some c =
    let m = c.args.model.now in
    let laws : Laws m c.args.numbering = record { has_parts = c.rows_obey_laws.ensures.parts; are_sums = c.rows_obey_laws.ensures.coefficients; share_none = c.rows_obey_laws.ensures.apart; names = c.rows_obey_laws.ensures.names; listed = c.rows_obey_laws.ensures.variables; rules = c.rows_obey_laws.ensures.ship; numbering = c.requires.numbering } in
    let zero : Flattens c.args.columns.now.shares c.args.rows.now.plus_rows c.in-Some.at_zero c.vars-vars.result = c.in-Some.ensures.zero in
    let one : Flattens c.args.columns.now.shares c.args.rows.now.minus_rows c.in-Some.at_one c.vars-vars.result = c.in-Some.ensures.one in
    record {
      terms = c.in-Ok.ensures;
      at_zero = λ v k v_lt k_lt. zero.of v (omega (arith, v_lt, c.vars-vars.ensures.number)) k ∙ row_losses m c.args.numbering c.args.columns.now.shares c.args.rows.now c.requires.shares c.requires.rows laws c.rows_obey_laws.ensures.rows false v k v_lt k_lt;
      at_one = λ v k v_lt k_lt. one.of v (omega (arith, v_lt, c.vars-vars.ensures.number)) k ∙ row_losses m c.args.numbering c.args.columns.now.shares c.args.rows.now c.requires.shares c.requires.rows laws c.rows_obey_laws.ensures.rows true v k v_lt k_lt;
    }
