use Rattle.std.proofs.Common.{rules, arith, ℕ, ◌≤◌, SFits, w64, sym, subst}
use Rattle.std.specs.Int.RustNames.{unsigned_abs}
use Rattle.std.proofs.lemmas.Int.{to_z-of_z}
use Rattle.zero_one_rows.specs.Rows.{whole}
use Rattle.row_matrix.proofs.Widths.{small_is, top_is}
use Rattle.row_matrix.proofs.margins.margin_of.Goals as goal

pub slack_of-requires-clause-small : goal.slack_of-requires-clause-small
slack_of-requires-clause-small c = small_is c.args.model.now c.args.row.now c.keeps_limits.ensures.vars c.rows_obey_laws.ensures.ship c.rows_obey_laws.ensures.cargo c.rows_obey_laws.ensures.small c.rows_obey_laws.ensures.right_sides c.requires.row

pub returns : goal.returns
returns c = let f : SFits w64 c.in_ok-slack.slack = search rules in record {
  slack = simp to_z-of_z c.in_ok-slack.ensures;
  top = λ v lt. subst (λ (n : ℕ). unsigned_abs ((whole c.args.model.now).coef c.args.row.now v) ≤ n) (sym c.top_of-top.ensures)
      (top_is c.args.model.now c.args.row.now c.args.heaviest v c.rows_obey_laws.ensures.coefficients c.rows_obey_laws.ensures.apart c.rows_obey_laws.ensures.parts c.rows_obey_laws.ensures.variables c.requires.row c.requires.base lt (c.requires.heaviest v lt));
  small = small_is c.args.model.now c.args.row.now c.keeps_limits.ensures.vars c.rows_obey_laws.ensures.ship c.rows_obey_laws.ensures.cargo c.rows_obey_laws.ensures.small c.rows_obey_laws.ensures.right_sides c.requires.row;
}
