use Rattle.std.proofs.Common.{◌≡◌, true, sym, ◌∙◌, subst, pos, ◌≤ℤ◌}
use Rattle.std.proofs.lemmas.Option.{get_or_from_slice_get}
use Rattle.zero_one_rows.specs.declared.program.Row.{Row}
use Rattle.zero_one_rows.specs.declared.program.Row.TheVariants.{Cell}
use Rattle.zero_one_rows.specs.Rows.{is_base, whole}
use Rattle.zero_one_rows.specs.Counted.{base_rows}
use Rattle.row_matrix.specs.Terms.{row_at}
use Rattle.row_matrix.specs.Margins.{IsMargin}
use Rattle.row_matrix.proofs.Filing.{empty_is, margins_more}
use Rattle.row_matrix.proofs.MatrixLaws.{row_there}
use Rattle.row_matrix.proofs.margins.push_next.Goals as goal

pub margin_of-requires-clause-base : goal.margin_of-requires-clause-base
margin_of-requires-clause-base c =
    let m = c.args.model.now in
    let is : row_at m c.args.k ≡ c.base_row-row.result = get_or_from_slice_get (base_rows m) c.args.k c.base_row-row.result (Cell 0 0) c.base_row-row.ensures.place in
    subst (λ (r : Row). is_base r ≡ true) is (row_there m c.args.k c.rows_obey_laws.ensures.rows c.requires.row).0

pub margin_of-requires-clause-low : goal.margin_of-requires-clause-low
margin_of-requires-clause-low c = λ h v lt.
    let m = c.args.model.now in
    let is : row_at m c.args.k ≡ c.base_row-row.result = get_or_from_slice_get (base_rows m) c.args.k c.base_row-row.result (Cell 0 0) c.base_row-row.ensures.place in
    subst (λ (r : Row). (whole m).coef r v ≤ℤ pos 0) is (c.requires.low c.args.k v c.requires.row (sym c.at.ensures ∙ empty_is c.at.result.now (sym c.is_empty-is_low.ensures ∙ h)) lt)

pub returns : goal.returns
returns c =
    let m = c.args.model.now in
    let is : row_at m c.args.k ≡ c.base_row-row.result = get_or_from_slice_get (base_rows m) c.args.k c.base_row-row.result (Cell 0 0) c.base_row-row.ensures.place in
    margins_more m c.args.margins.now c.push_margin.new.margins c.args.k c.in_ok-margin.margin c.requires.before
    (subst (λ (r : Row). IsMargin m r c.in_ok-margin.margin) (sym is) c.in_ok-margin.ensures)
    c.in_ok-push_margin.ensures.slacks c.in_ok-push_margin.ensures.tops
