use Rattle.std.proofs.Common.{arith, sym, ◌∙◌, ap}
use Rattle.row_matrix.specs.Counted.{all_weights}
use Rattle.row_matrix.proofs.Filing.{as_long}
use Rattle.row_matrix.proofs.building.columns_of.Goals as goal

pub columns_by-columns-requires-clause-weights : goal.columns_by-columns-requires-clause-weights
columns_by-columns-requires-clause-weights c = c.as_slice.ensures ∙ c.in_ok-weights.ensures ∙ ap all_weights (sym c.requires)

pub columns_by-columns-requires-clause-few : goal.columns_by-columns-requires-clause-few
columns_by-columns-requires-clause-few c =
    let long = as_long c.args.model.now c.as_slice.result.now (c.as_slice.ensures ∙ c.in_ok-weights.ensures) in
    omega (arith, long, c.keeps_limits.ensures.vars)
