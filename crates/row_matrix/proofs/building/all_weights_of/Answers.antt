use Rattle.std.proofs.Common.{sym, ◌∙◌, ap}
use Rattle.std.proofs.lemmas.Result.{IfOk-weaker}
use Rattle.zero_one_rows.specs.Variables.{variables}
use Rattle.row_matrix.specs.Counted.{all_weights}
use Rattle.row_matrix.proofs.building.all_weights_of.Goals as goal

pub weights_of-weights-requires : goal.weights_of-weights-requires
weights_of-weights-requires c = c.as_slice.ensures ∙ c.in_ok-vars.ensures ∙ ap variables (sym c.requires)

pub returns : goal.returns
returns c = IfOk-weaker c.weights_of-weights.result _ _ (λ ws e. e ∙ ap all_weights c.requires) c.weights_of-weights.ensures
