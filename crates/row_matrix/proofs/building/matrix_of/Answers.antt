use Rattle.std.proofs.Common.{sym, ◌∙◌, ap}
use Rattle.std.proofs.lemmas.Result.{IfOk-weaker}
use Rattle.zero_one_rows.specs.Variables.{variables}
use Rattle.row_matrix.proofs.Filing.{same_voyage}
use Rattle.row_matrix.proofs.building.matrix_of.Goals as goal

pub build-matrix-requires : goal.build-matrix-requires
build-matrix-requires c = c.as_slice.ensures ∙ c.in_ok-vars.ensures ∙ ap variables (sym (same_voyage c.args.model.now c.ship.result.now c.cargo.result.now c.ship.ensures c.cargo.ensures))

pub returns : goal.returns
returns c = IfOk-weaker c.build-matrix.result _ _ (λ a e. e ∙ same_voyage c.args.model.now c.ship.result.now c.cargo.result.now c.ship.ensures c.cargo.ensures) c.build-matrix.ensures.voyage
