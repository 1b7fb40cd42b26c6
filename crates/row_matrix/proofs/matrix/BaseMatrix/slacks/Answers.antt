use Rattle.std.proofs.Common.{◌≡◌, ℕ, ◌<◌, List, ℤ, pos, subst, ap, ◌∙◌}
use Rattle.std.specs.Prelude.{slice_index_or}
use Rattle.proof_trees.specs.Boxes.{free_box}
use Rattle.zero_one_rows.specs.Variables.{Voyage}
use Rattle.zero_one_rows.specs.Rows.{whole}
use Rattle.row_matrix.specs.Terms.{count, slack_in}
use Rattle.row_matrix.proofs.matrix.BaseMatrix.slacks.Goals as goal

pub returns-clause-each : goal.returns-clause-each
returns-clause-each c =
    let each = subst (λ (w : Voyage). (k : ℕ) → k < count w → slice_index_or c.self.inside.margins.slacks k (pos 0) ≡ slack_in w (free_box (whole w)) k) c.self.view_is (λ k lt. (c.self.invariant.margins.each k lt).slack) in
    λ k lt. ap (λ (xs : List ℤ). slice_index_or xs k (pos 0)) c.as_slice.ensures ∙ each k lt
