use Rattle.std.proofs.Common.{ℕ, ◌<◌, subst}
use Rattle.zero_one_rows.specs.Variables.{Voyage}
use Rattle.row_matrix.specs.Terms.{count, row_at, IsSmall}
use Rattle.row_matrix.proofs.matrix.BaseMatrix.has_small_slacks.Goals as goal

pub returns : goal.returns
returns c = subst (λ (w : Voyage). (k : ℕ) → k < count w → IsSmall w (row_at w k)) c.self.view_is (λ k lt. (c.self.invariant.margins.each k lt).small)
