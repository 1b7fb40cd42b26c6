use Rattle.std.proofs.Common.{arith, ℕ, ◌≤◌, List, ◌∙◌, ap, subst}
use Rattle.std.specs.Prelude.{slice_index_or}
use Rattle.row_matrix.proofs.Filing.{as_long}
use Rattle.row_matrix.proofs.Numbered.{weight_at}
use Rattle.row_matrix.proofs.building.columns_by.Goals as goal

pub returns-in-Ok-clause-heaviest : goal.returns-in-Ok-clause-heaviest
returns-in-Ok-clause-heaviest c = λ v lt.
    let m = c.args.matrix.now.voyage in
    let light = c.heaviest_of.ensures v (omega (arith, lt, as_long m c.args.weights.now c.requires.weights)) in
    subst (λ (n : ℕ). n ≤ c.heaviest_of.result) (ap (λ (ws : List ℕ). slice_index_or ws v 0) c.requires.weights ∙ weight_at m v lt) light
