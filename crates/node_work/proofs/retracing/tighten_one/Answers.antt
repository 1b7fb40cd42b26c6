use Rattle.std.proofs.Common.{◌≡◌, Some, ◌∙◌, ap}
use Rattle.std.specs.Prelude.{slice_get}
use Rattle.std.proofs.lemmas.Result.{on_ok_weaker}
use Rattle.zero_one_rows.specs.Variables.{Voyage}
use Rattle.zero_one_rows.specs.Rows.{whole}
use Rattle.zero_one_rows.specs.Counted.{base_rows}
use Rattle.proof_trees.specs.Boxes.{tight}
use Rattle.node_work.proofs.retracing.tighten_one.Goals as goal

pub returns-in-Some-clause-tight : goal.returns-in-Some-clause-tight
returns-in-Some-clause-tight c =
    let here : slice_get (base_rows c.args.kept.now.voyage) c.in-Some.number ≡ Some c.args.row.now = ap (λ (m : Voyage). slice_get (base_rows m) c.in-Some.number) c.requires.program ∙ c.in-Some.ensures.is in
    on_ok_weaker c.force.result
    (λ h. h c.args.row.now here ∙ ap (λ (m : Voyage). tight (whole m) c.args.kept.now.known c.args.row.now) c.requires.program)
    c.force.ensures.tight
