use Rattle.std.proofs.Common.{rules, ◌≡◌, None, SFits, w64, ◌∙◌, ap, sym, ℤ}
use Rattle.std.proofs.lemmas.Int.{to_z-of_z}
use Rattle.std.proofs.lemmas.Option.{get_or_from_slice_get}
use Rattle.proof_trees.specs.Boxes.{at, greatest}
use Rattle.zero_one_rows.specs.Rows.{whole}
use Rattle.row_matrix.proofs.slack.part.Goals as goal

pub returns-clause-value : goal.returns-clause-value
returns-clause-value c =
    let f : SFits w64 c.greatest_of.result = search rules in
    let g : SFits w64 c.coefficient.result = search rules in
    let o : at c.args.b.now c.args.x ≡ c.at.result = get_or_from_slice_get c.args.b.now c.args.x c.at.result None c.at.ensures in
    let v : c.greatest_of.result ≡ greatest c.at.result c.coefficient.result = simp to_z-of_z at c.greatest_of.ensures.value in
    simp to_z-of_z (v ∙ ap (λ (z : ℤ). greatest c.at.result z) c.coefficient.ensures.value ∙ ap (λ p. greatest p ((whole c.args.model.now).coef c.args.r.now c.args.x)) (sym o))
