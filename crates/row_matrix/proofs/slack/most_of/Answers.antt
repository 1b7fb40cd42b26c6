use Rattle.std.proofs.Common.{rules, arith, ◌≡◌, length, SFits, ℕ, ◌∙◌, ap, w64}
use Rattle.std.specs.Int.{w128}
use Rattle.std.proofs.lemmas.Int.{to_z-of_z}
use Rattle.proof_trees.specs.Program.{sum_to}
use Rattle.proof_trees.specs.Boxes.{at, greatest}
use Rattle.zero_one_rows.specs.Variables.{variables}
use Rattle.zero_one_rows.specs.Rows.{whole}
use Rattle.row_matrix.proofs.Summing.{one_more_of}
use Rattle.row_matrix.proofs.slack.most_of.Goals as goal

pub loop-v-preserved : goal.loop-v-preserved
loop-v-preserved c =
    let f : SFits w128 c.more-total.result = search rules in
    let g : SFits w64 c.part.result = search rules in
    record {
      value = simp to_z-of_z (one_more_of c.loop-v.v (λ (v : ℕ). greatest (at c.args.b.now v) ((whole c.args.model.now).coef c.args.r.now v)) _ c.part.result c.more-total.result c.loop-v.invariant.value c.part.ensures.value (simp to_z-of_z at c.more-total.ensures.value));
      size = simp to_z-of_z (omega (arith, simp to_z-of_z at c.more-total.ensures.size, c.part.ensures.size, c.loop-v.invariant.size));
    }

pub returns-clause-value : goal.returns-clause-value
returns-clause-value c =
    let all : c.loop-v.v ≡ length (variables c.args.model.now) = omega (arith, c.vars-v-end.ensures.number) in
    c.loop-v.invariant.value ∙ ap (λ (n : ℕ). sum_to n (λ v. greatest (at c.args.b.now v) ((whole c.args.model.now).coef c.args.r.now v))) all
