use Rattle.std.proofs.Common.{rules, arith, ◌≡◌, ◌<◌, length, get_or, List, SFits, ℕ, ◌∙◌, sym, w64, ap, ℤ, ◌+ℤ◌}
use Rattle.std.specs.Prelude.{nat_eq}
use Rattle.std.specs.List.{list_any}
use Rattle.std.specs.Int.{w128}
use Rattle.std.proofs.lemmas.Int.{to_z-of_z}
use Rattle.proof_trees.specs.Program.{sum_to, where_set}
use Rattle.proof_trees.specs.Boxes.{at, greatest}
use Rattle.zero_one_rows.specs.Variables.{variables}
use Rattle.zero_one_rows.specs.Rows.{whole}
use Rattle.row_matrix.proofs.Summing.{none_yet, further, all_of, all_taken}
use Rattle.row_matrix.proofs.Rows.{one_inside, coef_none, brings_none, read}
use Rattle.row_matrix.proofs.slack.most_among.Goals as goal

pub loop-x-init : goal.loop-x-init
loop-x-init c = record {
  value = sym (none_yet (length (variables c.args.model.now)) (λ (v : ℕ). greatest (at c.args.b.now v) ((whole c.args.model.now).coef c.args.r.now v)) c.args.vars.now);
  size = omega arith;
}

pub part-requires-clause-var : goal.part-requires-clause-var
part-requires-clause-var c =
    let here : c.x-item.result ≡ get_or c.args.vars.now c.loop-x.x-index 0 = read c.args.vars.now c.loop-x.x-index c.x-item.result 0 c.loop-x-test.true c.x-item.is in
    one_inside c.args.model.now c.args.r.now c.args.vars.now c.requires.each c.loop-x.x-index c.x-item.result c.loop-x-test.true here

pub loop-x-preserved : goal.loop-x-preserved
loop-x-preserved c =
    let here : c.x-item.result ≡ get_or c.args.vars.now c.loop-x.x-index 0 = read c.args.vars.now c.loop-x.x-index c.x-item.result 0 c.loop-x-test.true c.x-item.is in
    let inside : c.x-item.result < length (variables c.args.model.now) = one_inside c.args.model.now c.args.r.now c.args.vars.now c.requires.each c.loop-x.x-index c.x-item.result c.loop-x-test.true here in
    let f : SFits w128 c.more-total.result = search rules in
    let g : SFits w64 c.part.result = search rules in
    record {
      value = simp to_z-of_z (further (length (variables c.args.model.now)) (λ (v : ℕ). greatest (at c.args.b.now v) ((whole c.args.model.now).coef c.args.r.now v)) c.args.vars.now c.loop-x.x-index c.x-item.result c.part.result c.more-total.result c.requires.once c.loop-x-test.true here inside c.part.ensures.value
          ((simp to_z-of_z at c.more-total.ensures.value) ∙ ap (λ (z : ℤ). z +ℤ c.part.result) c.loop-x.invariant.value));
      size = simp to_z-of_z (omega (arith, simp to_z-of_z at c.more-total.ensures.size, c.part.ensures.size, c.loop-x.invariant.size));
    }

pub returns-clause-value : goal.returns-clause-value
returns-clause-value c =
    let e = all_taken c.args.vars.now c.loop-x.x-index (omega arith) in
    c.loop-x.invariant.value
    ∙ ap (λ (xs : List ℕ). sum_to (length (variables c.args.model.now)) (λ v. where_set (list_any (nat_eq v) xs) (greatest (at c.args.b.now v) ((whole c.args.model.now).coef c.args.r.now v)))) e
    ∙ all_of (length (variables c.args.model.now)) (λ (v : ℕ). greatest (at c.args.b.now v) ((whole c.args.model.now).coef c.args.r.now v)) c.args.vars.now
    (λ v lt none. brings_none (at c.args.b.now v) ((whole c.args.model.now).coef c.args.r.now v) (coef_none c.args.model.now c.args.r.now c.args.vars.now c.requires.each c.requires.row v lt none))
