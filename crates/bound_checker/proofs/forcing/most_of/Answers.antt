use Rattle.std.proofs.Common.{rules, arith, SFits, w64, ◌≡◌, ◌<◌, length, map, List, ℕ, ℤ, ◌∙◌, ap, sym}
use Rattle.std.specs.Prelude.{nat_eq}
use Rattle.std.specs.List.{list_any}
use Rattle.std.specs.Int.{w128}
use Rattle.std.proofs.lemmas.Int.{to_z-of_z}
use Rattle.proof_trees.specs.Program.{sum_to, where_set}
use Rattle.proof_trees.specs.Boxes.{at, greatest}
use Rattle.zero_one_rows.specs.Variables.{variables}
use Rattle.zero_one_rows.specs.Rows.{whole}
use Rattle.row_matrix.specs.declared.entries.Term.{Term}
use Rattle.dual_bound.proofs.Summing.{none_yet, further, all_of, all_taken}
use Rattle.dual_bound.proofs.Touched.{var_at, vars_long, inside_at, coef_at, small_at, coef_none}
use Rattle.row_matrix.proofs.Rows.{brings_none}
use Rattle.bound_checker.proofs.forcing.most_of.Goals as goal

pub loop-term-init : goal.loop-term-init
loop-term-init c = record {
  value = sym (none_yet (length (variables c.args.model.now)) (λ (v : ℕ). greatest (at c.args.b.now v) ((whole c.args.model.now).coef c.args.row.now v)) (map (λ t. t.at) c.args.terms.now));
  size = omega arith;
}

pub part-requires-clause-var : goal.part-requires-clause-var
part-requires-clause-var c =
    let inside : c.term-item.result.at < length (variables c.args.model.now) = inside_at c.args.model.now c.args.row.now c.args.terms.now c.requires.terms c.loop-term.term-index c.term-item.result c.loop-term-test.true c.term-item.is in
    omega (arith, c.requires.whole)

pub part-requires-clause-small : goal.part-requires-clause-small
part-requires-clause-small c = small_at c.args.model.now c.args.row.now c.args.terms.now c.requires.terms c.loop-term.term-index c.term-item.result c.loop-term-test.true c.term-item.is

pub loop-term-preserved : goal.loop-term-preserved
loop-term-preserved c =
    let m = c.args.model.now in
    let x : Term = c.term-item.result in
    let f : ℕ → ℤ = λ v. greatest (at c.args.b.now v) ((whole m).coef c.args.row.now v) in
    let g : SFits w128 c.more-total.result = search rules in
    let h : SFits w64 c.part.result = search rules in
    let lt : c.loop-term.term-index < length (map (λ t. t.at) c.args.terms.now) = omega (arith, vars_long c.args.terms.now, c.loop-term-test.true) in
    let inside : x.at < length (variables m) = inside_at m c.args.row.now c.args.terms.now c.requires.terms c.loop-term.term-index x c.loop-term-test.true c.term-item.is in
    let coef : x.by ≡ (whole m).coef c.args.row.now x.at = coef_at m c.args.row.now c.args.terms.now c.requires.terms c.loop-term.term-index x c.loop-term-test.true c.term-item.is in
    let y : c.part.result ≡ f x.at = c.part.ensures.value ∙ ap (λ (z : ℤ). greatest (at c.args.b.now x.at) z) coef in
    record {
      value = simp to_z-of_z (further (length (variables m)) f (map (λ t. t.at) c.args.terms.now) c.loop-term.term-index x.at c.part.result c.more-total.result _ c.requires.terms.once lt
          (var_at c.args.terms.now c.loop-term.term-index x c.loop-term-test.true c.term-item.is) inside y c.loop-term.invariant.value (simp to_z-of_z at c.more-total.ensures.value));
      size = simp to_z-of_z (omega (arith, simp to_z-of_z at c.more-total.ensures.size, c.part.ensures.size, c.loop-term.invariant.size));
    }

pub returns-clause-value : goal.returns-clause-value
returns-clause-value c =
    let m = c.args.model.now in
    let f : ℕ → ℤ = λ v. greatest (at c.args.b.now v) ((whole m).coef c.args.row.now v) in
    let xs : List ℕ = map (λ t. t.at) c.args.terms.now in
    let all = all_taken xs c.loop-term.term-index (omega (arith, vars_long c.args.terms.now, c.loop-term-test.false)) in
    c.loop-term.invariant.value
    ∙ ap (λ (ys : List ℕ). sum_to (length (variables m)) (λ v. where_set (list_any (nat_eq v) ys) (f v))) all
    ∙ all_of (length (variables m)) f xs
    (λ v lt none. brings_none (at c.args.b.now v) ((whole m).coef c.args.row.now v) (coef_none m c.args.row.now c.args.terms.now c.requires.terms v lt none))
