use Rattle.std.proofs.Common.{rules, arith, SFits, w64, ◌≡◌, ◌<◌, ◌≤◌, ◌^◌, ◌*ℤ◌, length, map, List, ℕ, ℤ, ◌∙◌, ap, sym}
use Rattle.std.specs.Prelude.{nat_eq}
use Rattle.std.specs.List.{list_any}
use Rattle.std.specs.Int.{w128}
use Rattle.std.specs.Int.RustNames.{unsigned_abs}
use Rattle.std.proofs.lemmas.Int.{to_z-of_z}
use Rattle.proof_trees.specs.Program.{sum_to, where_set}
use Rattle.proof_trees.specs.Boxes.{at}
use Rattle.zero_one_rows.specs.Variables.{variables}
use Rattle.zero_one_rows.specs.Rows.{whole}
use Rattle.row_matrix.specs.declared.entries.Term.{Term}
use Rattle.crossing_pricing.specs.Gaps.{number_at, gap}
use Rattle.dual_bound.proofs.Summing.{none_yet, further, all_of, all_taken}
use Rattle.dual_bound.proofs.Touched.{var_at, vars_long, inside_at, coef_at, small_at, coef_none, times_zero}
use Rattle.dual_bound.proofs.Pricing.{gap_none, gap_low}
use Rattle.dual_bound.proofs.costs.Costs.gaps.Goals as goal

pub loop-term-init : goal.loop-term-init
loop-term-init c =
    record {
      value = sym (none_yet (length (variables c.args.model.now)) (λ (v : ℕ). gap (at c.args.b.now v) (number_at c.args.self.now.reduced.items v) (c.args.by *ℤ (whole c.args.model.now).coef c.args.row.now v)) (map (λ t. t.at) c.args.terms.now));
      size = omega arith;
    }

pub gap_at-requires-clause-var : goal.gap_at-requires-clause-var
gap_at-requires-clause-var c =
    let inside : c.term-item.result.at < length (variables c.args.model.now) = inside_at c.args.model.now c.args.row.now c.args.terms.now c.requires.terms c.loop-term.term-index c.term-item.result c.loop-term-test.true c.term-item.is in
    omega (arith, c.requires.whole)

pub gap_at-requires-clause-small : goal.gap_at-requires-clause-small
gap_at-requires-clause-small c = c.requires.room.reduced c.term-item.result.at (inside_at c.args.model.now c.args.row.now c.args.terms.now c.requires.terms c.loop-term.term-index c.term-item.result c.loop-term-test.true c.term-item.is)

pub sum_of-total-requires-clause-right : goal.sum_of-total-requires-clause-right
sum_of-total-requires-clause-right c =
    let x : Term = c.term-item.result in
    let b : SFits w64 c.args.by = search rules in
    let h : SFits w128 c.gap_at.result = search rules in
    let small : unsigned_abs x.by ≤ 2 ^ 17 = small_at c.args.model.now c.args.row.now c.args.terms.now c.requires.terms c.loop-term.term-index x c.loop-term-test.true c.term-item.is in
    let low : unsigned_abs c.gap_at.result ≤ 2 ^ 57 = gap_low (at c.args.b.now x.at) (number_at c.args.self.now.reduced.items x.at) c.args.by x.by c.gap_at.result c.requires.by small (simp to_z-of_z at c.gap_at.ensures) in
    simp to_z-of_z (omega arith)

pub loop-term-preserved : goal.loop-term-preserved
loop-term-preserved c =
    let m = c.args.model.now in
    let x : Term = c.term-item.result in
    let f : ℕ → ℤ = λ v. gap (at c.args.b.now v) (number_at c.args.self.now.reduced.items v) (c.args.by *ℤ (whole m).coef c.args.row.now v) in
    let b : SFits w64 c.args.by = search rules in
    let g : SFits w128 c.sum_of-total.result = search rules in
    let h : SFits w128 c.gap_at.result = search rules in
    let lt : c.loop-term.term-index < length (map (λ t. t.at) c.args.terms.now) = omega (arith, vars_long c.args.terms.now, c.loop-term-test.true) in
    let inside : x.at < length (variables m) = inside_at m c.args.row.now c.args.terms.now c.requires.terms c.loop-term.term-index x c.loop-term-test.true c.term-item.is in
    let coef : x.by ≡ (whole m).coef c.args.row.now x.at = coef_at m c.args.row.now c.args.terms.now c.requires.terms c.loop-term.term-index x c.loop-term-test.true c.term-item.is in
    let small : unsigned_abs x.by ≤ 2 ^ 17 = small_at m c.args.row.now c.args.terms.now c.requires.terms c.loop-term.term-index x c.loop-term-test.true c.term-item.is in
    let low : unsigned_abs c.gap_at.result ≤ 2 ^ 57 = gap_low (at c.args.b.now x.at) (number_at c.args.self.now.reduced.items x.at) c.args.by x.by c.gap_at.result c.requires.by small (simp to_z-of_z at c.gap_at.ensures) in
    let y : c.gap_at.result ≡ f x.at = (simp to_z-of_z at c.gap_at.ensures) ∙ ap (λ (z : ℤ). gap (at c.args.b.now x.at) (number_at c.args.self.now.reduced.items x.at) (c.args.by *ℤ z)) coef in
    record {
      value = simp to_z-of_z (further (length (variables m)) f (map (λ t. t.at) c.args.terms.now) c.loop-term.term-index x.at c.gap_at.result c.sum_of-total.result _ c.requires.terms.once lt
          (var_at c.args.terms.now c.loop-term.term-index x c.loop-term-test.true c.term-item.is) inside y (simp to_z-of_z at c.loop-term.invariant.value) (simp to_z-of_z at c.sum_of-total.ensures.value));
      size = simp to_z-of_z (omega (arith, simp to_z-of_z at c.sum_of-total.ensures.size, low, c.loop-term.invariant.size));
    }

pub returns-clause-value : goal.returns-clause-value
returns-clause-value c =
    let m = c.args.model.now in
    let f : ℕ → ℤ = λ v. gap (at c.args.b.now v) (number_at c.args.self.now.reduced.items v) (c.args.by *ℤ (whole m).coef c.args.row.now v) in
    let xs : List ℕ = map (λ t. t.at) c.args.terms.now in
    let b : SFits w64 c.args.by = search rules in
    let all = all_taken xs c.loop-term.term-index (omega (arith, vars_long c.args.terms.now, c.loop-term-test.false)) in
    (simp to_z-of_z at c.loop-term.invariant.value)
    ∙ ap (λ (ys : List ℕ). sum_to (length (variables m)) (λ v. where_set (list_any (nat_eq v) ys) (f v))) all
    ∙ all_of (length (variables m)) f xs
    (λ v lt none. gap_none (at c.args.b.now v) (number_at c.args.self.now.reduced.items v) (c.args.by *ℤ (whole m).coef c.args.row.now v)
    (times_zero c.args.by ((whole m).coef c.args.row.now v) (coef_none m c.args.row.now c.args.terms.now c.requires.terms v lt none)))
