use Rattle.std.proofs.Common.{rules, arith, SFits, w64, w32, ◌≡◌, ◌<◌, ◌≤◌, ◌+◌, ◌^◌, ◌+ℤ◌, ◌-ℤ◌, ◌*ℤ◌, length, map, get_or, set, List, ℕ, ℤ, ◌∙◌, ap, sym, subst}
use Rattle.std.specs.Int.RustNames.{unsigned_abs}
use Rattle.std.proofs.lemmas.Int.{to_z-of_z}
use Rattle.std.proofs.lemmas.List.{length-set}
use Rattle.zero_one_rows.specs.Variables.{variables}
use Rattle.zero_one_rows.specs.Rows.{whole}
use Rattle.proof_trees.specs.Boxes.{at}
use Rattle.row_matrix.specs.declared.entries.Term.{Term}
use Rattle.crossing_pricing.specs.Gaps.{number_at}
use Rattle.dual_bound.specs.Costs.{parts}
use Rattle.dual_bound.proofs.Summing.{Lost, fresh, lost_more}
use Rattle.dual_bound.proofs.Touched.{var_at, vars_long, inside_at, coef_at, small_at, all_lost}
use Rattle.dual_bound.proofs.Pricing.{put_gauged, gap_more}
use Rattle.dual_bound.proofs.costs.Costs.price_vars.Goals as goal

pub price_var-requires-clause-small : goal.price_var-requires-clause-small
price_var-requires-clause-small c =
    let x : Term = c.term-item.result in
    let xs : List ℕ = map (λ t. t.at) c.args.terms.now in
    let b : SFits w64 c.args.by = search rules in
    let lt : c.loop-term.term-index < length xs = omega (arith, vars_long c.args.terms.now, c.loop-term-test.true) in
    let inside : x.at < length (variables c.args.model.now) = inside_at c.args.model.now c.args.row.now c.args.terms.now c.requires.terms c.loop-term.term-index x c.loop-term-test.true c.term-item.is in
    let was = fresh (λ v. c.args.by *ℤ (whole c.args.model.now).coef c.args.row.now v) c.args.self.now.reduced.items xs (length (variables c.args.model.now)) c.loop-term.self.reduced.items c.loop-term.term-index x.at c.requires.terms.once lt (var_at c.args.terms.now c.loop-term.term-index x c.loop-term-test.true c.term-item.is) inside (simp to_z-of_z at c.loop-term.invariant.reduced) in
    subst (λ (z : ℤ). unsigned_abs z ≤ 2 ^ 79) (sym was) (c.requires.room.reduced x.at inside)

pub loop-term-preserved : goal.loop-term-preserved
loop-term-preserved c =
    let m = c.args.model.now in
    let i = c.loop-term.invariant in
    let x : Term = c.term-item.result in
    let xs : List ℕ = map (λ t. t.at) c.args.terms.now in
    let ws : List ℤ = c.loop-term.self.reduced.items in
    let n : ℕ = length (variables m) in
    let b : SFits w64 c.args.by = search rules in
    let k : SFits w32 x.by = search rules in
    let lt : c.loop-term.term-index < length xs = omega (arith, vars_long c.args.terms.now, c.loop-term-test.true) in
    let here : x.at ≡ get_or xs c.loop-term.term-index 0 = var_at c.args.terms.now c.loop-term.term-index x c.loop-term-test.true c.term-item.is in
    let inside : x.at < n = inside_at m c.args.row.now c.args.terms.now c.requires.terms c.loop-term.term-index x c.loop-term-test.true c.term-item.is in
    let coef : x.by ≡ (whole m).coef c.args.row.now x.at = coef_at m c.args.row.now c.args.terms.now c.requires.terms c.loop-term.term-index x c.loop-term-test.true c.term-item.is in
    let lost : Lost (λ v. c.args.by *ℤ (whole m).coef c.args.row.now v) c.args.self.now.reduced.items xs n ws c.loop-term.term-index = simp to_z-of_z at i.reduced in
    let y : ℤ = number_at ws x.at -ℤ c.args.by *ℤ x.by in
    let reduced : c.price_var.new.self.reduced.items ≡ set ws x.at y = simp to_z-of_z at c.price_var.ensures.reduced in
    let value = simp to_z-of_z at c.price_var.ensures.value in
    record {
      right = c.price_var.ensures.right ∙ i.right;
      gauged = record {
        len = ap (λ (zs : List ℤ). length zs) reduced ∙ length-set ws x.at y ∙ i.gauged.len;
        value = put_gauged m c.args.b.now ws x.at (c.args.by *ℤ x.by) c.loop-term.self.value c.price_var.new.self.value c.loop-term.self.right inside i.gauged.len i.gauged.value value
            ∙ ap (λ (z : ℤ). z +ℤ parts m c.args.b.now (set ws x.at y)) (sym c.price_var.ensures.right)
            ∙ ap (λ (zs : List ℤ). c.price_var.new.self.right +ℤ parts m c.args.b.now zs) (sym reduced);
      };
      value = omega (arith, i.value, gap_more (at c.args.b.now x.at) (number_at ws x.at) c.args.by x.by c.loop-term.self.value c.price_var.new.self.value c.requires.by (small_at m c.args.row.now c.args.terms.now c.requires.terms c.loop-term.term-index x c.loop-term-test.true c.term-item.is) value);
      reduced = simp to_z-of_z (subst (λ (zs : List ℤ). Lost (λ v. c.args.by *ℤ (whole m).coef c.args.row.now v) c.args.self.now.reduced.items xs n zs (c.loop-term.term-index + 1)) (sym reduced)
          (lost_more (λ v. c.args.by *ℤ (whole m).coef c.args.row.now v) c.args.self.now.reduced.items xs n ws c.loop-term.term-index x.at y c.requires.terms.once i.gauged.len lt here inside lost (ap (λ (z : ℤ). number_at ws x.at -ℤ c.args.by *ℤ z) coef)));
    }

pub returns-clause-reduced : goal.returns-clause-reduced
returns-clause-reduced c =
    let b : SFits w64 c.args.by = search rules in
    all_lost c.args.model.now c.args.row.now c.args.terms.now c.requires.terms c.args.by c.args.self.now.reduced.items c.loop-term.self.reduced.items c.loop-term.term-index c.loop-term-test.false (simp to_z-of_z at c.loop-term.invariant.reduced)
