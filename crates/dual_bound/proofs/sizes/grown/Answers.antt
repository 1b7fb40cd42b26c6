use Rattle.std.proofs.Common.{rules, arith, SFits, ◌≡◌, ◌*ℤ◌, ◌+ℤ◌, ℤ, ◌^◌, w64, ◌∙◌, ap}
use Rattle.std.specs.Int.{w128}
use Rattle.std.proofs.lemmas.Int.{to_z-of_z}
use Rattle.dual_bound.proofs.sizes.grown.Goals as goal

pub sum_of-requires-clause-right : goal.sum_of-requires-clause-right
sum_of-requires-clause-right c =
    let a : SFits w64 c.args.by = search rules in
    let b : SFits w64 c.args.each = search rules in
    let f : SFits w128 c.product.result = search rules in
    let e = simp to_z-of_z at c.product.ensures.size in
    simp to_z-of_z (omega (arith, e (2 ^ 40) (2 ^ 37) c.requires.by c.requires.each))

pub returns-clause-value : goal.returns-clause-value
returns-clause-value c =
    let a : SFits w64 c.args.by = search rules in
    let b : SFits w64 c.args.each = search rules in
    let f : SFits w128 c.product.result = search rules in
    let g : SFits w128 c.sum_of.result = search rules in
    let h : SFits w128 c.args.total = search rules in
    let p : c.product.result ≡ c.args.by *ℤ c.args.each = simp to_z-of_z at c.product.ensures.value in
    let q : c.sum_of.result ≡ c.args.total +ℤ c.product.result = simp to_z-of_z at c.sum_of.ensures.value in
    simp to_z-of_z (q ∙ ap (λ (z : ℤ). c.args.total +ℤ z) p)

pub returns-clause-size : goal.returns-clause-size
returns-clause-size c =
    let a : SFits w64 c.args.by = search rules in
    let b : SFits w64 c.args.each = search rules in
    let f : SFits w128 c.product.result = search rules in
    let g : SFits w128 c.sum_of.result = search rules in
    let h : SFits w128 c.args.total = search rules in
    let e = simp to_z-of_z at c.product.ensures.size in
    simp to_z-of_z (omega (arith, e (2 ^ 40) (2 ^ 37) c.requires.by c.requires.each, simp to_z-of_z at c.sum_of.ensures.size))
