use Rattle.std.proofs.Common.{rules, arith, SFits, ◌≡◌, ◌*ℤ◌, ◌-ℤ◌, ℤ, ◌^◌, w64, ◌∙◌, ap}
use Rattle.std.specs.Int.{w128}
use Rattle.std.proofs.lemmas.Int.{to_z-of_z}
use Rattle.dual_bound.proofs.sizes.moved.Goals as goal

pub difference-requires-clause-right : goal.difference-requires-clause-right
difference-requires-clause-right c =
    let a : SFits w64 c.args.by = search rules in
    let b : SFits w64 c.args.coef = search rules in
    let f : SFits w128 c.product.result = search rules in
    let e = simp to_z-of_z at c.product.ensures.size in
    simp to_z-of_z (omega (arith, e (2 ^ 40) (2 ^ 17) c.requires.by c.requires.coef))

pub returns-clause-value : goal.returns-clause-value
returns-clause-value c =
    let a : SFits w64 c.args.by = search rules in
    let b : SFits w64 c.args.coef = search rules in
    let f : SFits w128 c.product.result = search rules in
    let g : SFits w128 c.difference.result = search rules in
    let h : SFits w128 c.args.reduced = search rules in
    let p : c.product.result ≡ c.args.by *ℤ c.args.coef = simp to_z-of_z at c.product.ensures.value in
    let q : c.difference.result ≡ c.args.reduced -ℤ c.product.result = simp to_z-of_z at c.difference.ensures.value in
    simp to_z-of_z (q ∙ ap (λ (z : ℤ). c.args.reduced -ℤ z) p)

pub returns-clause-size : goal.returns-clause-size
returns-clause-size c =
    let a : SFits w64 c.args.by = search rules in
    let b : SFits w64 c.args.coef = search rules in
    let f : SFits w128 c.product.result = search rules in
    let g : SFits w128 c.difference.result = search rules in
    let h : SFits w128 c.args.reduced = search rules in
    let e = simp to_z-of_z at c.product.ensures.size in
    simp to_z-of_z (omega (arith, e (2 ^ 40) (2 ^ 17) c.requires.by c.requires.coef, simp to_z-of_z at c.difference.ensures.size))
