use Rattle.std.proofs.Common.{rules, arith, SFits, ◌≡◌, ◌<◌, ◌≤◌, ◌^◌, ◌+ℤ◌, ◌-ℤ◌, length, ℤ, ◌∙◌, ap, sym, subst}
use Rattle.std.specs.Int.{w128}
use Rattle.std.specs.Int.RustNames.{unsigned_abs}
use Rattle.std.proofs.lemmas.Int.{to_z-of_z, fits_signed_from_abs}
use Rattle.zero_one_rows.specs.Variables.{variables}
use Rattle.proof_trees.specs.Boxes.{at}
use Rattle.proof_trees.specs.Multipliers.{least}
use Rattle.crossing_pricing.specs.Gaps.{number_at}
use Rattle.dual_bound.proofs.Pricing.{has_room, put_box}
use Rattle.dual_bound.proofs.costs.Costs.with_part.Goals as goal

pub swapped-requires-clause-value : goal.swapped-requires-clause-value
swapped-requires-clause-value c =
    let low : unsigned_abs c.args.self.now.value ≤ 2 ^ 100 = (has_room c.args.model.now c.args.b.now c.args.self.now c.keeps_limits.ensures.rows c.keeps_limits.ensures.vars c.keeps_limits.ensures.costs c.requires.priced).value in
    let f : SFits w128 c.args.self.now.value = fits_signed_from_abs w128 c.args.self.now.value (omega arith) in
    simp to_z-of_z (omega arith)

pub swapped-requires-clause-old : goal.swapped-requires-clause-old
swapped-requires-clause-old c =
    let inside : c.args.x < length (variables c.args.model.now) = omega (arith, c.requires.var, c.requires.whole) in
    let low : unsigned_abs c.reduced_at-reduced.result ≤ 2 ^ 79 = subst (λ (z : ℤ). unsigned_abs z ≤ 2 ^ 79) (sym c.reduced_at-reduced.ensures) ((has_room c.args.model.now c.args.b.now c.args.self.now c.keeps_limits.ensures.rows c.keeps_limits.ensures.vars c.keeps_limits.ensures.costs c.requires.priced).reduced c.args.x inside) in
    let r : SFits w128 c.reduced_at-reduced.result = search rules in
    let g : SFits w128 c.part.result = search rules in
    let s : unsigned_abs c.part.result ≤ unsigned_abs c.reduced_at-reduced.result = simp to_z-of_z at c.part.ensures.size in
    simp to_z-of_z (omega arith)

pub swapped-requires-clause-new : goal.swapped-requires-clause-new
swapped-requires-clause-new c =
    let inside : c.args.x < length (variables c.args.model.now) = omega (arith, c.requires.var, c.requires.whole) in
    let low : unsigned_abs c.reduced_at-reduced.result ≤ 2 ^ 79 = subst (λ (z : ℤ). unsigned_abs z ≤ 2 ^ 79) (sym c.reduced_at-reduced.ensures) ((has_room c.args.model.now c.args.b.now c.args.self.now c.keeps_limits.ensures.rows c.keeps_limits.ensures.vars c.keeps_limits.ensures.costs c.requires.priced).reduced c.args.x inside) in
    let r : SFits w128 c.reduced_at-reduced.result = search rules in
    let g : SFits w128 c.least_of.result = search rules in
    let s : unsigned_abs c.least_of.result ≤ unsigned_abs c.reduced_at-reduced.result = simp to_z-of_z at c.least_of.ensures.size in
    simp to_z-of_z (omega arith)

pub returns : goal.returns
returns c =
    let ds = c.args.self.now.reduced.items in
    let inside : c.args.x < length (variables c.args.model.now) = omega (arith, c.requires.var, c.requires.whole) in
    let low : unsigned_abs c.args.self.now.value ≤ 2 ^ 100 = (has_room c.args.model.now c.args.b.now c.args.self.now c.keeps_limits.ensures.rows c.keeps_limits.ensures.vars c.keeps_limits.ensures.costs c.requires.priced).value in
    let f : SFits w128 c.args.self.now.value = fits_signed_from_abs w128 c.args.self.now.value (omega arith) in
    let r : SFits w128 c.reduced_at-reduced.result = search rules in
    let g : SFits w128 c.part.result = search rules in
    let h : SFits w128 c.least_of.result = search rules in
    let k : SFits w128 c.swapped.result = search rules in
    let old : c.part.result ≡ least (at c.args.b.now c.args.x) (number_at ds c.args.x) = (simp to_z-of_z at c.part.ensures.value) ∙ ap (λ (z : ℤ). least (at c.args.b.now c.args.x) z) c.reduced_at-reduced.ensures in
    let new : c.least_of.result ≡ least c.args.allowed (number_at ds c.args.x) = (simp to_z-of_z at c.least_of.ensures.value) ∙ ap (λ (z : ℤ). least c.args.allowed z) c.reduced_at-reduced.ensures in
    let more : c.swapped.result ≡ c.args.self.now.value +ℤ (least c.args.allowed (number_at ds c.args.x) -ℤ least (at c.args.b.now c.args.x) (number_at ds c.args.x)) =
    (simp to_z-of_z at c.swapped.ensures.value) ∙ ap (λ (z : ℤ). c.args.self.now.value +ℤ (c.least_of.result -ℤ z)) old ∙ ap (λ (z : ℤ). c.args.self.now.value +ℤ (z -ℤ least (at c.args.b.now c.args.x) (number_at ds c.args.x))) new in
    simp to_z-of_z (put_box c.args.model.now c.args.b.now ds c.args.x c.args.allowed c.args.self.now.value c.swapped.result c.args.self.now.right inside c.requires.whole c.requires.priced.1.gauged.value more)
