use Rattle.std.proofs.Common.{rules, arith, SFits, w64, ◌≡◌, ◌≤◌, ◌^◌, ◌+ℤ◌, ◌*ℤ◌, ℤ, ◌∙◌, ap, sym, subst}
use Rattle.std.specs.Int.{w128}
use Rattle.std.specs.Int.RustNames.{unsigned_abs}
use Rattle.std.proofs.lemmas.Int.{to_z-of_z, fits_signed_from_abs}
use borrow.Author.Differences.{ints}
use Rattle.dual_bound.specs.Costs.{IsSmall}
use Rattle.dual_bound.proofs.Touched.{coefs_small}
use Rattle.dual_bound.proofs.Pricing.{has_room, add_priced}
use Rattle.dual_bound.proofs.costs.Costs.add_row.Goals as goal

pub price_vars-requires-clause-room : goal.price_vars-requires-clause-room
price_vars-requires-clause-room c =
    has_room c.args.model.now c.args.b.now c.args.self.now c.keeps_limits.ensures.rows c.keeps_limits.ensures.vars c.keeps_limits.ensures.costs c.requires.priced

pub grown-self-requires-clause-total : goal.grown-self-requires-clause-total
grown-self-requires-clause-total c =
    let low : unsigned_abs c.price_vars.new.self.right ≤ 2 ^ 98 = subst (λ (z : ℤ). unsigned_abs z ≤ 2 ^ 98) (sym c.price_vars.ensures.right) (has_room c.args.model.now c.args.b.now c.args.self.now c.keeps_limits.ensures.rows c.keeps_limits.ensures.vars c.keeps_limits.ensures.costs c.requires.priced).right in
    let f : SFits w128 c.price_vars.new.self.right = fits_signed_from_abs w128 c.price_vars.new.self.right (omega arith) in
    simp to_z-of_z (omega arith)

pub returns : goal.returns
returns c = λ ms n priced sum low.
    let m = c.args.model.now in
    let mid = c.price_vars.new.self in
    let side : ℤ = c.args.listed.right in
    let right_low : unsigned_abs mid.right ≤ 2 ^ 98 = subst (λ (z : ℤ). unsigned_abs z ≤ 2 ^ 98) (sym c.price_vars.ensures.right) (has_room m c.args.b.now c.args.self.now c.keeps_limits.ensures.rows c.keeps_limits.ensures.vars c.keeps_limits.ensures.costs c.requires.priced).right in
    let f : SFits w128 mid.right = fits_signed_from_abs w128 mid.right (omega arith) in
    let f' : SFits w128 mid.value = fits_signed_from_abs w128 mid.value (omega (arith, c.price_vars.ensures.value)) in
    let g : SFits w128 c.grown-self.result = search rules in
    let g' : SFits w128 c.grown-self-2.result = search rules in
    let b : SFits w64 c.args.by = search rules in
    let s : SFits w64 side = fits_signed_from_abs w64 side (omega (arith, c.requires.listed.low)) in
    let right : c.grown-self.result ≡ mid.right +ℤ c.args.by *ℤ side = simp to_z-of_z at c.grown-self.ensures.value in
    let value : c.grown-self-2.result ≡ mid.value +ℤ c.args.by *ℤ side = simp to_z-of_z at c.grown-self-2.ensures.value in
    let small : IsSmall m c.args.listed.row.now = record {
      named = c.requires.listed.row;
      right = subst (λ (z : ℤ). unsigned_abs z ≤ 2 ^ 37) c.requires.listed.right c.requires.listed.low;
      coefs = coefs_small m c.args.listed.row.now c.args.listed.terms.now c.requires.listed.terms;
    } in
    let reduced = simp to_z-of_z at c.price_vars.ensures.reduced in
    simp to_z-of_z (add_priced m c.args.b.now ms c.args.listed.row.now c.args.by n c.args.self.now (record { reduced = mid.reduced; right = c.grown-self.result; value = c.grown-self-2.result }) priced sum low small
    (record { len = c.price_vars.ensures.gauged.len; value = omega (arith, ints, right, value, c.price_vars.ensures.gauged.value) })
    (right ∙ ap (λ (z : ℤ). z +ℤ c.args.by *ℤ side) c.price_vars.ensures.right ∙ ap (λ (z : ℤ). c.args.self.now.right +ℤ c.args.by *ℤ z) c.requires.listed.right)
    reduced)
