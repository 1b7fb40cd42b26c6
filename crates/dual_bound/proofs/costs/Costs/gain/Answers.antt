use Rattle.std.proofs.Common.{rules, arith, SFits, w64, ◌≡◌, ◌^◌, ◌+ℤ◌, ◌*ℤ◌, ℤ, pos, ◌∙◌, ap}
use Rattle.std.specs.Int.{w128}
use Rattle.std.proofs.lemmas.Int.{to_z-of_z, fits_signed_from_abs}
use Rattle.zero_one_rows.specs.Rows.{whole}
use Rattle.dual_bound.specs.Costs.{gaps_of}
use Rattle.dual_bound.proofs.Pricing.{has_room, gain_is}
use Rattle.dual_bound.proofs.costs.Costs.gain.Goals as goal

pub gaps-requires-clause-room : goal.gaps-requires-clause-room
gaps-requires-clause-room c =
    has_room c.args.model.now c.args.b.now c.args.self.now c.keeps_limits.ensures.rows c.keeps_limits.ensures.vars c.keeps_limits.ensures.costs c.requires.priced

pub sum_of-requires-clause-left : goal.sum_of-requires-clause-left
sum_of-requires-clause-left c =
    let f : SFits w128 c.product.result = search rules in
    let q : SFits w64 c.signed-by.result = search rules in
    let s : SFits w64 c.args.listed.right = fits_signed_from_abs w64 c.args.listed.right (omega (arith, c.requires.listed.low)) in
    let e = simp to_z-of_z at c.product.ensures.size in
    simp to_z-of_z (omega (arith, e (2 ^ 40) (2 ^ 37) c.signed-by.ensures.size c.requires.listed.low))

pub returns : goal.returns
returns c = λ ms priced.
    let m = c.args.model.now in
    let ds = c.args.self.now.reduced.items in
    let side : ℤ = c.args.listed.right in
    let f : SFits w128 c.product.result = search rules in
    let h : SFits w128 c.gaps.result = search rules in
    let k : SFits w128 c.sum_of.result = search rules in
    let q : SFits w64 c.signed-by.result = search rules in
    let s : SFits w64 side = fits_signed_from_abs w64 side (omega (arith, c.requires.listed.low)) in
    let by : c.signed-by.result ≡ pos c.args.more = c.signed-by.ensures.value in
    let p : c.product.result ≡ pos c.args.more *ℤ (whole m).rhs c.args.listed.row.now = (simp to_z-of_z at c.product.ensures.value) ∙ ap (λ (z : ℤ). z *ℤ side) by ∙ ap (λ (z : ℤ). pos c.args.more *ℤ z) c.requires.listed.right in
    let g : c.gaps.result ≡ gaps_of m c.args.b.now ds c.args.listed.row.now (pos c.args.more) = (simp to_z-of_z at c.gaps.ensures.value) ∙ ap (λ (z : ℤ). gaps_of m c.args.b.now ds c.args.listed.row.now z) by in
    let total : c.sum_of.result ≡ pos c.args.more *ℤ (whole m).rhs c.args.listed.row.now +ℤ gaps_of m c.args.b.now ds c.args.listed.row.now (pos c.args.more) =
    (simp to_z-of_z at c.sum_of.ensures.value) ∙ ap (λ (z : ℤ). z +ℤ c.gaps.result) p ∙ ap (λ (z : ℤ). pos c.args.more *ℤ (whole m).rhs c.args.listed.row.now +ℤ z) g in
    simp to_z-of_z (gain_is m c.args.b.now ms c.args.listed.row.now c.args.more c.args.self.now c.sum_of.result priced total)
