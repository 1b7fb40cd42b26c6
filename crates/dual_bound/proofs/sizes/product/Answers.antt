use Rattle.std.proofs.Common.{rules, arith, SFits, ◌≤◌, ◌*◌, ◌*ℤ◌, ◌^◌, w64}
use Rattle.std.specs.Int.{w128}
use Rattle.std.specs.Int.RustNames.{unsigned_abs}
use Rattle.std.proofs.lemmas.Int.{to_z-of_z, fits_signed_from_abs}
use Rattle.dual_bound.proofs.Summing.{product_size}
use Rattle.dual_bound.proofs.sizes.product.Goals as goal

pub returns-clause-size : goal.returns-clause-size
returns-clause-size c = λ x y p q.
    let a : SFits w64 c.args.by = search rules in
    let b : SFits w64 c.args.each = search rules in
    let a' : SFits w128 c.args.by = fits_signed_from_abs w128 c.args.by (omega (arith, c.requires.by)) in
    let b' : SFits w128 c.args.each = fits_signed_from_abs w128 c.args.each (omega (arith, c.requires.each)) in
    let s : unsigned_abs (c.args.by *ℤ c.args.each) ≤ 2 ^ 40 * 2 ^ 37 = product_size c.args.by c.args.each (2 ^ 40) (2 ^ 37) c.requires.by c.requires.each in
    let f : SFits w128 (c.args.by *ℤ c.args.each) = fits_signed_from_abs w128 (c.args.by *ℤ c.args.each) (omega arith) in
    simp to_z-of_z (product_size c.args.by c.args.each x y p q)
