use Rattle.std.proofs.Common.{refl, SFits, w64, ◌+ℤ◌, ◌*ℤ◌}
use Rattle.std.specs.Int.{w128}
use Rattle.std.proofs.lemmas.Int.{to_z-of_z}
use Rattle.event_search.proofs.Totals.{wider, product_fits, grown_fits}
use Rattle.event_search.proofs.tally.grown.Goals as goal

pub overflow_add-result : goal.overflow_add-result
overflow_add-result c =
    let t : SFits w128 c.args.total = c.ranges.total in
    let b : SFits w64 c.args.by = c.ranges.by in
    let e : SFits w64 c.args.each = c.ranges.each in
    let b' : SFits w128 c.args.by = wider c.args.by b in
    let e' : SFits w128 c.args.each = wider c.args.each e in
    let p : SFits w128 (c.args.by *ℤ c.args.each) = product_fits c.args.by c.args.each b c.requires.each in
    simp to_z-of_z (grown_fits c.args.total c.args.by c.args.each c.requires.total b c.requires.each)

pub returns : goal.returns
returns c =
    let t : SFits w128 c.args.total = c.ranges.total in
    let b : SFits w64 c.args.by = c.ranges.by in
    let e : SFits w64 c.args.each = c.ranges.each in
    let b' : SFits w128 c.args.by = wider c.args.by b in
    let e' : SFits w128 c.args.each = wider c.args.each e in
    let p : SFits w128 (c.args.by *ℤ c.args.each) = product_fits c.args.by c.args.each b c.requires.each in
    let s : SFits w128 (c.args.total +ℤ c.args.by *ℤ c.args.each) = grown_fits c.args.total c.args.by c.args.each c.requires.total b c.requires.each in
    simp to_z-of_z refl
