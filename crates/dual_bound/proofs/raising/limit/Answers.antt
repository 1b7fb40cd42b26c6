use Rattle.std.proofs.Common.{rules, arith, SFits, pos, ◌<ℤ◌}
use Rattle.std.specs.Int.{w128}
use Rattle.std.proofs.lemmas.Int.{to_z-of_z}
use Rattle.zero_one_rows.specs.Rows.{whole}
use Rattle.proof_trees.specs.Multipliers.{worth}
use Rattle.dual_bound.specs.Rising.{raised_by}
use Rattle.dual_bound.proofs.Flat.{rises_by_gain, above}
use Rattle.dual_bound.proofs.raising.limit.Goals as goal

pub returns : goal.returns
returns c =
    let f : SFits w128 c.gain.result = search rules in
    let up : pos 0 <ℤ c.gain.result = above c.gain.result (simp to_z-of_z at c.if-gain-le0.false) in
    let much : worth (whole c.args.model.now) c.args.b.now c.args.m.now <ℤ worth (whole c.args.model.now) c.args.b.now (raised_by c.args.m.now c.args.rising.now.row c.args.amount) = rises_by_gain c.args.model.now c.args.b.now c.args.m.now c.args.rising.now.row c.args.amount c.gain.result (c.gain.ensures c.args.m.now c.requires.priced) up in
    let rises = c.requires.rises in
    record { some = omega (arith, c.if-amount-eq0.false); low = omega (arith, rises.by.low, c.if-amount-rising.false); one = rises.by.one; much = much }
