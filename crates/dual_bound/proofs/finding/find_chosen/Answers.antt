use Rattle.std.proofs.Common.{rules, SFits, w64, ◌≡◌, true, ℤ, pos}
use lib.Signed.{le_z}
use Rattle.std.proofs.lemmas.Int.{to_z-of_z}
use Rattle.dual_bound.proofs.Flat.{at_most_none}
use Rattle.dual_bound.proofs.BaseFlat.{crossing_flat}
use Rattle.dual_bound.proofs.finding.find_chosen.Goals as goal

pub find_low-requires-clause-crossing : goal.find_low-requires-clause-crossing
find_low-requires-clause-crossing c =
    let gain : ℤ = c.args.choice.now.gain in
    let s : SFits w64 gain = search rules in
    let le : le_z gain (pos 0) ≡ true = simp to_z-of_z at c.if-choice-le0.true in
    crossing_flat c.args.model.now c.args.b.now c.args.m.now c.args.costs.now gain c.requires.priced c.requires.most (at_most_none gain le)
