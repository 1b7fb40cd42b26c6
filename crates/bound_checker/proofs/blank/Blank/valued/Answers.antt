use Rattle.std.proofs.Common.{rules, SFits, refl, pos}
use Rattle.std.specs.Int.{w128}
use Rattle.std.proofs.lemmas.Int.{to_z-of_z}
use Rattle.bound_checker.proofs.Blanks.{blank_valued}
use Rattle.bound_checker.proofs.blank.Blank.valued.Goals as goal

pub returns : goal.returns
returns c =
    let f : SFits w128 c.args.self.now.costs.value = search rules in
    simp to_z-of_z (λ m b blank clean. blank_valued m b c.args.self.now c.args.costs (record { reduced = c.args.costs.reduced; right = pos 0; value = c.args.self.now.costs.value }) blank clean refl refl refl)
