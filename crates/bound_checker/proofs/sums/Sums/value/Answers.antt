use Rattle.std.proofs.Common.{rules, SFits, ◌∙◌}
use Rattle.std.specs.Int.{w128}
use Rattle.std.proofs.lemmas.Int.{to_z-of_z}
use Rattle.bound_checker.proofs.Raising.{value_here}
use Rattle.bound_checker.proofs.sums.Sums.value.Goals as goal

pub returns : goal.returns
returns c = λ m b ms carries.
    let f : SFits w128 c.total.result = search rules in
    simp to_z-of_z (c.total.ensures ∙ value_here m b ms c.args.self.now carries)
