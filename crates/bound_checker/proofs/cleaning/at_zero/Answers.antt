use Rattle.std.proofs.Common.{rules, SFits, refl}
use Rattle.std.specs.Int.{w128}
use Rattle.std.proofs.lemmas.Int.{to_z-of_z}
use Rattle.dual_bound.specs.declared.costs.Costs.{Costs}
use Rattle.bound_checker.proofs.TakingOut.{priced_zero}
use Rattle.bound_checker.proofs.cleaning.at_zero.Goals as goal

pub returns : goal.returns
returns c =
    let k : Costs = c.args.costs in
    let f : SFits w128 k.right = search rules in
    simp to_z-of_z (λ m b z ms is priced. priced_zero m b z ms k (record { reduced = k.reduced; right = k.right; value = k.right }) is priced refl refl refl)
