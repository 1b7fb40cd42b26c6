use Rattle.std.proofs.Common.{◌<◌, sym, subst, refl, length}
use Rattle.zero_one_rows.specs.declared.program.Var.{Var}
use Rattle.zero_one_rows.specs.Variables.{all_kinds}
use Rattle.zero_one_rows.proofs.VariableList.{var_listed}
use Rattle.zero_one_model.proofs.model.Model.cost.Goals as goal

pub cost_of-requires : goal.cost_of-requires
cost_of-requires c =
    let named = (var_listed c.args.self.now c.args.x c.requires).1 in
    (refl, subst (λ (x : Var). x.kind < length (all_kinds c.args.self.now)) (sym c.var.ensures) named.kind)
