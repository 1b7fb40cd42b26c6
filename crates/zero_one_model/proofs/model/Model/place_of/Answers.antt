use Rattle.std.proofs.Common.{◌<◌, sym, subst, length}
use Rattle.stow_data.specs.Ship.{places}
use Rattle.zero_one_rows.specs.declared.program.Var.{Var}
use Rattle.zero_one_rows.specs.Variables.{Voyage}
use Rattle.zero_one_rows.proofs.VariableList.{var_listed}
use Rattle.zero_one_model.proofs.model.Model.place_of.Goals as goal

pub place_at-requires : goal.place_at-requires
place_at-requires c =
    let named = (var_listed c.args.self.now c.args.x c.requires).1 in
    subst (λ (m : Voyage). c.var.result.place < length (places m.ship)) (sym c.self.view_is)
    (subst (λ (x : Var). x.place < length (places c.args.self.now.ship)) (sym c.var.ensures) named.place)
