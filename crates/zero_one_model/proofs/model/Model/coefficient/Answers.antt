use Rattle.std.proofs.Common.{◌≤◌, ◌<◌, ◌^◌, sym, subst, refl, w64, FitsSigned, rules}
use Rattle.std.specs.Prelude.{ℤ, unsigned_abs, length}
use Rattle.std.proofs.lemmas.Int.{to_z-of_z}
use Rattle.stow_data.specs.Ship.{places}
use Rattle.zero_one_rows.specs.declared.program.Var.{Var}
use Rattle.zero_one_rows.specs.Variables.{all_kinds}
use Rattle.zero_one_rows.proofs.VariableList.{var_listed}
use Rattle.stow_data.specs.Profile.{IsShip}
use Rattle.stow_data.specs.Shipment.{IsCargo}
use Rattle.zero_one_rows.specs.Variables.{Voyage}
use Rattle.zero_one_rows.proofs.Sizes.{coefficient_small}
use Rattle.zero_one_model.proofs.model.Model.coefficient.Goals as goal

pub coefficient_of-requires : goal.coefficient_of-requires
coefficient_of-requires c =
    let named = (var_listed c.args.self.now c.args.x c.requires.var).1 in (
      refl,
      (
        c.requires.row,
        (
          subst (λ (x : Var). x.place < length (places c.args.self.now.ship)) (sym c.var.ensures) named.place,
          subst (λ (x : Var). x.kind < length (all_kinds c.args.self.now)) (sym c.var.ensures) named.kind,
        ),
      ),
    )

pub returns-clause-size : goal.returns-clause-size
returns-clause-size c =
    let sound : IsShip c.args.self.now.ship = subst (λ (v : Voyage). IsShip v.ship) c.self.view_is c.obeys_rules.ensures in
    let lawful : IsCargo c.args.self.now.cargo = subst (λ (v : Voyage). IsCargo v.cargo) c.self.view_is c.obeys_rules-2.ensures in
    let fits : FitsSigned w64 c.coefficient_of.result = search rules in
    let small : unsigned_abs c.coefficient_of.result ≤ 2 ^ 17 = subst (λ (z : ℤ). unsigned_abs z ≤ 2 ^ 17) (sym c.coefficient_of.ensures) (coefficient_small c.args.self.now c.args.r.now c.var.result sound lawful c.requires.row) in
    subst (λ (z : ℤ). unsigned_abs z ≤ 2 ^ 17) (sym (to_z-of_z w64 c.coefficient_of.result fits)) small
