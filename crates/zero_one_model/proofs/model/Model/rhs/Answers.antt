use Rattle.std.proofs.Common.{◌≤◌, ◌^◌, ap, sym, subst, w64, FitsSigned, rules}
use Rattle.std.specs.Prelude.{ℤ, unsigned_abs}
use Rattle.std.proofs.lemmas.Int.{to_z-of_z}
use Rattle.stow_data.specs.Shipment.{IsCargo}
use Rattle.zero_one_rows.specs.Variables.{Voyage}
use Rattle.stow_data.specs.Profile.{IsShip}
use Rattle.zero_one_rows.proofs.Sizes.{right_small}
use Rattle.zero_one_model.proofs.model.Model.rhs.Goals as goal

pub returns-clause-size : goal.returns-clause-size
returns-clause-size c =
    let lawful : IsCargo c.args.self.now.cargo = subst IsCargo (ap (λ (v : Voyage). v.cargo) c.self.view_is) c.obeys_rules-2.ensures in
    let sound : IsShip c.args.self.now.ship = subst (λ (v : Voyage). IsShip v.ship) c.self.view_is c.obeys_rules.ensures in
    let fits : FitsSigned w64 c.rhs_of.result = search rules in
    let small : unsigned_abs c.rhs_of.result ≤ 2 ^ 37 = subst (λ (z : ℤ). unsigned_abs z ≤ 2 ^ 37) (sym c.rhs_of.ensures) (right_small c.args.self.now c.args.r.now sound lawful c.requires) in
    subst (λ (z : ℤ). unsigned_abs z ≤ 2 ^ 37) (sym (to_z-of_z w64 c.rhs_of.result fits)) small
