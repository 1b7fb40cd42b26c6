use Rattle.std.proofs.Common.{subst}
use Rattle.stow_data.specs.Shipment.{IsCargo}
use Rattle.zero_one_rows.specs.Variables.{Voyage}
use Rattle.zero_one_rows.proofs.Sizes.{cost_small}
use Rattle.zero_one_model.proofs.model.Model.keeps_limits.Goals as goal

pub returns-clause-costs : goal.returns-clause-costs
returns-clause-costs c =
    let lawful : IsCargo c.args.self.now.cargo = subst (λ (v : Voyage). IsCargo v.cargo) c.self.view_is c.obeys_rules.ensures in
    λ x. cost_small c.args.self.now x lawful
