use Rattle.std.proofs.Common.{rules, SFits, ◌≡◌, ◌∙◌, subst}
use Rattle.std.specs.Int.{w128}
use Rattle.std.proofs.lemmas.Int.{to_z-of_z}
use Rattle.zero_one_rows.specs.Rows.{whole}
use Rattle.proof_trees.specs.Multipliers.{worth}
use Rattle.dual_bound.specs.Gauging.{Gauging}
use Rattle.dual_bound.proofs.Pricing.{value_is}
use Rattle.dual_bound.proofs.gauge.Gauge.value.Goals as goal

pub returns : goal.returns
returns c =
    let f : SFits w128 c.total.result = search rules in
    simp to_z-of_z (subst (λ (g : Gauging). c.total.result ≡ worth (whole g.voyage) g.box g.multipliers) c.self.view_is
    (c.total.ensures ∙ value_is c.self.inside.model.now c.self.inside.b c.self.inside.multipliers c.self.inside.costs c.self.invariant.priced))
