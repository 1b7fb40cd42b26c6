use Rattle.std.proofs.Common.{rules, SFits, ◌≡◌, subst, set, Some}
use Rattle.std.specs.Int.{w128}
use Rattle.std.proofs.lemmas.Int.{to_z-of_z}
use Rattle.zero_one_rows.specs.Rows.{whole}
use Rattle.proof_trees.specs.Multipliers.{worth}
use Rattle.dual_bound.specs.Gauging.{Gauging}
use Rattle.dual_bound.proofs.gauge.Gauge.other.Goals as goal

pub returns : goal.returns
returns c =
    let f : SFits w128 c.other.result = search rules in
    simp to_z-of_z (subst (λ (g : Gauging). c.other.result ≡ worth (whole g.voyage) (set g.box c.args.x (Some c.args.value)) g.multipliers) c.self.view_is
    (c.other.ensures c.self.inside.multipliers c.self.invariant.priced))
