use Rattle.std.proofs.Common.{rules, ◌≡◌, SFits, ℤ, Option, Bool, None, sym, ◌∙◌, ap, pos, ◌-ℤ◌, ◌*ℤ◌}
use Rattle.std.specs.Int.{w128}
use Rattle.std.proofs.lemmas.Int.{to_z-of_z}
use Rattle.std.proofs.lemmas.Option.{get_or_from_slice_get}
use Rattle.proof_trees.specs.Boxes.{at}
use Rattle.proof_trees.specs.Multipliers.{least}
use Rattle.event_search.proofs.worth.part_of.Goals as goal

pub returns-clause-value : goal.returns-clause-value
returns-clause-value c =
    let w : SFits w128 c.args.weighed = search rules in
    let d : SFits w128 c.reduced_cost.result = search rules in
    let f : SFits w128 c.least_of.result = search rules in
    let o : at c.args.b.now c.args.x ≡ c.at.result = get_or_from_slice_get c.args.b.now c.args.x c.at.result None c.at.ensures in
    let reduced : c.reduced_cost.result ≡ pos 16 *ℤ pos c.cost.result -ℤ c.args.weighed = simp to_z-of_z at c.reduced_cost.ensures.value in
    let v : c.least_of.result ≡ least c.at.result c.reduced_cost.result = simp to_z-of_z at c.least_of.ensures.value in
    simp to_z-of_z (v ∙ (ap (λ (p : Option Bool). least p c.reduced_cost.result) (sym o) ∙ ap (λ (z : ℤ). least (at c.args.b.now c.args.x) z) (reduced ∙ ap (λ (z : ℤ). pos 16 *ℤ z -ℤ c.args.weighed) c.cost.ensures.value)))
