use Rattle.std.proofs.Common.{rules, SFits, ◌∙◌, set}
use Rattle.std.specs.Int.{w128}
use Rattle.std.proofs.lemmas.Int.{to_z-of_z}
use Rattle.dual_bound.proofs.Pricing.{worth_with}
use Rattle.dual_bound.proofs.costs.Costs.other.Goals as goal

pub returns : goal.returns
returns c = λ ms priced.
    let f : SFits w128 c.with_part.result = search rules in
    simp to_z-of_z (c.with_part.ensures ∙ worth_with c.args.model.now c.args.b.now (set c.args.b.now c.args.x c.args.allowed) ms c.args.self.now priced)
