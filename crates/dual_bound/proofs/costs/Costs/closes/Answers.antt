use Rattle.std.proofs.Common.{ℤ, pos, ◌-ℤ◌, ◌*ℤ◌, ◌<ℤ◌, subst}
use Rattle.std.specs.Prelude.{IsTrue, ◌↔◌}
use Rattle.dual_bound.proofs.Pricing.{value_is}
use Rattle.dual_bound.proofs.costs.Costs.closes.Goals as goal

pub returns : goal.returns
returns c = subst (λ (z : ℤ). IsTrue c.is_above.result ↔ (pos 16 *ℤ (pos c.args.cut -ℤ pos 1)) <ℤ z) (value_is c.args.model.now c.args.b.now c.args.m.now c.args.self.now c.requires) c.is_above.ensures
