use Rattle.std.proofs.Common.{ℕ, refl, subst}
use Rattle.std.specs.Prelude.{IfOk}
use Rattle.zero_one_rows.specs.declared.program.Row.{Row}
use Rattle.zero_one_rows.specs.Rows.{whole}
use Rattle.proof_trees.specs.Trees.{Pending, root}
use Rattle.node_solver.specs.Work.{Works, most_at}
use Rattle.node_work.proofs.Trails.{pending}
use Rattle.node_work.proofs.Pricing.{in_range, named_along, begun_is}
use Rattle.node_work.proofs.state.work_at_position.Goals as goal

pub price_along-requires-clause-range : goal.price_along-requires-clause-range
price_along-requires-clause-range c = in_range c.args.model.now (root (whole c.args.model.now)) c.args.node.now.path c.args.node.now.trail c.requires.trail

pub price_along-requires-clause-rows : goal.price_along-requires-clause-rows
price_along-requires-clause-rows c = named_along c.args.model.now (root (whole c.args.model.now)) c.args.node.now.path c.args.node.now.trail c.requires.trail

pub returns-clause-worked : goal.returns-clause-worked
returns-clause-worked c =
    subst (λ (q : Pending Row). IfOk c.end.result (Works c.args.model.now q (most_at c.args.node.now) c.args.cut))
    (begun_is c.args.model.now c.args.node.now c.walk_to.new.self.kept.known c.price_along.new.self.gauge.multipliers c.as_slice-path.result.now c.args.node.now.trail c.requires.trail c.as_slice-path.ensures refl c.in_ok-walk_to.ensures.begins c.in_ok-price_along.ensures.prices)
    (subst (λ (n : ℕ). IfOk c.end.result (Works c.args.model.now (pending c.walk_to.new.self.kept.known c.price_along.new.self.gauge.multipliers) n c.args.cut)) c.most_raises-most.ensures c.end.ensures.worked)
