use Rattle.std.proofs.Common.{sym, subst}
use Rattle.certificate.specs.declared.tree.Record.{Record}
use Rattle.node_solver.specs.Work.{EndsClosed, EndsFull}
use Rattle.node_work.proofs.Ends.{full_closed, full_ends}
use Rattle.node_work.proofs.ending.end_full.Goals as goal

pub returns-in_ok-full-clause-worked : goal.returns-in_ok-full-clause-worked
returns-in_ok-full-clause-worked c = λ q most tight.
    subst (λ (r : Record). EndsFull c.args.model.now q most c.args.cut r c.in_ok-full.full c.cost_of-cost.result) (sym c.in_ok-entry.ensures)
    (full_ends c.args.model.now q most c.args.cut c.cost_of-cost.result c.args.steps c.args.b.now tight c.requires.vars c.requires.full c.requires.quiet c.cost_of-cost.ensures c.new.result c.in_ok-full.full c.new.ensures c.in_ok-full.ensures c.if-cost-cut.true)

pub returns-else-cost-cut-clause-worked : goal.returns-else-cost-cut-clause-worked
returns-else-cost-cut-clause-worked c = λ q most tight.
    subst (λ (r : Record). EndsClosed c.args.model.now q most c.args.cut r) (sym c.in_ok-entry.ensures)
    (full_closed c.args.model.now q most c.args.cut c.cost_of-cost.result c.args.steps c.args.b.now tight c.requires.vars c.requires.full c.requires.quiet c.cost_of-cost.ensures c.new.result c.new.ensures c.if-cost-cut.false)
