use Rattle.std.proofs.Common.{subst}
use Rattle.dual_bound.specs.Gauging.{Gauging}
use Rattle.dual_bound.specs.Rising.{Ends}
use Rattle.dual_bound.proofs.gauge.Gauge.raise.Goals as goal

pub returns-clause-ends : goal.returns-clause-ends
returns-clause-ends c = subst (λ (g : Gauging). Ends g.voyage g.box c.raise_kept.new.m c.args.cut c.raise_kept.result) c.self.view_is c.raise_kept.ensures.ends
