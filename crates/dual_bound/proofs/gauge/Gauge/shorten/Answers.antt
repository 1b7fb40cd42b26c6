use Rattle.dual_bound.proofs.Shortened.{shortened_priced}
use Rattle.dual_bound.proofs.gauge.Gauge.shorten.Goals as goal

pub invariant_of-self : goal.invariant_of-self
invariant_of-self c = record {
  whole = c.self.invariant.whole;
  priced = shortened_priced c.self.inside.model.now c.self.inside.b c.args.count c.self.inside.multipliers c.shorten.new.self c.shorten.result c.self.inside.costs c.self.invariant.priced c.shorten.ensures.shorter c.shorten.ensures.zero;
  minimizer = c.self.invariant.minimizer;
}
