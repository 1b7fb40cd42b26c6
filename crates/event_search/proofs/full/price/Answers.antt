use Rattle.event_search.proofs.Fixed.{price_is}
use Rattle.event_search.proofs.full.price.Goals as goal

pub returns : goal.returns
returns c = price_is c.args.model.now c.args.b.now c.cost_of.result c.cost_of.ensures
