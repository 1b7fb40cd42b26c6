use Rattle.greedy_loader.proofs.TooHigh.{too_high}
use Rattle.greedy_loader.proofs.opening.is_too_high.Goals as goal

pub top_of-requires : goal.top_of-requires
top_of-requires c = rw c.requires.kept.each_stack_too c.requires.inside

pub returns : goal.returns
returns c h = too_high c.args.ship.now c.args.cargo.now c.args.layout.now.plan c.args.layout.now.tops c.top_of.result c.args.place.now c.requires.kept.formed c.requires.kept.tops c.top_of.ensures (c.is_past.ensures.0 h)
