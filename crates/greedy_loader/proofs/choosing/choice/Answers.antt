use Rattle.std.proofs.Common.{inl}
use Rattle.greedy_loader.proofs.Lower.{choice_of}
use Rattle.greedy_loader.proofs.choosing.choice.Goals as goal

pub returns-in-Some : goal.returns-in-Some
returns-in-Some c = inl c.in-Some.ensures

pub returns-in-None : goal.returns-in-None
returns-in-None c = choice_of c.args.ship.now c.args.cargo.now c.args.layout.now.plan c.args.x.now c.first_open.result c.in-None.ensures c.first_open.ensures
