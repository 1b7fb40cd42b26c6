use Rattle.std.proofs.Common.{refl}
use Rattle.std.proofs.lemmas.Bool.{both_ways}
use Rattle.voyage_meaning.proofs.Fairness.{no_fault}
use Rattle.voyage_meaning.proofs.Stepping.{in_range}
use Rattle.voyage_meaning.proofs.crane.try_move.Goals as goal

pub returns-then-not-has-clause-does : goal.returns-then-not-has-clause-does
returns-then-not-has-clause-does c = ((λ can. both_ways c.has.result c.if-not-has.true (c.has.ensures.1 (in_range c.args.ship.now c.args.cargo.now c.args.berth.now.state c.args.m.now c.requires can))), refl)

pub returns-in-Err-clause-does : goal.returns-in-Err-clause-does
returns-in-Err-clause-does c = ((λ can. no_fault c.args.ship.now c.args.cargo.now c.args.berth.now.state c.args.m.now c.in-Err.field-0 can c.in-Err.ensures.does.0.is_fault), c.in-Err.ensures.does.1)
